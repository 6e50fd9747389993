use Rattle.std.proofs.Common.{codes}
use Rattle.vast_print.specs.Text.{expr_text}
use Rattle.vast_core.specs.Bench.{tree_of, type_of}
use Rattle.vast_core.specs.View.{bench}
use Rattle.xlsynth_vast.specs.Widths.{no_literal, declared_width}
use Rattle.xlsynth_vast.proofs.Widths.{refused_by, symbolic_width, no_width}
use Rattle.xlsynth_vast.proofs.file.VastFile.type_width_as_int64.Goals as goal

pub returns-in-Err-Symbolic : goal.returns-in-Err-Symbolic
returns-in-Err-Symbolic c =
    let b = bench c.self.inside.ast in
    let t = type_of b c.args.data_type in
    let e = tree_of b c.in-Err-Symbolic.width in
    let h = rw c.in-Err-Symbolic.field-0-is at c.in-Err-Symbolic.ensures.refused in
    rw (← c.self.view_is) (refused_by (declared_width t) (no_literal (expr_text e)) c.no_literal.result (symbolic_width t e h.1 h.2) c.no_literal.ensures)

pub returns-in-Err-Undeclared : goal.returns-in-Err-Undeclared
returns-in-Err-Undeclared c =
    let t = type_of (bench c.self.inside.ast) c.args.data_type in
    let h = rw c.in-Err-Undeclared.field-0-is at c.in-Err-Undeclared.ensures.refused in
    rw (← c.self.view_is) (refused_by (declared_width t) (codes "data type does not have a declared bit-vector width") c.no_declared_width.result (no_width t h.0 h.1) c.no_declared_width.ensures)
