use Rattle.vast_print.specs.Text.{expr_text}
use Rattle.vast_core.specs.Bench.{tree_of, type_of}
use Rattle.vast_core.specs.View.{bench}
use Rattle.xlsynth_vast.specs.Widths.{no_literal, uncounted, flat_bits}
use Rattle.xlsynth_vast.proofs.Widths.{refused_by, symbolic_count, external_count, dimension_count}
use Rattle.xlsynth_vast.proofs.file.VastFile.type_flat_bit_count_as_int64.Goals as goal

pub returns-in-Err-Symbolic : goal.returns-in-Err-Symbolic
returns-in-Err-Symbolic c =
    let b = bench c.self.inside.ast in
    let t = type_of b c.args.data_type in
    let e = tree_of b c.in-Err-Symbolic.width in
    let h = rw c.in-Err-Symbolic.field-0-is at c.in-Err-Symbolic.ensures.refused in
    rw (← c.self.view_is) (refused_by (flat_bits t) (no_literal (expr_text e)) c.no_literal.result (symbolic_count t e h.1 h.2) c.no_literal.ensures)

pub returns-in-Err-External : goal.returns-in-Err-External
returns-in-Err-External c =
    let b = bench c.self.inside.ast in
    let t = type_of b c.args.data_type in
    let u = type_of b c.in-Err-External.base in
    let h = rw c.in-Err-External.field-0-is at c.in-Err-External.ensures.refused in
    rw (← c.self.view_is) (refused_by (flat_bits t) (uncounted u) c.no_known_width.result (external_count t u h.1 h.2) c.no_known_width.ensures)

pub returns-in-Err-Dimension : goal.returns-in-Err-Dimension
returns-in-Err-Dimension c =
    let b = bench c.self.inside.ast in
    let t = type_of b c.args.data_type in
    let e = tree_of b c.in-Err-Dimension.size in
    let h = rw c.in-Err-Dimension.field-0-is at c.in-Err-Dimension.ensures.refused in
    rw (← c.self.view_is) (refused_by (flat_bits t) (no_literal (expr_text e)) c.no_literal-in-Err-Dimension.result (dimension_count t e h.1 h.2) c.no_literal-in-Err-Dimension.ensures)
