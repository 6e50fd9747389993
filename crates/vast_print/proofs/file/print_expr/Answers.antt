use Rattle.std.proofs.Common.{Ok}
use Rattle.vast_core.specs.Bench.{tree_of}
use Rattle.vast_core.specs.View.{bench}
use Rattle.vast_print.specs.Text.{expr_text}
use Rattle.vast_print.specs.Emits.{EmitsText}
use Rattle.vast_print.proofs.ArenaLaws.{emits-line, refuses-line}
use Rattle.vast_print.proofs.Derivations.{emitted-derives}
use Rattle.vast_print.proofs.file.print_expr.Goals as goal

pub returns-in-Ok-clause-text : goal.returns-in-Ok-clause-text
returns-in-Ok-clause-text c = emits-line (expr_text (tree_of (bench c.args.ast.now) c.args.e)) c.print_line.new.out.draft _ (rw c.new-out.ensures at c.in-Ok.ensures).0 c.finish_line.ensures

pub returns-in-Ok-clause-derived : goal.returns-in-Ok-clause-derived
returns-in-Ok-clause-derived c =
    let text : EmitsText (expr_text (tree_of (bench c.args.ast.now) c.args.e)) (Ok c.finish_line.result) =
    emits-line (expr_text (tree_of (bench c.args.ast.now) c.args.e)) c.print_line.new.out.draft _ (rw c.new-out.ensures at c.in-Ok.ensures).0 c.finish_line.ensures in
    emitted-derives (bench c.args.ast.now) c.args.e (Ok c.finish_line.result) c.trees_are_well_formed.ensures c.requires text

pub returns-in-Err-clause-text : goal.returns-in-Err-clause-text
returns-in-Err-clause-text c = refuses-line (expr_text (tree_of (bench c.args.ast.now) c.args.e)) c.new-out.result c.print_line.new.out c.in-Err.fault c.fault_of.result c.new-out.ensures c.in-Err.ensures c.fault_of.ensures
