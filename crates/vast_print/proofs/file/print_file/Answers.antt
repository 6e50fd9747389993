use Rattle.std.proofs.Common.{Ok}
use Rattle.vast_core.specs.FileTree.{tree}
use Rattle.vast_core.specs.View.{bench}
use Rattle.vast_print.specs.Emits.{Emits}
use Rattle.vast_print.specs.Layout.{layout}
use Rattle.vast_print.proofs.ArenaLaws.{emits-page, refuses-page}
use Rattle.vast_print.proofs.Derivations.{emitted-file}
use Rattle.vast_print.proofs.file.print_file.Goals as goal

pub returns-in_ok-finish-in-Ok-clause-text : goal.returns-in_ok-finish-in-Ok-clause-text
returns-in_ok-finish-in-Ok-clause-text c = emits-page (layout (tree (bench c.args.ast.now))) c.print_items.new.out.draft _ (rw c.new-out.ensures at c.in-Ok.ensures).0 c.in_ok-finish-in-Ok.ensures

pub returns-in_ok-finish-in-Ok-clause-derived : goal.returns-in_ok-finish-in-Ok-clause-derived
returns-in_ok-finish-in-Ok-clause-derived c =
    let text : Emits (layout (tree (bench c.args.ast.now))) (Ok c.in_ok-finish-in-Ok.field-0) =
    emits-page (layout (tree (bench c.args.ast.now))) c.print_items.new.out.draft _ (rw c.new-out.ensures at c.in-Ok.ensures).0 c.in_ok-finish-in-Ok.ensures in
    emitted-file (tree (bench c.args.ast.now)) (Ok c.in_ok-finish-in-Ok.field-0) c.file_is_well_formed.ensures text

pub returns-in-Err-clause-text : goal.returns-in-Err-clause-text
returns-in-Err-clause-text c = refuses-page (layout (tree (bench c.args.ast.now))) c.new-out.result c.print_items.new.out c.in-Err.fault c.fault_of.result c.new-out.ensures c.in-Err.ensures c.fault_of.ensures
