use Rattle.std.proofs.Common.{drop, map}
use Rattle.vast_core.specs.FileTree.{variable_tree}
use Rattle.vast_core.specs.View.{bench}
use Rattle.vast_print.specs.Members.{locals_page}
use Rattle.vast_print.proofs.Left.{LinesLeft}
use Rattle.vast_print.proofs.function.print_locals.Given as goal

abbrev pub invariant-loop-local : goal.invariant-loop-local
invariant-loop-local l = LinesLeft l.fn.out l.out (locals_page (bench l.ast).file_type (map (variable_tree (bench l.ast)) l.locals)) (locals_page (bench l.ast).file_type (map (variable_tree (bench l.ast)) (drop l.local-index l.locals)))
