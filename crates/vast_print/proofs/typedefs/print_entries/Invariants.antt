use Rattle.std.proofs.Common.{drop, map}
use Rattle.vast_core.specs.FileTree.{connection_tree}
use Rattle.vast_core.specs.View.{bench}
use Rattle.vast_print.specs.Members.{entries_page, entry_text}
use Rattle.vast_print.proofs.Left.{LinesLeft}
use Rattle.vast_print.proofs.typedefs.print_entries.Given as goal

abbrev pub invariant-loop-i : goal.invariant-loop-i
invariant-loop-i l = LinesLeft l.fn.out l.out (entries_page (map entry_text (map (connection_tree (bench l.ast)) l.entries))) (entries_page (map entry_text (map (connection_tree (bench l.ast)) (drop l.i l.entries))))
