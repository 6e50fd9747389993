use Rattle.std.proofs.Common.{drop, map}
use Rattle.vast_core.specs.FileTree.{tree, item_tree}
use Rattle.vast_core.specs.View.{bench}
use Rattle.vast_print.specs.Layout.{items_page, layout}
use Rattle.vast_print.proofs.Left.{LinesLeft}
use Rattle.vast_print.proofs.file.print_items.Given as goal

abbrev pub invariant-loop-item : goal.invariant-loop-item
invariant-loop-item l = LinesLeft l.fn.out l.out (layout (tree (bench l.ast))) (items_page (bench l.ast).file_type (map (item_tree (bench l.ast)) (drop l.item-index l.item-items)))
