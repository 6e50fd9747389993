use Rattle.std.proofs.Common.{◌≡◌, drop, map}
use Rattle.vast_literal.specs.PlainFile.{are_plain_items, is_plain_file}
use Rattle.vast_core.specs.FileTree.{tree, item_tree}
use Rattle.vast_core.specs.View.{bench}
use Rattle.vast_plain.proofs.file.is_plain_file.Given as goal

abbrev pub invariant-loop-item : goal.invariant-loop-item
invariant-loop-item l =
    is_plain_file (tree (bench l.ast))
    ≡ are_plain_items (map (item_tree (bench l.ast)) (drop l.item-index l.item-items))
