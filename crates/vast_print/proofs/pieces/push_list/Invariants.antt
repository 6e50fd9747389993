use Rattle.std.proofs.Common.{◌≡◌, ◌≤◌, ◌+◌, length, drop}
use Rattle.vast_core.specs.Bench.{trees_of}
use Rattle.vast_core.specs.View.{bench}
use Rattle.vast_print.specs.Internal.Pieces.{exprs_weight, pieces_text, pieces_weight, PiecesOwned}
use Rattle.vast_print.specs.Printed.{◌⊕◌}
use Rattle.vast_print.proofs.SeparatedLaws.{rest_text}
use Rattle.vast_print.proofs.pieces.push_list.Given as goal

abbrev pub invariant-loop-i : goal.invariant-loop-i
invariant-loop-i l =
    record {
      in_range : l.i ≤ length l.parts;
      text : pieces_text (bench l.ast) l.work.items ≡ rest_text l.i (trees_of (bench l.ast) (drop l.i l.parts)) ⊕ pieces_text (bench l.ast) l.fn.work.items;
      weight : pieces_weight (bench l.ast) l.work.items ≡ pieces_weight (bench l.ast) l.fn.work.items + exprs_weight (trees_of (bench l.ast) (drop l.i l.parts));
      owned : PiecesOwned (bench l.ast) l.work.items;
    }

abbrev pub decreases-loop-i : goal.decreases-loop-i
decreases-loop-i l = l.i
