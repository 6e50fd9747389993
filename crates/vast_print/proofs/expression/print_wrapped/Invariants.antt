use Rattle.std.proofs.Common.{◌≡◌}
use Rattle.vast_core.specs.Bench.{tree_of}
use Rattle.vast_core.specs.View.{bench}
use Rattle.vast_print.specs.Output.{Unstopped, inline}
use Rattle.vast_print.specs.Page.{written}
use Rattle.vast_print.specs.Printed.{wrapped}
use Rattle.vast_print.specs.Text.{expr_text}
use Rattle.vast_print.specs.Internal.Pieces.{pieces_text, pieces_weight, PiecesOwned}
use Rattle.vast_print.proofs.expression.print_wrapped.Given as goal

abbrev pub invariant-loop-piece : goal.invariant-loop-piece
invariant-loop-piece l =
    record {
      same : inline l.fn.out.margin (Unstopped l.fn.out.draft) (written (wrapped l.fn.wraps (expr_text (tree_of (bench l.ast) l.fn.e)))) ≡ inline l.fn.out.margin (Unstopped l.out.draft) (written (pieces_text (bench l.ast) l.work.items));
      owned : PiecesOwned (bench l.ast) l.work.items;
      margin : l.out.margin ≡ l.fn.out.margin;
    }

abbrev pub decreases-loop-piece : goal.decreases-loop-piece
decreases-loop-piece l = pieces_weight (bench l.ast) l.work.items
