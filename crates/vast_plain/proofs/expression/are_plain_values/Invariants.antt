use Rattle.std.proofs.Common.{◌≡◌, All}
use Rattle.vast_core.specs.Bench.{OwnsExpr, trees_of}
use Rattle.vast_core.specs.View.{bench}
use Rattle.vast_plain.specs.Internal.Values.{exprs_weight}
use Rattle.vast_plain.proofs.expression.are_plain_values.Given as goal
use Rattle.vast_literal.specs.Plain.{are_plain}

abbrev pub invariant-loop-e : goal.invariant-loop-e
invariant-loop-e l =
    record {
      same : are_plain (trees_of (bench l.ast) l.fn.waiting.items) ≡ are_plain (trees_of (bench l.ast) l.waiting.items);
      owned : All (OwnsExpr (bench l.ast)) l.waiting.items;
    }

abbrev pub decreases-loop-e : goal.decreases-loop-e
decreases-loop-e l = exprs_weight (trees_of (bench l.ast) l.waiting.items)
