use Rattle.std.proofs.Common.{◌≡◌, ◌+◌, ◌≤◌, All}
use Rattle.std.specs.Prelude.{◌&&◌}
use Rattle.vast_literal.specs.Plain.{are_plain, is_plain_type}
use Rattle.vast_core.specs.Handles.{type_rank}
use Rattle.vast_core.specs.Bench.{OwnsExpr, OwnsType, trees_of, type_of}
use Rattle.vast_core.specs.View.{bench}
use Rattle.vast_plain.specs.Internal.Values.{exprs_weight, type_weight}
use Rattle.vast_plain.proofs.types.begin_type.Given as goal

-- The type that is left and all that waits are plain where the type and all that waited are.
abbrev pub invariant-loop-element : goal.invariant-loop-element
invariant-loop-element l =
    record {
      inner : OwnsType (bench l.ast) l.inner;
      plain : (is_plain_type (type_of (bench l.ast) l.inner) && are_plain (trees_of (bench l.ast) l.waiting.items)) ≡ (is_plain_type (type_of (bench l.ast) l.fn.t) && are_plain (trees_of (bench l.ast) l.fn.waiting.items));
      weight : exprs_weight (trees_of (bench l.ast) l.waiting.items) + type_weight (type_of (bench l.ast) l.inner) ≤ exprs_weight (trees_of (bench l.ast) l.fn.waiting.items) + type_weight (type_of (bench l.ast) l.fn.t);
      owned : All (OwnsExpr (bench l.ast)) l.waiting.items;
    }

abbrev pub decreases-loop-element : goal.decreases-loop-element
decreases-loop-element l = type_rank l.inner
