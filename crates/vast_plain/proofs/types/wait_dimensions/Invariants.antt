use Rattle.std.proofs.Common.{◌≡◌, ◌+◌, ◌≤◌, drop, All}
use Rattle.std.specs.Prelude.{◌&&◌}
use Rattle.vast_literal.specs.Plain.{are_plain}
use Rattle.vast_core.specs.Bench.{OwnsExpr, trees_of}
use Rattle.vast_core.specs.Internal.BitCount.{sizes_of}
use Rattle.vast_core.specs.View.{bench}
use Rattle.vast_plain.specs.Internal.Values.{exprs_weight}
use Rattle.vast_plain.proofs.types.wait_dimensions.Given as goal

-- The dimensions that are left and all that waits are plain where all dimensions and all that waited are.
abbrev pub invariant-loop-dimension : goal.invariant-loop-dimension
invariant-loop-dimension l =
    record {
      plain : (are_plain (sizes_of (bench l.ast) (drop l.dimension-index l.dimensions)) && are_plain (trees_of (bench l.ast) l.waiting.items)) ≡ (are_plain (sizes_of (bench l.ast) l.dimensions) && are_plain (trees_of (bench l.ast) l.fn.waiting.items));
      weight : exprs_weight (trees_of (bench l.ast) l.waiting.items) + exprs_weight (sizes_of (bench l.ast) (drop l.dimension-index l.dimensions)) ≤ exprs_weight (trees_of (bench l.ast) l.fn.waiting.items) + exprs_weight (sizes_of (bench l.ast) l.dimensions);
      owned : All (OwnsExpr (bench l.ast)) l.waiting.items;
    }
