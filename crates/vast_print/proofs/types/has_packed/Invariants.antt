use Rattle.std.proofs.Common.{◌≡◌}
use Rattle.vast_literal.specs.Shape.{packed_dimensions}
use Rattle.vast_core.specs.Handles.{type_rank}
use Rattle.vast_core.specs.Bench.{OwnsType, type_of}
use Rattle.vast_print.specs.Internal.Words.{has_dimension}
use Rattle.vast_core.specs.View.{bench}
use Rattle.vast_print.proofs.types.has_packed.Given as goal

abbrev pub invariant-loop-element : goal.invariant-loop-element
invariant-loop-element l =
    record {
      owned : OwnsType (bench l.ast) l.inner;
      same : has_dimension (packed_dimensions (type_of (bench l.ast) l.inner)) ≡ has_dimension (packed_dimensions (type_of (bench l.ast) l.fn.t));
    }

abbrev pub decreases-loop-element : goal.decreases-loop-element
decreases-loop-element l = type_rank l.inner
