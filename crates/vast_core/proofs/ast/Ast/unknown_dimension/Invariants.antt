use Rattle.std.proofs.Common.{◌≡◌}
use Rattle.vast_core.specs.Handles.{type_rank}
use Rattle.vast_core.specs.Bench.{OwnsType, type_of}
use Rattle.vast_core.specs.BitCount.{unknown_dimension}
use Rattle.vast_core.specs.View.{bench}
use Rattle.vast_core.proofs.ast.Ast.unknown_dimension.Given as goal

-- The arrays that were passed have no such dimension.
abbrev pub invariant-loop-array : goal.invariant-loop-array
invariant-loop-array l =
    record {
      owned : OwnsType (bench l.self) l.array;
      same : unknown_dimension (type_of (bench l.self) l.array) ≡ unknown_dimension (type_of (bench l.self) l.fn.data_type);
    }

abbrev pub decreases-loop-array : goal.decreases-loop-array
decreases-loop-array l = type_rank l.array
