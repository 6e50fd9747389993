use Rattle.std.proofs.Common.{◌≡◌, ◌++◌}
use Rattle.vast_core.specs.Handles.{type_rank}
use Rattle.vast_core.specs.Bench.{OwnsType, type_of}
use Rattle.vast_core.specs.View.{bench}
use Rattle.xlsynth_vast.specs.ArrayReduction.{packed_dimensions}
use Rattle.xlsynth_vast.proofs.helpers.array_checks.packed_dimensions.Given as goal

-- What is made and the dimensions of the array that is left are those of the type.
abbrev pub invariant-loop-element : goal.invariant-loop-element
invariant-loop-element l =
    record {
      owned : OwnsType (bench l.ast) l.array;
      same : l.made.items ++ packed_dimensions (type_of (bench l.ast) l.array) ≡ packed_dimensions (type_of (bench l.ast) l.fn.data_type);
    }

abbrev pub decreases-loop-element : goal.decreases-loop-element
decreases-loop-element l = type_rank l.array
