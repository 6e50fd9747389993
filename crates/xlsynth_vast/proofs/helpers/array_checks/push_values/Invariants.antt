use Rattle.std.proofs.Common.{◌≡◌, ◌++◌, drop}
use Rattle.vast_core.specs.Internal.BitCount.{sizes_of}
use Rattle.vast_core.specs.BitCount.{size_values}
use Rattle.vast_core.specs.View.{bench}
use Rattle.xlsynth_vast.proofs.helpers.array_checks.push_values.Given as goal

-- What is made and the values that are left.
abbrev pub invariant-loop-dimension : goal.invariant-loop-dimension
invariant-loop-dimension l =
    l.made.items ++ size_values (sizes_of (bench l.ast) (drop l.dimension-index l.dimensions)) ≡ l.fn.made.items ++ size_values (sizes_of (bench l.ast) l.dimensions)
