use Rattle.std.proofs.Common.{◌≡◌, pos, ◌*ℤ◌, ◌≤ℤ◌, drop}
use Rattle.vast_core.specs.BitCount.{product}
use Rattle.xlsynth_vast.proofs.helpers.array_checks.product.Given as goal

-- What is left times what there is makes what is asked.
abbrev pub invariant-loop-dimension : goal.invariant-loop-dimension
invariant-loop-dimension l =
    record {
      some : pos 1 ≤ℤ pos l.total;
      same : product (drop l.dimension-index l.dimensions) *ℤ pos l.total ≡ product l.dimensions;
    }
