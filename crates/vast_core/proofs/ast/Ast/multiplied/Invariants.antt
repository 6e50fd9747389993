use Rattle.std.proofs.Common.{◌≡◌, pos, ◌*ℤ◌, ◌≤ℤ◌, drop}
use Rattle.vast_core.specs.Internal.BitCount.{sizes_of}
use Rattle.vast_core.specs.BitCount.{product, size_values}
use Rattle.vast_core.specs.View.{bench}
use Rattle.vast_core.proofs.ast.Ast.multiplied.Given as goal

-- What is left times what there is makes what is asked.
abbrev pub invariant-loop-dimension : goal.invariant-loop-dimension
invariant-loop-dimension l =
    let values = size_values (sizes_of (bench l.self) l.dimensions) in
    record {
      some : pos 1 ≤ℤ l.total;
      same : product (drop l.dimension-index values) *ℤ l.total ≡ product values *ℤ l.fn.count;
    }
