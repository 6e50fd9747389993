use Rattle.std.proofs.Common.{◌≡◌, pos, ◌*ℤ◌, ◌≤ℤ◌}
use Rattle.vast_core.specs.Handles.{type_rank}
use Rattle.vast_core.specs.Bench.{OwnsType, type_of}
use Rattle.vast_core.specs.BitCount.{product, dimensions_of}
use Rattle.vast_core.specs.View.{bench}
use Rattle.vast_core.proofs.ast.Ast.flat_bit_count.Given as goal

-- The dimensions that are left times what was counted make the whole.
abbrev pub invariant-loop-array : goal.invariant-loop-array
invariant-loop-array l =
    record {
      owned : OwnsType (bench l.self) l.array;
      some : pos 1 ≤ℤ l.count;
      same : product (dimensions_of (type_of (bench l.self) l.array)) *ℤ l.count ≡ product (dimensions_of (type_of (bench l.self) l.fn.data_type)) *ℤ l.bits;
    }

abbrev pub decreases-loop-array : goal.decreases-loop-array
decreases-loop-array l = type_rank l.array
