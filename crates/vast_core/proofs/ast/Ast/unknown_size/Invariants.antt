use Rattle.std.proofs.Common.{◌≡◌, drop}
use Rattle.vast_core.specs.Internal.BitCount.{sizes_of}
use Rattle.vast_core.specs.BitCount.{unknown_size}
use Rattle.vast_core.specs.View.{bench}
use Rattle.vast_core.proofs.ast.Ast.unknown_size.Given as goal

-- Those that were passed have values.
abbrev pub invariant-loop-dimension : goal.invariant-loop-dimension
invariant-loop-dimension l = unknown_size (sizes_of (bench l.self) (drop l.dimension-index l.dimensions)) ≡ unknown_size (sizes_of (bench l.self) l.dimensions)
