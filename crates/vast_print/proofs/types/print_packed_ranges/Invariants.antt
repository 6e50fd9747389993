use Rattle.std.proofs.Common.{drop}
use Rattle.vast_print.specs.Declaration.{packed_text}
use Rattle.vast_core.specs.Internal.BitCount.{sizes_of}
use Rattle.vast_core.specs.View.{bench}
use Rattle.vast_print.proofs.Left.{TextLeft}
use Rattle.vast_print.proofs.types.print_packed_ranges.Given as goal

abbrev pub invariant-loop-dimension : goal.invariant-loop-dimension
invariant-loop-dimension l = TextLeft l.fn.out l.out (packed_text (sizes_of (bench l.ast) l.dimensions)) (packed_text (sizes_of (bench l.ast) (drop l.dimension-index l.dimensions)))
