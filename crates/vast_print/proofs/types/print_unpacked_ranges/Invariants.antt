use Rattle.std.proofs.Common.{drop}
use Rattle.vast_print.specs.Declaration.{unpacked_text}
use Rattle.vast_core.specs.Internal.BitCount.{sizes_of}
use Rattle.vast_core.specs.View.{bench}
use Rattle.vast_print.proofs.Left.{TextLeft}
use Rattle.vast_print.proofs.types.print_unpacked_ranges.Given as goal

abbrev pub invariant-loop-dimension : goal.invariant-loop-dimension
invariant-loop-dimension l = TextLeft l.fn.out l.out (unpacked_text l.file_type (sizes_of (bench l.ast) l.dimensions)) (unpacked_text l.file_type (sizes_of (bench l.ast) (drop l.dimension-index l.dimensions)))
