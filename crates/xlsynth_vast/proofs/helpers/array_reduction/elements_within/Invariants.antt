use Rattle.xlsynth_vast.proofs.ArrayReduced.{Deepened}
use Rattle.xlsynth_vast.proofs.helpers.array_reduction.elements_within.Given as goal

abbrev pub invariant-loop-dimension : goal.invariant-loop-dimension
invariant-loop-dimension l = Deepened l.fn.file l.file l.fn.array l.dimensions l.dimension-index l.arrays.items
