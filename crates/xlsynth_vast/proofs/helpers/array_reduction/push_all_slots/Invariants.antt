use Rattle.xlsynth_vast.proofs.ArrayReduced.{Leveled}
use Rattle.xlsynth_vast.proofs.helpers.array_reduction.push_all_slots.Given as goal

abbrev pub invariant-loop-array : goal.invariant-loop-array
invariant-loop-array l = Leveled l.fn.file l.file l.dimension l.arrays l.array-index l.fn.made.items l.made.items
