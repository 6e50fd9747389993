use Rattle.xlsynth_vast.proofs.ArrayReduced.{Slotted}
use Rattle.xlsynth_vast.proofs.helpers.array_reduction.push_slots.Given as goal

abbrev pub invariant-loop-index : goal.invariant-loop-index
invariant-loop-index l = Slotted l.fn.file l.file l.fn.array l.dimension l.index l.fn.made.items l.made.items
