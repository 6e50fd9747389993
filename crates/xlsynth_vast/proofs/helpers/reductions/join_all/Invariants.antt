use Rattle.std.proofs.Common.{drop}
use Rattle.xlsynth_vast.proofs.Reduced.{Joining}
use Rattle.xlsynth_vast.proofs.helpers.reductions.join_all.Given as goal

abbrev pub invariant-loop-value : goal.invariant-loop-value
invariant-loop-value g l = Joining g.operator l.fn.file l.file l.initial.whole l.whole l.rest (drop l.value-index l.rest)
