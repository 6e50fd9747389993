use Rattle.std.proofs.Common.{◌≡◌}
use Rattle.vast_replay.specs.declared.outcome.Outcome.{Outcome}
use Rattle.vast_replay.proofs.program.answer_lists.Given as goal

-- As long as no list failed, nothing was told.
abbrev pub invariant-loop-list : goal.invariant-loop-list
invariant-loop-list g l = l.outcome ≡ Outcome.Made → g.E.Write.contents l.err ≡ g.E.Write.contents l.initial.err
