use Rattle.std.proofs.Common.{length}
use Rattle.vast_session.proofs.PackedSessions.{RunsUpTo}
use Rattle.vast_session.proofs.session.Session.packed_calls.Given as goal

abbrev pub invariant-loop-rest : goal.invariant-loop-rest
invariant-loop-rest l = RunsUpTo l.fn.self l.self l.fn.calls l.rest

abbrev pub decreases-loop-rest : goal.decreases-loop-rest
decreases-loop-rest l = length l.rest
