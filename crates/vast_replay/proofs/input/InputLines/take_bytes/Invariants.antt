use Rattle.std.proofs.Common.{length}
use Rattle.vast_replay.proofs.Inputs.{ReadsUpTo}
use Rattle.vast_replay.proofs.input.InputLines.take_bytes.Given as goal

-- The bytes were read up to the rest.
abbrev pub invariant-loop-piece : goal.invariant-loop-piece
invariant-loop-piece l = ReadsUpTo l.initial.self l.self l.bytes l.rest

abbrev pub decreases-loop-piece : goal.decreases-loop-piece
decreases-loop-piece l = length l.rest
