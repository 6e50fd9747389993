use Rattle.std.proofs.Common.{◌≡◌, length}
use Rattle.vast_replay.specs.Internal.Input.{ReadsInput}
use Rattle.vast_replay.proofs.input.InputLines.take_rest.Given as goal

-- The lines of what was given so far were taken.
abbrev pub invariant-loop : goal.invariant-loop
invariant-loop g l = ReadsInput l.initial.self l.self (g.R.Read.remaining l.initial.input) (g.R.Read.remaining l.input) × (length l.buffer ≡ 65536)
