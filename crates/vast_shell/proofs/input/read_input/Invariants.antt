use Rattle.std.proofs.Common.{◌≡◌, ◌≤◌, length}
use Rattle.std.specs.Io.KnownBytes.{Consumes}
use Rattle.vast_shell.proofs.input.read_input.Given as goal

-- what was read so far stands in the vector, and is not too long
abbrev pub invariant-loop : goal.invariant-loop
invariant-loop g l =
    Consumes (g.R.Read.remaining l.initial.input) (g.R.Read.remaining l.input) l.bytes.items × (length l.bytes.items ≤ 16777216) × (length l.buffer ≡ 65536)
