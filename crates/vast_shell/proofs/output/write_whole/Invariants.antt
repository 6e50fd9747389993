use Rattle.std.proofs.Common.{◌≡◌, List, ℕ, ◌++◌}
use Rattle.std.specs.Io.KnownBytes.{Appends}
use Rattle.vast_shell.proofs.output.write_whole.Given as goal

-- a front of the line is written, and the rest is left
abbrev pub invariant-loop : goal.invariant-loop
invariant-loop g l = (part : List ℕ) × (part ++ l.rest ≡ l.bytes) × Appends (g.W.Write.contents l.initial.out) (g.W.Write.contents l.out) part
