use Rattle.std.proofs.Common.{◌≡◌, ◌+◌, ◌≤◌, None, length}
use Rattle.vast_session.specs.PackedFronts.{RunsPacked}
use Rattle.vast_c.specs.Seen.{more_lines}
use Rattle.vast_c.proofs.kept.Kept.make_packed.Given as goal

-- The calls so far were made and counted, and the rest stands after them.
abbrev pub invariant-loop-rest : goal.invariant-loop-rest
invariant-loop-rest l = record {
  made : RunsPacked l.taken l.initial.self.session l.self.session l.calls l.rest;
  counted : l.self.lines ≡ more_lines l.initial.self.lines l.taken;
  none : l.self.told ≡ None;
  file : l.self.file ≡ l.initial.self.file;
  bounded : l.taken + length l.rest ≤ length l.calls;
}

abbrev pub decreases-loop-rest : goal.decreases-loop-rest
decreases-loop-rest l = length l.rest
