use Rattle.std.proofs.Common.{◌≡◌, ◌+◌, ◌≤◌, None, length, drop, take}
use Rattle.vast_calls.specs.Lines.{lines_of}
use Rattle.vast_c.specs.Seen.{Gave, more_lines}
use Rattle.vast_c.proofs.kept.Kept.make_lines.Given as goal

-- The lines so far gave what they gave and were counted, and those after them are the rest's.
abbrev pub invariant-loop-rest : goal.invariant-loop-rest
invariant-loop-rest l = record {
  gave : Gave l.initial.self.session (take l.taken (lines_of l.lines)) l.self.session;
  counted : l.self.lines ≡ more_lines l.initial.self.lines l.taken;
  none : l.self.told ≡ None;
  file : l.self.file ≡ l.initial.self.file;
  behind : drop l.taken (lines_of l.lines) ≡ lines_of l.rest;
  within : l.taken ≤ length (lines_of l.lines);
  bounded : l.taken + length l.rest ≤ length l.lines;
}

abbrev pub decreases-loop-rest : goal.decreases-loop-rest
decreases-loop-rest l = length l.rest
