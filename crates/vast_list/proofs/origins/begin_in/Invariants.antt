use Rattle.std.proofs.Common.{◌≡◌, ◌-◌, length, take}
use Rattle.vast_list.specs.Origins.{text_of}
use Rattle.vast_list.proofs.origins.begin_in.Given as goal

-- The lines so far were taken off.
abbrev pub invariant-loop-line : goal.invariant-loop-line
invariant-loop-line l = l.begin ≡ length l.output - length (text_of (take l.line-index l.lines))
