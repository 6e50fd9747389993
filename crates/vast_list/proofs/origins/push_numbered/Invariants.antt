use Rattle.std.proofs.Common.{◌≡◌, ◌++◌, take}
use Rattle.vast_list.specs.Origins.{numbered}
use Rattle.vast_list.proofs.origins.push_numbered.Given as goal

-- The lines so far were appended.
abbrev pub invariant-loop-line : goal.invariant-loop-line
invariant-loop-line l = l.mapped.items ≡ l.initial.mapped.items ++ numbered (take l.line-index l.lines)
