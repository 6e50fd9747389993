use Rattle.std.proofs.Common.{◌≡◌, ◌++◌, take}
use Rattle.vast_list.specs.Origins.{text_of}
use Rattle.vast_list.proofs.origins.shared_begin.Given as goal

-- The text begins with the lines so far.
abbrev pub invariant-loop-place : goal.invariant-loop-place
invariant-loop-place l = l.text ≡ text_of (take l.place l.lines) ++ l.rest
