use Rattle.std.proofs.Common.{◌≡◌, ◌≤◌, ◌++◌, drop, length}
use Rattle.vast_list.specs.Origins.{text_of}
use Rattle.vast_list.proofs.origins.shared_end.Given as goal

-- The text ends with the lines from there on.
abbrev pub invariant-loop-place : goal.invariant-loop-place
invariant-loop-place l = (l.least ≤ l.place) × (l.place ≤ length l.lines) × (l.text ≡ l.rest ++ text_of (drop l.place l.lines))

abbrev pub decreases-loop-place : goal.decreases-loop-place
decreases-loop-place l = l.place
