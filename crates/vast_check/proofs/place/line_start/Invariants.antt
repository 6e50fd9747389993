use Rattle.std.proofs.Common.{◌≡◌, ◌+◌, ◌-◌, ◌≤◌, length, take}
use Rattle.std.specs.List.{suffix_len}
use Rattle.vast_check.specs.Internal.Places.{is_no_break}
use Rattle.vast_check.proofs.place.line_start.Given as goal

abbrev pub invariant-loop-start : goal.invariant-loop-start
invariant-loop-start l = (l.start ≤ length l.bytes) × (length l.bytes - l.start + suffix_len is_no_break (take l.start l.bytes) ≡ suffix_len is_no_break l.bytes)

abbrev pub decreases-loop-start : goal.decreases-loop-start
decreases-loop-start l = l.start
