use Rattle.std.proofs.Common.{◌≡◌, ℕ, ◌<◌, ◌≤◌, ◌-◌, false, length, get_or}
use Rattle.vast_calls.specs.Lines.{is_line_feed}
use Rattle.vast_session.proofs.lines.line_end.Given as goal

-- None of the bytes so far is a line feed.
abbrev pub invariant-loop-end : goal.invariant-loop-end
invariant-loop-end l = ((k : ℕ) → k < l.end → is_line_feed (get_or l.bytes k 0) ≡ false) × (l.end ≤ length l.bytes)

abbrev pub decreases-loop-end : goal.decreases-loop-end
decreases-loop-end l = length l.bytes - l.end
