use Rattle.std.proofs.Common.{◌≡◌, ◌+◌, ◌-◌, ◌≤◌, length, drop}
use Rattle.std.specs.List.{prefix_len}
use Rattle.vast_read.specs.Internal.Scanner.{passes}
use Rattle.vast_read.proofs.scanner.run.run_end.Given as goal

abbrev pub invariant-loop-end : goal.invariant-loop-end
invariant-loop-end l =
    (l.from + prefix_len (passes l.class) (drop l.from l.text) ≡ l.end + prefix_len (passes l.class) (drop l.end l.text)) × (l.end ≤ length l.text)

abbrev pub decreases-loop-end : goal.decreases-loop-end
decreases-loop-end l = length l.text - l.end
