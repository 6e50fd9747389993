use Rattle.std.proofs.Common.{◌≡◌, ◌++◌, ◌≤◌, drop, length}
use Rattle.vast_rows.proofs.stack.Stack.push_all.Given as goal

abbrev pub invariant-loop-at : goal.invariant-loop-at
invariant-loop-at g l = record { there : l.at ≤ length l.items; pushed : l.self ≡ drop l.at l.items ++ l.fn.self }

abbrev pub decreases-loop-at : goal.decreases-loop-at
decreases-loop-at g l = l.at
