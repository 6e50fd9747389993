use Rattle.vast_calls.proofs.PackedWords.{IsWriting}
use Rattle.vast_calls.proofs.packed.push_number.Given as goal

abbrev pub invariant-loop-left : goal.invariant-loop-left
invariant-loop-left l = IsWriting l.fn.bytes.items l.bytes.items l.fn.number l.left

abbrev pub decreases-loop-left : goal.decreases-loop-left
decreases-loop-left l = l.left
