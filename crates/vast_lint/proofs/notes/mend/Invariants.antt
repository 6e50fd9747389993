use Rattle.std.proofs.Common.{◌≡◌, take}
use Rattle.vast_lint.specs.Notes.{all_mended, notes}
use Rattle.vast_lint.proofs.notes.mend.Given as goal

-- The answers of the numbers so far are mended.
abbrev pub invariant-loop-number : goal.invariant-loop-number
invariant-loop-number l = notes l.answers ≡ all_mended (notes l.initial.answers) (take l.number-index l.numbers)
