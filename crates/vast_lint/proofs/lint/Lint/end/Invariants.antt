use Rattle.std.proofs.Common.{◌≡◌, ◌++◌, drop}
use Rattle.vast_lint.specs.Notes.{notes, told_at_end}
use Rattle.vast_lint.specs.Lint.{told_of}
use Rattle.vast_lint.proofs.lint.Lint.end.Given as goal

-- What is told so far and what is left of the answers after it is all that is left.
abbrev pub invariant-loop-number : goal.invariant-loop-number
invariant-loop-number l =
    l.warnings.items ++ told_at_end l.self.dialect l.number (notes (drop l.number l.self.answers.items))
    ≡ told_of l.self
