-- What a lint keeps and tells of a list.
use Rattle.std.specs.Prelude.{◌≡◌, ℕ, List, length, Option}
use Rattle.vast_steps.specs.declared.step.Step.{Step}
use Rattle.vast_lint.specs.declared.lint.Lint.{Lint}
use Rattle.vast_lint.specs.declared.warning.Warning.{Warning}
use Rattle.vast_lint.specs.Notes.{notes, noted, told_at_end}

-- How many answers the lint has counted.
abbrev pub counted : Lint → ℕ
counted lint = length lint.answers.items

-- The lint notes one answer more: that of a step (`Some`), or of what is no step.
pub record NotesAnswer (old new : Lint) (step : Option Step) : Type 0 where
  pub dialect : new.dialect ≡ old.dialect
  pub notes : notes new.answers.items ≡ noted (notes old.answers.items) step

-- What is told of a list that ends here.
abbrev pub told_of : Lint → List Warning
told_of lint = told_at_end lint.dialect 0 (notes lint.answers.items)
