-- Beside `specs/Check.antt`: what private contracts and proofs say, and no public one.
use Rattle.std.specs.Prelude.{ℕ, List}
use Rattle.vast_check.specs.declared.answer.Answer.{Answer}
use Rattle.vast_check.specs.declared.answer.Answer.TheVariants.{Derived}
use Rattle.vast_check.specs.declared.same.PairResult.{PairResult}
use Rattle.vast_check.specs.declared.same.PairResult.TheVariants.{Same}
use Rattle.vast_check.specs.Check.{IsDerived, AreSame}

-- It is said that bytes are derived exactly where they are.
abbrev pub Answers : List ℕ → Answer → Type 0
Answers bytes Derived = IsDerived bytes
Answers bytes _ = IsDerived bytes → ⊥

-- It is said that two are the same exactly where they are.
abbrev pub Compares : (old new : List ℕ) → PairResult → Type 0
Compares old new Same = AreSame old new
Compares old new _ = AreSame old new → ⊥
