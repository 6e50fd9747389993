-- The parts of the head of a loop.
use Rattle.std.specs.Prelude.{◌≡◌, ℕ, List, ◌∷◌, ◌++◌, codes, Option, Some, None}
use Rattle.vast_expressions.specs.Phrases.{IsRead}
use Rattle.vast_literal.specs.Grammar.{Spells}
use Rattle.vast_literal.specs.NormalExpr.{NormalExpr}
use Rattle.vast_literal.specs.Tokens.{Token, Word, Number, Operator, Mark}
use Rattle.vast_literal.specs.declared.token.Mark.TheVariants.{CloseParen, Semicolon, Assign}
use Rattle.vast_literal.specs.declared.token.Sign.TheVariants.{Plus}
use Rattle.vast_read.specs.Internal.Readings.{less_than}

-- i =
abbrev pub start_of : List ℕ → List Token → List Token
start_of i us = Word i ∷ (Mark Assign ∷ us)

-- i = i + 1 )
abbrev pub step_of : List ℕ → List Token → List Token
step_of i us = Word i ∷ (Mark Assign ∷ (Word i ∷ (Operator Plus ∷ (Number (codes "1") ∷ (Mark CloseParen ∷ us)))))

-- An expression stands before a semicolon, and both were read; or none does.
abbrev pub IsUnclosed : List Token → Type 0
IsUnclosed ts = (fs us : List Token) (t : NormalExpr) → Spells 0 fs t → ts ≡ (fs ++ (Mark Semicolon ∷ us)) → ⊥

abbrev pub ReadsClosed : {E : Type 0} → (E → NormalExpr) → Option E → List Token → List Token → Type 0
ReadsClosed denotes None ts us = IsUnclosed ts
ReadsClosed denotes (Some x) ts us = IsRead 0 ts (denotes x) (Mark Semicolon ∷ us)

-- The same of one that says that the name is less than another.
abbrev pub IsUnclosedBound : List ℕ → List Token → Type 0
IsUnclosedBound i ts = (fs us : List Token) (e : NormalExpr) → Spells 0 fs (less_than i e) → ts ≡ (fs ++ (Mark Semicolon ∷ us)) → ⊥

abbrev pub ReadsClosedBound : {E : Type 0} → (E → NormalExpr) → List ℕ → Option E → List Token → List Token → Type 0
ReadsClosedBound denotes i None ts us = IsUnclosedBound i ts
ReadsClosedBound denotes i (Some x) ts us = IsRead 0 ts (less_than i (denotes x)) (Mark Semicolon ∷ us)
