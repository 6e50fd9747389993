-- What is read of an expression, and of the condition of a loop.
use Rattle.std.specs.Prelude.{◌≡◌, ℕ, List, ◌++◌, Bool, cond, Option, Some, None}
use Rattle.vast_expressions.specs.Phrases.{IsRead, IsUnread, Quiet}
use Rattle.vast_literal.specs.Grammar.{Spells}
use Rattle.vast_literal.specs.NormalExpr.{NormalExpr, Name, Binary}
use Rattle.vast_literal.specs.Tokens.{Token}
use Rattle.vast_literal.specs.declared.token.Sign.TheVariants.{Less}

-- The level of an expression, and of what is assigned to.
abbrev pub level_of : (is_target : Bool) → ℕ
level_of is_target = cond is_target 13 0

-- A tree of the level stands at the front and was read, or none does before what goes on with none.
abbrev pub ReadsTree : {E : Type 0} → (E → NormalExpr) → ℕ → Option E → List Token → List Token → Type 0
ReadsTree denotes k None ts us = IsUnread k ts
ReadsTree denotes k (Some x) ts us = IsRead k ts (denotes x) us

-- i < e
abbrev pub less_than : List ℕ → NormalExpr → NormalExpr
less_than i e = Binary Less (Name i) e

abbrev pub IsUnbound : List ℕ → List Token → Type 0
IsUnbound i ts = (fs rest : List Token) (e : NormalExpr) → Spells 0 fs (less_than i e) → ts ≡ (fs ++ rest) → Quiet 0 rest → ⊥

-- The same of a tree that says that the name is less than another, which is what was made.
abbrev pub ReadsBound : {E : Type 0} → (E → NormalExpr) → List ℕ → Option E → List Token → List Token → Type 0
ReadsBound denotes i None ts us = IsUnbound i ts
ReadsBound denotes i (Some x) ts us = IsRead 0 ts (less_than i (denotes x)) us
