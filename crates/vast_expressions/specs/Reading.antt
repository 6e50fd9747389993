-- What is read, and who heard it.
use Rattle.std.specs.Prelude.{ℕ, List, [], Bool, true, false}
use Rattle.vast_literal.specs.Tokens.{Token}
use Rattle.vast_literal.specs.NormalExpr.{NormalExpr}
use Rattle.vast_expressions.specs.Events.{Event, trace}
use Rattle.vast_expressions.specs.Hearing.{HearsAll}
use Rattle.vast_expressions.specs.Phrases.{IsRead, IsUnread}

-- A tree of the level stands at the front of the tokens: it was read, and its trace heard. Or none stands there before what goes
-- on with none.
abbrev pub Reads : {A : Type 0} → (A → Event → A → Type 0) → (level : ℕ) → List Token → A → Bool → List Token → A → Type 0
Reads hears k ts a true us b = (t : NormalExpr) × IsRead k ts t us × HearsAll hears a (trace t []) b
Reads hears k ts a false us b = IsUnread k ts
