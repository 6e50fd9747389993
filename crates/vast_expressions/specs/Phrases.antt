-- Phrases: what is read from the front of tokens.
use Rattle.std.specs.Prelude.{◌≡◌, ℕ, ◌<◌, List, [], ◌∷◌, ◌++◌, length}
use Rattle.vast_literal.specs.Tokens.{level, Token, Operator, Mark}
use Rattle.vast_literal.specs.NormalExpr.{NormalExpr}
use Rattle.vast_literal.specs.Grammar.{Spells}
use Rattle.vast_expressions.specs.Signs.{OpenParen, OpenBracket, Dot, Question, DoubleColon, Apostrophe}
use Rattle.vast_expressions.specs.Events.{Event, trace}
use Rattle.vast_expressions.specs.Rows.{Item, Expression, Target, Runs}

-- What stands next goes on with no expression of this level.
abbrev pub Quiet : ℕ → List Token → Type 0
Quiet k (Operator op ∷ us) = level op < k
Quiet k (Mark Question ∷ us) = 0 < k
Quiet k (Mark OpenBracket ∷ us) = 13 < k
Quiet k (Mark Dot ∷ us) = 13 < k
Quiet k (Mark OpenParen ∷ us) = ⊥
Quiet k (Mark Apostrophe ∷ us) = ⊥
Quiet k (Mark DoubleColon ∷ us) = ⊥
Quiet k _ = Unit {0}

-- At the front of the tokens stands this tree of the level, and those are left. Any that stands there before what goes on with
-- none of the level is this one.
pub record IsRead (k : ℕ) (ts : List Token) (t : NormalExpr) (us : List Token) : Type 0 where
  pub front : List Token
  pub spelled : Spells k front t
  pub whole : ts ≡ (front ++ us)
  pub fewer : length us < length ts
  pub same : (fs rest : List Token) (u : NormalExpr) → Spells k fs u → ts ≡ (fs ++ rest) → Quiet k rest → (u ≡ t) × (rest ≡ us)

-- None stands there before what goes on with none of the level.
abbrev pub IsUnread : ℕ → List Token → Type 0
IsUnread k ts = (fs rest : List Token) (u : NormalExpr) → Spells k fs u → ts ≡ (fs ++ rest) → Quiet k rest → ⊥

-- The items of phrases, and their levels: an expression, and what is assigned to.
pub data IsPhrase : Item → ℕ → Type 0 where
  whole : IsPhrase Expression 0
  target : IsPhrase Target 13

-- What the item runs is read, and told by its trace; and what stands before tokens that go on with none of its level runs.
pub record RunsAreDerived : Type 0 where
  pub sound : (i : Item) (k : ℕ) (ts us : List Token) (es : List Event) → IsPhrase i k → Runs (i ∷ []) ts es us [] → (t : NormalExpr) × IsRead k ts t us × (es ≡ trace t [])
  pub complete : (i : Item) (k : ℕ) (ts rest : List Token) (t : NormalExpr) (es : List Event) → IsPhrase i k → Spells k ts t → Quiet k rest → Runs (i ∷ []) (ts ++ rest) (trace t es) rest es
