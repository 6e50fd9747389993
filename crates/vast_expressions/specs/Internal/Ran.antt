-- What became of a run.
use Rattle.std.specs.Prelude.{List, [], Bool, true, false}
use Rattle.vast_literal.specs.Tokens.{Token}
use Rattle.vast_expressions.specs.Events.{Event}
use Rattle.vast_expressions.specs.Hearing.{HearsAll}
use Rattle.vast_expressions.specs.Rows.{Item, Runs}

-- The items ran to their end, telling what was heard; or they have no run.
abbrev pub Ran : {A : Type 0} → (A → Event → A → Type 0) → List Item → List Token → A → Bool → List Token → A → Type 0
Ran hears is ts a true us b = (es : List Event) × Runs is ts es us [] × HearsAll hears a es b
Ran hears is ts a false us b = (es fs : List Event) (vs : List Token) → Runs is ts es vs fs → ⊥
