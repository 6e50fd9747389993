-- How far a reading is.
use Rattle.std.specs.Prelude.{◌≡◌, ℕ, List, [], ◌∷◌, ◌++◌, true, Option, Some}
use Rattle.std.specs.List.{slice_get}
use Rattle.vast_literal.specs.Tokens.{Token}
use Rattle.vast_rows.specs.declared.action.Action.{Action}
use Rattle.vast_rows.specs.declared.grammar.Item.{Item}
use Rattle.vast_rows.specs.declared.grammar.Item.TheVariants as item
use Rattle.vast_rows.specs.declared.machine.Due.{Due}
use Rattle.vast_rows.specs.declared.machine.Due.TheVariants as due
use Rattle.vast_rows.specs.Internal.Derives.{Derives}
use Rattle.vast_rows.specs.Internal.Sets.{only}
use Rattle.vast_rows.specs.Facts.{Fact}
use Rattle.vast_rows.specs.Internal.Predictive.{follows, row_at}
use Rattle.vast_rows.specs.Rows.{Row}
use Rattle.vast_rows.specs.Events.{Event}

-- What is still to be derived from the tokens that are left makes up the whole, and nothing else does.
pub record Reading (rows : List Row) (facts : ℕ → Fact) (start : ℕ) (all rest : List Token) (stack : List Item) (done : List Event) : Type 0 where
  pub sound : (cs : List Event) → Derives rows stack rest cs → Derives rows (item.Rule start ∷ []) all (done ++ cs)
  pub complete : (cs : List Event) → Derives rows (item.Rule start ∷ []) all cs → (more : List Event) × Derives rows stack rest more × (cs ≡ done ++ more)
  pub follows : follows facts (only 0) stack ≡ true

-- Nothing is derived.
pub record Underived (rows : List Row) (start : ℕ) (all : List Token) : Type 0 where
  pub none : (cs : List Event) → Derives rows (item.Rule start ∷ []) all cs → ⊥

-- A reading, and what a sink heard of it since a state of its own.
pub record Underway {K : Type 0} (after : K → List Event → K → Type 0) (rows : List Row) (facts : ℕ → Fact) (start : ℕ) (all rest : List Token) (stack : List Item) (first now : K) : Type 0 where
  pub done : List Event
  pub reading : Reading rows facts start all rest stack done
  pub heard : after first done now

-- What is due, once no rule is on top.
abbrev pub IsDue : {K : Type 0} (after : K → List Event → K → Type 0) (rows : List Row) (facts : ℕ → Fact) (start : ℕ) (all rest : List Token) (stack : List Item) (first now : K) → Due → Type 0
IsDue after rows facts start all rest stack first now (due.Token k) = Underway after rows facts start all rest (item.Token k ∷ stack) first now
IsDue after rows facts start all rest stack first now (due.Phrase p) = Underway after rows facts start all rest (item.Phrase p ∷ stack) first now
IsDue after rows facts start all rest stack first now due.Nothing = Underway after rows facts start all rest [] first now
IsDue after rows facts start all rest stack first now due.Wrong = Underived rows start all

-- From a stack to what is due, in whatever reading.
abbrev pub LeadsTo : {K : Type 0} (after : K → List Event → K → Type 0) (rows : List Row) (facts : ℕ → Fact) (rest : List Token) (before : List Item) (sink : K) (stack : List Item) (now : K) → Due → Type 0
LeadsTo {K} after rows facts rest before sink stack now d = (start : ℕ) (all : List Token) (first : K) → Underway after rows facts start all rest before first sink → IsDue after rows facts start all rest stack first now d

-- The row of the number is the one for the rule that is taken at the kind, and these are its items and its action.
pub record IsTaken (facts : ℕ → Fact) (rows : List Row) (rule kind n : ℕ) (items : List Item) (action : Option Action) : Type 0 where
  pub row : Row
  pub first : row_at facts rows rule kind ≡ Some n
  pub found : slice_get rows n ≡ Some row
  pub ruled : row.rule ≡ rule
  pub has_items : row.items ≡ items
  pub has_action : row.action ≡ action
