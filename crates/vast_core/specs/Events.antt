-- Which of the expressions that are given as events is the first that may not be one.
use Rattle.std.specs.Prelude.{◌≡◌, ℕ, false, List, Option, Some, None, slice_get, take, All}
use Rattle.vast_core.specs.Handles.{Expr}
use Rattle.vast_core.specs.Bench.{Bench, tree_of}
use Rattle.vast_core.specs.Sound.{is_event, EventSound}

-- There is an expression, and it is neither an edge nor a name.
abbrev pub IsWrongEvent : Bench → Option Expr → Type 0
IsWrongEvent b None = ⊥
IsWrongEvent b (Some e) = is_event (tree_of b e) ≡ false

-- The expression at this place is no event, and all before it are.
pub record IsFirstWrongEvent (b : Bench) (events : List Expr) (i : ℕ) : Type 0 where
  pub wrong : IsWrongEvent b (slice_get events i)
  pub before : All (EventSound b) (take i events)
