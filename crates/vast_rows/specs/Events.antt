-- What is told of a reading, in the order of the text.
use Rattle.std.specs.Prelude.{ℕ, List, ◌∷◌, Option, Some, None}
use Rattle.vast_literal.specs.Tokens as tokens
use Rattle.vast_rows.specs.Phrases.{Meaning}
use Rattle.vast_rows.specs.declared.action.Action.{Action}

-- A row makes something of what its items make, which is told after it; a phrase was read; a name was taken.
pub data Event : Type 0 where
  Makes : Action → Event
  Reads : Meaning → Event
  Names : (text : List ℕ) → Event

-- The text of a token that is a name.
abbrev pub name_of : tokens.Token → Option (List ℕ)
name_of (tokens.Word w) = Some w
name_of (tokens.MacroWord w) = Some w
name_of _ = None

-- What is told of a row, and of a token, before other events.
abbrev pub made_by : Option Action → List Event → List Event
made_by (Some action) es = Makes action ∷ es
made_by None es = es

abbrev pub named_by : Option (List ℕ) → List Event → List Event
named_by (Some text) es = Names text ∷ es
named_by None es = es
