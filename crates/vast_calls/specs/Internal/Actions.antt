-- Beside `specs/Actions.antt`: what private contracts and proofs say, and no public one.
use Rattle.std.specs.Prelude.{◌≡◌, ℕ, List, Some}
use Rattle.vast_calls.specs.declared.line.Action.{Action}
use Rattle.vast_calls.specs.declared.table.numbered.Place.{Place}
use Rattle.vast_calls.specs.Actions.{Acts}
use Rattle.vast_calls.specs.CallArguments.{Piece}
use Rattle.vast_calls.specs.CallNumbers.{name_at}

-- What the call of this place does, of which these are the arguments.
abbrev pub ActsAt : (AreThese : List Piece → Type 0) → Place → Action → Type 0
ActsAt AreThese place action = (name : List ℕ) × (name_at place ≡ Some name) × Acts AreThese name action
