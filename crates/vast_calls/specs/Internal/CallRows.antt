-- The names of calls by their places among those of a group.
use Rattle.std.specs.Prelude.{◌≡◌, ℕ, List, Some, slice_get, map}
use Rattle.vast_calls.specs.declared.table.CallRow.{CallRow}

abbrev pub row_names : List CallRow → List (List ℕ)
row_names = map (λ (row : CallRow). row.0.now)

-- The call of this place has this name.
abbrev pub StandsAt : (names : List (List ℕ)) → (place : ℕ) → (name : List ℕ) → Type 0
StandsAt names place name = slice_get names place ≡ Some name
