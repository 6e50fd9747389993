-- Conditions of calls as tests.
use Rattle.std.specs.Prelude.{ℕ, ℤ, Bool, false, not, nat_eq, List, [], ◌∷◌, length}
use Rattle.std.specs.List.{list_all}
use Rattle.std.specs.Int.{is_positive}

-- The name is not empty.
abbrev pub is_named : List ℕ → Bool
is_named name = not (nat_eq (length name) 0)

-- There is a dimension, and each is at least 1.
unfoldable pub are_dimensions : List ℤ → Bool
are_dimensions [] = false
are_dimensions (d ∷ ds) = list_all is_positive (d ∷ ds)
