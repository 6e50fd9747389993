-- What names stand for.
use Rattle.std.specs.Prelude.{ℕ, List, [], ◌∷◌, Option, None, cond}
use Rattle.std.specs.Str.{bytes_eq}

-- What a name stands for, by its value among those of the names.
abbrev pub value_of : {V : Type 0} → List (List ℕ) → List (Option V) → List ℕ → Option V
value_of [] values name = None
value_of (first ∷ names) [] name = None
value_of (first ∷ names) (value ∷ values) name = cond (bytes_eq first name) value (value_of names values name)

-- What a name stands for.
abbrev pub meaning : {V : Type 0} → (List (List ℕ) × List (Option V)) → List ℕ → Option V
meaning map name = value_of map.0 map.1 name
