-- What a reader gives.
use Rattle.std.specs.Prelude.{◌≡◌, ℕ, ◌≤◌, ◌+◌, ◌^◌, List, length, Option}
use Rattle.std.specs.Io.KnownBytes.{Consumes, IsAtEnd}

-- The reader gives these bytes, which are not too many, and then its end.
abbrev pub GivesAll : Option (List ℕ) → Option (List ℕ) → List ℕ → Type 0
GivesAll before after bytes = Consumes before after bytes × IsAtEnd after × (length bytes ≤ 2 ^ 24)

-- The reader gives some bytes, and no more than one too many.
abbrev pub GivesSome : Option (List ℕ) → Option (List ℕ) → Type 0
GivesSome before after = (bytes : List ℕ) × Consumes before after bytes × (length bytes ≤ 2 ^ 24 + 1)

-- The reader gives one byte too many.
abbrev pub GivesTooMany : Option (List ℕ) → Option (List ℕ) → Type 0
GivesTooMany before after = (bytes : List ℕ) × Consumes before after bytes × (length bytes ≡ 2 ^ 24 + 1)
