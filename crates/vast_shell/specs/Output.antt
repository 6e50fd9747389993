-- What is written.
use Rattle.std.specs.Prelude.{◌≡◌, ℕ, ◌<◌, List, ◌++◌, length, Option}
use Rattle.std.specs.Io.KnownBytes.{Appends}

-- known bytes grow by a front of the line, maybe by all of it
abbrev pub AppendsFront : Option (List ℕ) → Option (List ℕ) → List ℕ → Type 0
AppendsFront old new line = (part : List ℕ) × (rest : List ℕ) × (part ++ rest ≡ line) × Appends old new part

-- known bytes grow by a front of the line, and not by all of it
abbrev pub AppendsPart : Option (List ℕ) → Option (List ℕ) → List ℕ → Type 0
AppendsPart old new line = (part : List ℕ) × (rest : List ℕ) × (part ++ rest ≡ line) × (0 < length rest) × Appends old new part
