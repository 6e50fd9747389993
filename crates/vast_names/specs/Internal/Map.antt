-- Beside `specs/Map.antt`: what private contracts and proofs say, and no public one.
use Rattle.std.specs.Prelude.{◌≡◌, ◌≢◌, ℕ, List, [], ◌∷◌, length, Option, All, ⊤}

-- No two of the names are the same.
abbrev pub AreDistinct : List (List ℕ) → Type 0
AreDistinct [] = ⊤
AreDistinct (name ∷ names) = All (λ other. other ≢ name) names × AreDistinct names

-- Names, each once, and as many values.
pub record IsMap {V : Type 0} (names : List (List ℕ)) (values : List (Option V)) : Type 0 where
  pub distinct : AreDistinct names
  pub each : length values ≡ length names
