-- How far tokens are the beginning of something, and how that goes on.
use Rattle.std.specs.Prelude.{◌≡◌, ◌↔◌, ℕ, List, ◌∷◌, ◌++◌, Bool, true}
use Rattle.vast_literal.specs.FileGrammar.{IsFile}
use Rattle.vast_literal.specs.NormalFile.{NormalFile}
use Rattle.vast_literal.specs.Tokens.{Token}
use Rattle.vast_rows.specs.Kinds.{has, token_kind}

-- The tokens are a file.
abbrev pub SpellsFile : List Token → Type 0
SpellsFile ts = (t : NormalFile) × IsFile ts t

-- Something of the language begins with the tokens.
abbrev pub IsBegun : (List Token → Type 0) → List Token → Type 0
IsBegun L front = (rest : List Token) × L (front ++ rest)

-- Something of the language goes on after the front with a token of the kind.
abbrev pub GoesOn : (List Token → Type 0) → (front : List Token) → (kind : ℕ) → Type 0
GoesOn L front kind = (t : Token) × (rest : List Token) × (token_kind t ≡ kind) × L (front ++ (t ∷ rest))

-- What stands before the tokens that are left begins something of the language, and nothing of it goes on with the first of
-- those. After that front it goes on with tokens of these kinds and of no other, and whether it may end there is told.
pub record LongestFront (L : List Token → Type 0) (ts left : List Token) (kinds : ℕ) (ends : Bool) : Type 0 where
  pub front : List Token
  pub split : ts ≡ front ++ left
  pub begun : IsBegun L front
  pub goes_on : (kind : ℕ) → (has kinds kind ≡ true) ↔ GoesOn L front kind
  pub ended : (ends ≡ true) ↔ L front
  pub stops : (t : Token) (us rest : List Token) → left ≡ t ∷ us → L (front ++ (t ∷ rest)) → ⊥
