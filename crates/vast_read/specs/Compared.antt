-- What is found of two texts.
use Rattle.std.specs.Prelude.{◌≡◌, ℕ, List, IsCharBoundary}
use Rattle.vast_literal.specs.FileGrammar.{DerivesFile}
use Rattle.vast_literal.specs.NormalFile.{NormalFile}
use Rattle.vast_read.specs.Places.{IsBetweenTokens}
use Rattle.vast_read.specs.declared.difference.Piece.{Piece}
use Rattle.vast_read.specs.declared.same.Comparison.{Comparison}
use Rattle.vast_read.specs.declared.same.Comparison.TheVariants.{Same, Different, OldUnderived, NewUnderived}

-- The grammar derives a file from a text.
abbrev pub IsDerived : List ℕ → Type 0
IsDerived text = (t : NormalFile) × DerivesFile text t

-- The grammar derives one file from both, a file from each but none from both, or none from one of them.
abbrev pub Compares : Comparison → (old new : List ℕ) → Type 0
Compares Same old new = (t : NormalFile) × DerivesFile old t × DerivesFile new t
Compares Different old new = IsDerived old × IsDerived new × ((t : NormalFile) → DerivesFile old t → DerivesFile new t → ⊥)
Compares OldUnderived old new = (t : NormalFile) → DerivesFile old t → ⊥
Compares NewUnderived old new = (t : NormalFile) → DerivesFile new t → ⊥

-- Where the grammar derives a file from each, it is one.
abbrev pub IsOneFile : (old new : List ℕ) → Type 0
IsOneFile old new = (t u : NormalFile) → DerivesFile old t → DerivesFile new u → t ≡ u

-- A place between the tokens of a text, at which no character is cut.
abbrev pub IsPlace : List ℕ → (place : ℕ) → Type 0
IsPlace text place = IsBetweenTokens text place × IsCharBoundary text place

-- A piece of a text, from one such place to another.
abbrev pub IsPiece : List ℕ → Piece → Type 0
IsPiece text piece = IsPlace text piece.start × IsPlace text piece.end
