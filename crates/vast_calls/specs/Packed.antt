-- How the arguments of a call are packed: their pieces as bytes, one after the other.
use Rattle.std.specs.Prelude.{◌≡◌, ◌⊎◌, ℕ, ◌+◌, ◌*◌, ◌-◌, ◌≤◌, ◌<◌, ℤ, pos, neg_ℤ, List, [], ◌∷◌, ◌++◌, length, map, Some, codes, slice_get}
use Rattle.vast_literal.specs.declared.kind.DataKind.TheVariants.{Reg, Wire, Logic, Integer, Int, User, UntypedEnum, Genvar}
use Rattle.vast_literal.specs.declared.literal.LiteralFormat.TheVariants.{Binary, Hex, SignedDecimal, UnsignedDecimal, UnsizedBinary, UnsizedDecimal, UnsizedHex}
use Rattle.vast_calls.specs.declared.packed.Choice.{Choice}
use Rattle.vast_calls.specs.declared.packed.Choice.TheVariants.{Truth, Sign, Format, Kind}
use Rattle.vast_calls.specs.CallArguments.{Piece, Place, Number, Count, Text, Word, Items, Group, End, format_word, kind_word}
use Rattle.vast_calls.specs.Written.{IsPlaceOf}

-- A number in base 128, its least digit first; 128 is added to each digit but the last.
abbrev pub IsPackedNumber : (bytes : List ℕ) → ℕ → Type 0
IsPackedNumber [] n = ⊥
IsPackedNumber (byte ∷ bytes) n =
    ((byte < 128) × (bytes ≡ []) × (n ≡ byte)) ⊎ ((more : ℕ) × (128 ≤ byte) × IsPackedNumber bytes more × (n ≡ (byte - 128) + 128 * more))

-- A number with a sign as one without: twice the number, or one less than twice what is below 0.
abbrev pub IsFolded : ℤ → ℕ → Type 0
IsFolded z n = ((m : ℕ) × (z ≡ pos m) × (n ≡ 2 * m)) ⊎ ((m : ℕ) × (z ≡ neg_ℤ (pos m)) × (n + 1 ≡ 2 * m))

-- The words that may stand in one place, in order.
abbrev pub choice_words : Choice → List (List ℕ)
choice_words Truth = codes "false" ∷ codes "true" ∷ []
choice_words Sign = codes "-" ∷ codes "+" ∷ []
choice_words Format = map format_word (Binary ∷ Hex ∷ SignedDecimal ∷ UnsignedDecimal ∷ UnsizedBinary ∷ UnsizedDecimal ∷ UnsizedHex ∷ [])
choice_words Kind = map kind_word (Reg ∷ Wire ∷ Logic ∷ Integer ∷ Int ∷ User ∷ UntypedEnum ∷ Genvar ∷ [])

-- By the numbers of the calls that were passed over.
module _ (skipped : List ℕ) where
  -- The piece is packed so: an answer by its step's number, a text after its length, a word by its place among those that may
  -- stand there, a list after how many items it has; a group needs no sign.
  abbrev pub IsPacked : Piece → List ℕ → Type 0
  IsPacked (Place place) bytes = (number : ℕ) × IsPackedNumber bytes number × IsPlaceOf skipped number place
  IsPacked (Number z) bytes = (n : ℕ) × IsPackedNumber bytes n × IsFolded z n
  IsPacked (Count n) bytes = IsPackedNumber bytes n
  IsPacked (Text content) bytes = (front : List ℕ) × IsPackedNumber front (length content) × (bytes ≡ front ++ content)
  IsPacked (Word word) bytes = (choice : Choice) × (n : ℕ) × IsPackedNumber bytes n × (slice_get (choice_words choice) n ≡ Some word)
  IsPacked (Items n) bytes = IsPackedNumber bytes n
  IsPacked Group bytes = bytes ≡ []
  IsPacked End bytes = bytes ≡ []

  -- The pieces are packed one after the other.
  abbrev pub ArePacked : List Piece → List ℕ → Type 0
  ArePacked [] bytes = bytes ≡ []
  ArePacked (piece ∷ pieces) bytes = (front : List ℕ) × (more : List ℕ) × IsPacked piece front × ArePacked pieces more × (bytes ≡ front ++ more)

-- The number was appended.
abbrev pub EndsWithNumber : (old new : List ℕ) → ℕ → Type 0
EndsWithNumber old new n = (digits : List ℕ) × IsPackedNumber digits n × (new ≡ old ++ digits)

-- The number stands at the front, and this after it.
abbrev pub IsNumberFront : (bytes : List ℕ) → ℕ → (behind : List ℕ) → Type 0
IsNumberFront bytes n behind = (front : List ℕ) × IsPackedNumber front n × (bytes ≡ front ++ behind)
