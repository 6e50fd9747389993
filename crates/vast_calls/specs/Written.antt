-- How the arguments of a call are written in a line: a space before each of their pieces. A text is a list of bytes.
use Rattle.std.specs.Prelude.{◌≡◌, ℕ, ◌+◌, ◌*◌, ◌-◌, ◌≤◌, ◌<◌, ◌⊎◌, ◌≢◌, ℤ, pos, neg_ℤ, List, [], ◌∷◌, ◌++◌, length, min, Option, Some, None, codes, encode_utf8}
use Rattle.std.specs.Char.{IsScalar}
use Rattle.std.specs.List.{All, flat_map}
use Rattle.std.specs.Str.Parse.{IsNumeral, digits_value}
use Rattle.vast_names.specs.Map.{meaning as meant_by}
use Rattle.vast_calls.specs.declared.names.Named.{Named}
use Rattle.vast_calls.specs.declared.names.Names.{Names}
use Rattle.vast_calls.specs.declared.names.Named.TheVariants.{Handle, Skipped, Number as NumberNamed}
use Rattle.vast_calls.specs.Json.{letter_meaning}
use Rattle.vast_calls.specs.CallArguments.{Piece, Place, Number, Count, Text, Word, Items, Group, End}

-- A decimal numeral, and one that may have a minus.

-- A decimal numeral and its number.
abbrev pub IsNatural : List ℕ → ℕ → Type 0
IsNatural word n = IsNumeral 10 word × (n ≡ digits_value 10 word)

-- A decimal numeral that may have a minus, and its number.
abbrev pub IsInteger : List ℕ → ℤ → Type 0
IsInteger word z =
    ((n : ℕ) × IsNatural word n × (z ≡ pos n)) ⊎ ((digits : List ℕ) × (n : ℕ) × (word ≡ 45 ∷ digits) × IsNatural digits n × (z ≡ neg_ℤ (pos n)))

-- Four digits in base sixteen, and their number.
abbrev pub IsCode : List ℕ → ℕ → Type 0
IsCode digits n = (length digits ≡ 4) × IsNumeral 16 digits × (n ≡ digits_value 16 digits)

abbrev pub IsHigh : ℕ → Type 0
IsHigh n = (55296 ≤ n) × (n < 56320)

abbrev pub IsLow : ℕ → Type 0
IsLow n = (56320 ≤ n) × (n < 57344)

-- The character of a surrogate pair.
abbrev pub paired : (high low : ℕ) → ℕ
paired high low = 65536 + (high - 55296) * 1024 + (low - 56320)

-- The parts of a text between its quotes: any byte but a quote and a backslash stands for itself; after a backslash a letter
-- has a meaning, and after `\u` the code of a character, or the first of two that are a surrogate pair.

abbrev pub IsPlain : (written meant : List ℕ) → Type 0
IsPlain written meant = (byte : ℕ) × (byte ≢ 34) × (byte ≢ 92) × (written ≡ byte ∷ []) × (meant ≡ byte ∷ [])

abbrev pub IsLetter : (written meant : List ℕ) → Type 0
IsLetter written meant = (letter : ℕ) × (byte : ℕ) × (letter_meaning letter ≡ Some byte) × (written ≡ 92 ∷ letter ∷ []) × (meant ≡ byte ∷ [])

abbrev pub IsCharacter : (written meant : List ℕ) → Type 0
IsCharacter written meant = (digits : List ℕ) × (code : ℕ) × IsCode digits code × IsScalar code × (written ≡ 92 ∷ 117 ∷ digits) × (meant ≡ encode_utf8 code)

abbrev pub IsPair : (written meant : List ℕ) → Type 0
IsPair written meant =
    (first : List ℕ) × (high : ℕ) × (second : List ℕ) × (low : ℕ) × IsCode first high × IsHigh high × IsCode second low × IsLow low
    × (written ≡ (92 ∷ 117 ∷ first) ++ (92 ∷ 117 ∷ second)) × (meant ≡ encode_utf8 (paired high low))

-- A part of a text: a byte, an escape by a letter, one by a code, or a pair of surrogates; and what it means.
abbrev pub IsPart : (written meant : List ℕ) → Type 0
IsPart written meant = IsPlain written meant ⊎ (IsLetter written meant ⊎ (IsCharacter written meant ⊎ IsPair written meant))

-- What stands between the quotes of a text that has this content.
pub record IsContent (between content : List ℕ) : Type 0 where
  pub parts : List (List ℕ × List ℕ)
  pub all : All (λ (part : List ℕ × List ℕ). IsPart part.0 part.1) parts
  pub written : between ≡ flat_map (λ (part : List ℕ × List ℕ). part.0) parts
  pub means : content ≡ flat_map (λ (part : List ℕ × List ℕ). part.1) parts

-- A text in its quotes, and its content.
abbrev pub IsQuoted : (word content : List ℕ) → Type 0
IsQuoted word content = (written : List ℕ) × IsContent written content × (word ≡ 34 ∷ (written ++ 34 ∷ []))

-- The answer of the step of this number has this place, where no line was passed over.
abbrev pub IsPlaceOf : (skipped : List ℕ) → (number place : ℕ) → Type 0
IsPlaceOf skipped number place = skipped ≡ [] → place ≡ min number 18446744073709551614

-- A place, if there is one, else what stands beside it.
abbrev pub place_or : Option ℕ → Option Named → Option Named
place_or (Some place) other = Some (Handle place)
place_or None other = other

-- What a name stands for.
abbrev pub meaning : Names → List ℕ → Option Named
meaning names name = place_or (meant_by names.places name) (meant_by names.others name)

-- By what the names so far stand for, and the numbers of the lines that were passed over.
module _ (named : List ℕ → Option Named) (skipped : List ℕ) where
  -- The number of a step, or the name of its answer.
  abbrev pub IsHandle : List ℕ → ℕ → Type 0
  IsHandle word place =
      ((number : ℕ) × IsNatural word number × IsPlaceOf skipped number place)
      ⊎ ((named word ≡ Some (Handle place)) ⊎ ((named word ≡ Some Skipped) × (place ≡ 18446744073709551615)))

  -- `?` and the name of a question that this number answers.
  abbrev pub IsAnswer : List ℕ → ℤ → Type 0
  IsAnswer word z = (name : List ℕ) × (word ≡ 63 ∷ name) × (named name ≡ Some (NumberNamed z))

  -- The piece is written so, by what the names so far stand for and which lines were passed over.
  abbrev pub IsWritten : Piece → List ℕ → Type 0
  IsWritten (Place place) word = IsHandle word place
  IsWritten (Number z) word = IsInteger word z ⊎ IsAnswer word z
  IsWritten (Count n) word = IsNatural word n ⊎ IsAnswer word (pos n)
  IsWritten (Text content) word = IsQuoted word content
  IsWritten (Word w) word = word ≡ w
  IsWritten (Items n) word = word ≡ codes "["
  IsWritten Group word = word ≡ codes "["
  IsWritten End word = word ≡ codes "]"

  -- The pieces are written one after the other, a space before each.
  abbrev pub AreWritten : List Piece → List ℕ → Type 0
  AreWritten [] text = text ≡ []
  AreWritten (piece ∷ pieces) text = (word : List ℕ) × (more : List ℕ) × IsWritten piece word × AreWritten pieces more × (text ≡ 32 ∷ (word ++ more))
