-- Beside `specs/Written.antt` and `specs/Packed.antt`: what private contracts and proofs say of arguments, and no public one.
use Rattle.std.specs.Prelude.{◌≡◌, ℕ, ◌<◌, ℤ, Bool, true, false, List, [], ◌∷◌, ◌++◌, Option, Some, None, codes, encode_utf8}
use Rattle.vast_calls.specs.declared.arguments.Arguments.{Arguments}
use Rattle.vast_calls.specs.declared.arguments.Rest.{Rest}
use Rattle.vast_calls.specs.declared.arguments.Rest.TheVariants.{Words, Packed}
use Rattle.vast_calls.specs.declared.names.Named.{Named}
use Rattle.vast_calls.specs.declared.names.Named.TheVariants.{Number as NumberNamed}
use Rattle.vast_calls.specs.Json.{letter_meaning}
use Rattle.vast_calls.specs.CallArguments.{Piece, Place, Number, Count, Items}
use Rattle.vast_calls.specs.Lines.{left}
use Rattle.vast_calls.specs.Packed.{ArePacked, IsPackedNumber}
use Rattle.vast_calls.specs.Written.{IsCode, IsPart, IsContent, IsQuoted, meaning, IsWritten, AreWritten}

-- What is left of a call, and whether it is packed.

abbrev pub rest_left : Rest → List ℕ
rest_left (Words rest) = left rest
rest_left (Packed bytes) = bytes.now

abbrev pub is_packed : Rest → Bool
is_packed (Words rest) = false
is_packed (Packed bytes) = true

-- The pieces stand so in a line, or in a packed call.
abbrev pub AreIn : (packed : Bool) → (named : List ℕ → Option Named) → (skipped : List ℕ) → List Piece → List ℕ → Type 0
AreIn false named skipped pieces bytes = AreWritten named skipped pieces bytes
AreIn true named skipped pieces bytes = ArePacked skipped pieces bytes

-- The same over what a reader of arguments knows.
abbrev pub AreThere : Arguments → List Piece → List ℕ → Type 0
AreThere arguments pieces bytes = AreIn (is_packed arguments.rest) (meaning arguments.known.names.now) arguments.known.skipped.now pieces bytes

-- What is left of the call is the pieces.
abbrev pub AreLeft : Arguments → List Piece → Type 0
AreLeft arguments pieces = AreThere arguments pieces (rest_left arguments.rest)

-- What was left is the pieces, followed by what is left now.
pub record Reads (old new : Arguments) (pieces : List Piece) : Type 0 where
  pub known : new.known ≡ old.known
  pub form : is_packed new.rest ≡ is_packed old.rest
  pub front : List ℕ
  pub there : AreThere old pieces front
  pub left_is : rest_left old.rest ≡ front ++ rest_left new.rest

-- The word stood next in a line.
abbrev pub Goes : (old new : Arguments) → (word : List ℕ) → Type 0
Goes old new word =
    (new.known ≡ old.known) × (is_packed old.rest ≡ false) × (is_packed new.rest ≡ false) × (rest_left old.rest ≡ 32 ∷ (word ++ rest_left new.rest))

-- A text of this content stood next in a line.
abbrev pub GoesText : (old new : Arguments) → (content : List ℕ) → Type 0
GoesText old new content = (word : List ℕ) × IsQuoted word content × Goes old new word

-- The number stood next in a packed call.
abbrev pub GoesNumber : (old new : Arguments) → ℕ → Type 0
GoesNumber old new n =
    (new.known ≡ old.known) × (is_packed old.rest ≡ true) × (is_packed new.rest ≡ true) × (front : List ℕ) × IsPackedNumber front n × (rest_left old.rest ≡ front ++ rest_left new.rest)

-- The beginning of a list stood next: in a line of one of any length, in a packed call of one of this length.
abbrev pub Begins : (old new : Arguments) → (count : Option ℕ) → Type 0
Begins old new None = (n : ℕ) → Reads old new (Items n ∷ [])
Begins old new (Some n) = Reads old new (Items n ∷ [])

-- The sign of an option.
abbrev pub sign_of : (some : Bool) → List ℕ
sign_of false = codes "-"
sign_of true = codes "+"

-- What a word of the line stands for.

abbrev pub IsAnswered : Arguments → (name : List ℕ) → ℤ → Type 0
IsAnswered arguments name z = meaning arguments.known.names.now name ≡ Some (NumberNamed z)

abbrev pub WritesIn : Arguments → Piece → List ℕ → Type 0
WritesIn arguments piece word = IsWritten (meaning arguments.known.names.now) arguments.known.skipped.now piece word

abbrev pub IsIntegerWord : Arguments → List ℕ → ℤ → Type 0
IsIntegerWord arguments word z = WritesIn arguments (Number z) word

abbrev pub IsCountWord : Arguments → List ℕ → ℕ → Type 0
IsCountWord arguments word n = WritesIn arguments (Count n) word

abbrev pub IsHandleWord : Arguments → List ℕ → ℕ → Type 0
IsHandleWord arguments word n = WritesIn arguments (Place n) word

-- At the front of what stands after a text's opening quote a text of this content ends, and this stands after it.
abbrev pub IsTextFront : (quoted content behind : List ℕ) → Type 0
IsTextFront quoted content behind = (between : List ℕ) × IsContent between content × (quoted ≡ between ++ 34 ∷ behind)

-- At the front stands what means this character.
abbrev pub IsContentFront : (text : List ℕ) → (c : ℕ) → (behind : List ℕ) → Type 0
IsContentFront text c behind = (written : List ℕ) × IsContent written (encode_utf8 c) × (text ≡ written ++ behind)

-- At the front stands a part that means this character, and then four digits of this number.

abbrev pub IsPartFront : (text : List ℕ) → (c : ℕ) → (behind : List ℕ) → Type 0
IsPartFront text c behind = (written : List ℕ) × IsPart written (encode_utf8 c) × (text ≡ written ++ behind)

abbrev pub IsCodeFront : (text : List ℕ) → (code : ℕ) → (behind : List ℕ) → Type 0
IsCodeFront text code behind = (digits : List ℕ) × IsCode digits code × (text ≡ digits ++ behind)

-- The letter means this character after a backslash.
abbrev pub IsMeaning : (letter c : ℕ) → Type 0
IsMeaning letter c = (letter < 128) × (c < 128) × (letter_meaning letter ≡ Some c)
