-- Texts of JSON (RFC 8259, 7), as the bytes of their UTF-8: a content between quotes, with escapes.
use Rattle.std.specs.Prelude.{◌≡◌, ℕ, ◌+◌, ◌*◌, ◌-◌, ◌/◌, ◌%◌, List, [], ◌∷◌, ◌++◌, Bool, ◌&&◌, ◌||◌, ◌==◌, nat_lt, nat_le, Option, Some, None, if◌then◌else◌, encode_utf8}
use Rattle.std.specs.List.{flat_map}
use Rattle.vast_literal.specs.Quoted.{escaped_by}

-- A digit in base sixteen.
abbrev pub hex_digit : ℕ → ℕ
hex_digit n = if nat_lt n 10 then 48 + n else 97 + (n - 10)

-- A control character by its code: `\u` and four digits in base sixteen.
abbrev pub code_escape : ℕ → List ℕ
code_escape c = 92 ∷ 117 ∷ 48 ∷ 48 ∷ hex_digit (c / 16) ∷ hex_digit (c % 16) ∷ []

-- A byte as a text of JSON holds it.
abbrev pub escaped : ℕ → List ℕ
escaped = escaped_by code_escape

-- The text of a content.
unfoldable pub json_text : List ℕ → List ℕ
json_text content = 34 ∷ (flat_map escaped content ++ 34 ∷ [])

-- How far an escape was read: not begun, the backslash, and the number of none to three digits after `\u`.
pub data Escape : Type 0 where
  Outside : Escape
  Backslash : Escape
  NoDigit : Escape
  OneDigit : ℕ → Escape
  TwoDigits : ℕ → Escape
  ThreeDigits : ℕ → Escape

-- What reading a text from the front of a list gives: its content and what stands after it.
pub data Reading : Type 0 where
  NoText : Reading
  TextThen : (content rest : List ℕ) → Reading

-- A digit's number, in base sixteen, upper and lower case alike.
abbrev pub hex_value : ℕ → ℕ
hex_value c = if nat_lt c 58 then c - 48 else (if nat_lt c 71 then c - 55 else c - 87)

abbrev pub is_hex : ℕ → Bool
is_hex c = (nat_le 48 c && nat_lt c 58) || ((nat_le 65 c && nat_lt c 71) || (nat_le 97 c && nat_lt c 103))

-- What a letter means after a backslash.
abbrev pub letter_meaning : ℕ → Option ℕ
letter_meaning c =
    if c == 34 then Some 34 else
    (if c == 92 then Some 92 else
    (if c == 47 then Some 47 else
    (if c == 98 then Some 8 else
    (if c == 102 then Some 12 else
    (if c == 110 then Some 10 else
    (if c == 114 then Some 13 else
    (if c == 116 then Some 9 else None)))))))

-- What comes before what is read.
abbrev pub behind : List ℕ → Reading → Reading
behind bytes NoText = NoText
behind bytes (TextThen content rest) = TextThen (bytes ++ content) rest

-- What a letter after a backslash means comes before what is read; nothing is read where it means nothing.
abbrev pub meant : Option ℕ → Reading → Reading
meant None reading = NoText
meant (Some byte) reading = behind (byte ∷ []) reading

-- The text of which the opening quote and an escape so far were read. A code is a character's
-- here; the pairs of surrogates, which no text of ours has, are not.
abbrev pub read_on : Escape → List ℕ → Reading
read_on escape [] = NoText
read_on Outside (c ∷ cs) = if c == 34 then TextThen [] cs else (if c == 92 then read_on Backslash cs else (if nat_lt c 32 then NoText else behind (c ∷ []) (read_on Outside cs)))
read_on Backslash (c ∷ cs) = if c == 117 then read_on NoDigit cs else meant (letter_meaning c) (read_on Outside cs)
read_on NoDigit (c ∷ cs) = if is_hex c then read_on (OneDigit (hex_value c)) cs else NoText
read_on (OneDigit n) (c ∷ cs) = if is_hex c then read_on (TwoDigits (16 * n + hex_value c)) cs else NoText
read_on (TwoDigits n) (c ∷ cs) = if is_hex c then read_on (ThreeDigits (16 * n + hex_value c)) cs else NoText
read_on (ThreeDigits n) (c ∷ cs) = if is_hex c then behind (encode_utf8 (16 * n + hex_value c)) (read_on Outside cs) else NoText

-- The text at the front of a list, as a reader of JSON reads it.
unfoldable pub json_read : List ℕ → Reading
json_read [] = NoText
json_read (c ∷ cs) = if c == 34 then read_on Outside cs else NoText

-- The text is added, and whatever follows it, a reader of JSON reads the content there.
abbrev pub AddsJsonText : (before after content : List ℕ) → Type 0
AddsJsonText before after content = (after ≡ before ++ json_text content) × ((rest : List ℕ) → json_read (json_text content ++ rest) ≡ TextThen content rest)
