-- String literals: a content between quotes, with escapes.
use Rattle.std.specs.Prelude.{ℕ, ◌+◌, ◌*◌, ◌-◌, ◌/◌, ◌%◌, List, [], ◌∷◌, ◌++◌, ◌&&◌, ◌==◌, nat_lt, nat_le, if◌then◌else◌}
use Rattle.std.specs.Char.{is_ascii_control}
use Rattle.std.specs.List.{flat_map}

-- A backslash and three digits in base eight.
abbrev pub octal_escape : ℕ → List ℕ
octal_escape c = 92 ∷ (48 + c / 64) ∷ (48 + c / 8 % 8) ∷ (48 + c % 8) ∷ []

-- A byte as a text between quotes holds it: a control character without a letter of its own by its code.
unfoldable pub escaped_by : (code : ℕ → List ℕ) → ℕ → List ℕ
escaped_by code c =
    if c == 34 then 92 ∷ 34 ∷ [] else
    (if c == 92 then 92 ∷ 92 ∷ [] else
    (if c == 10 then 92 ∷ 110 ∷ [] else
    (if c == 13 then 92 ∷ 114 ∷ [] else
    (if c == 9 then 92 ∷ 116 ∷ [] else
    (if is_ascii_control c then code c else c ∷ [])))))

-- A byte as a string literal holds it.
abbrev pub escaped : ℕ → List ℕ
escaped = escaped_by octal_escape

-- The content between quotes.
unfoldable pub quoted : List ℕ → List ℕ
quoted content = 34 ∷ (flat_map escaped content ++ 34 ∷ [])

-- How far an escape was read: not begun, the backslash, and the number of one or two digits.
pub data Escape : Type 0 where
  Outside : Escape
  Backslash : Escape
  OneDigit : ℕ → Escape
  TwoDigits : ℕ → Escape

-- What a letter means after a backslash.
abbrev pub letter_meaning : ℕ → ℕ
letter_meaning c = if c == 110 then 10 else (if c == 114 then 13 else (if c == 116 then 9 else c))

-- The escapes undone, up to the closing quote.
abbrev pub undone : Escape → List ℕ → List ℕ
undone escape [] = []
undone Outside (c ∷ cs) = if c == 34 then [] else (if c == 92 then undone Backslash cs else c ∷ undone Outside cs)
undone Backslash (c ∷ cs) = if nat_le 48 c && nat_lt c 56 then undone (OneDigit (c - 48)) cs else letter_meaning c ∷ undone Outside cs
undone (OneDigit n) (c ∷ cs) = undone (TwoDigits (8 * n + (c - 48))) cs
undone (TwoDigits n) (c ∷ cs) = (8 * n + (c - 48)) ∷ undone Outside cs

-- What a string token stands for: what follows its opening quote, with the escapes undone.
unfoldable pub content_of : List ℕ → List ℕ
content_of [] = []
content_of (c ∷ cs) = undone Outside cs
