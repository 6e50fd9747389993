-- What the text of a literal in a format is, as a relation on the text.
use Rattle.std.specs.Prelude.{◌≡◌, ℕ, ◌^◌, ◌<◌, ◌≤◌, List, [], ◌∷◌, ◌++◌, length, Bool, true, false, not, ◌&&◌, nat_le, codes, IsTrue, if◌then◌else◌}
use Rattle.std.specs.List.{list_all}
use Rattle.std.specs.Fmt.{decimal}
use Rattle.vast_literal.specs.declared.literal.LiteralFormat.{LiteralFormat}
use Rattle.vast_literal.specs.declared.literal.LiteralFormat.TheVariants.{Binary, Hex, SignedDecimal, UnsignedDecimal, UnsizedBinary, UnsizedDecimal, UnsizedHex}
use Rattle.vast_literal.specs.Digits.{is_numeral, digits_in, number_in, digit_count}
use Rattle.vast_literal.specs.LiteralText.{padded_count, is_below_half}
use Rattle.vast_literal.specs.Denotes.{IsModulo}

-- No capital letter.
abbrev pub is_no_capital : ℕ → Bool
is_no_capital c = not (nat_le 65 c && nat_le c 90)

-- So many digits of a radix, in lower case, that write a number.
pub record IsWritten (radix count number : ℕ) (digits : List ℕ) : Type 0 where
  pub numeral : IsTrue (is_numeral radix digits)
  pub lower : IsTrue (list_all is_no_capital digits)
  pub so_many : length (digits_in digits) ≡ count
  pub value : number_in radix digits ≡ number

-- Groups of an underscore and four digits.
pub data AreFours : List ℕ → Type 0 where
  NoGroup : AreFours []
  OneGroup : (group rest : List ℕ) → digits_in group ≡ group → length group ≡ 4 → AreFours rest → AreFours (95 ∷ (group ++ rest))

-- One to four digits, and then such groups.
pub record IsGrouped (digits : List ℕ) : Type 0 where
  pub first : List ℕ
  pub rest : List ℕ
  pub parts : digits ≡ first ++ rest
  pub no_gap : digits_in first ≡ first
  pub some : 1 ≤ length first
  pub few : length first ≤ 4
  pub fours : AreFours rest

-- Grouped, or without any underscore.
abbrev pub IsSeparated : Bool → List ℕ → Type 0
IsSeparated true digits = IsGrouped digits
IsSeparated false digits = digits_in digits ≡ digits

-- The radix of a format.
abbrev pub format_radix : LiteralFormat → ℕ
format_radix Binary = 2
format_radix Hex = 16
format_radix UnsizedBinary = 2
format_radix UnsizedHex = 16
format_radix _ = 10

-- What stands before the digits, after a minus.
abbrev pub format_head : LiteralFormat → ℕ → List ℕ
format_head Binary n = decimal n ++ codes "'b"
format_head Hex n = decimal n ++ codes "'h"
format_head SignedDecimal n = decimal n ++ codes "'sd"
format_head UnsignedDecimal n = decimal n ++ codes "'d"
format_head UnsizedBinary n = codes "'b"
format_head UnsizedDecimal n = []
format_head UnsizedHex n = codes "'h"

-- Whether a format groups its digits.
abbrev pub groups_digits : LiteralFormat → Bool
groups_digits Binary = true
groups_digits Hex = true
groups_digits UnsizedHex = true
groups_digits _ = false

-- How many digits a format writes a number of n bits with.
abbrev pub format_count : LiteralFormat → ℕ → ℕ → ℕ
format_count Binary n number = padded_count 1 n number
format_count Hex n number = padded_count 4 n number
format_count UnsizedBinary n number = digit_count 2 number
format_count UnsizedHex n number = digit_count 16 number
format_count _ n number = digit_count 10 number

-- Whether a format writes a number of n bits with a minus.
abbrev pub has_format_minus : LiteralFormat → ℕ → ℕ → Bool
has_format_minus SignedDecimal n v = not (is_below_half n v)
has_format_minus _ n v = false

-- A minus or nothing.
abbrev pub minus_text : Bool → List ℕ
minus_text negative = if negative then codes "-" else []

-- The text of a number v of n bits: a minus where the format has one, what stands before the digits, and as many digits
-- as the format wants, grouped as it wants, that write v modulo 2^n, or with the minus its opposite.
pub record Spells (format : LiteralFormat) (n v : ℕ) (text : List ℕ) : Type 0 where
  pub number : ℕ
  pub digits : List ℕ
  pub parts : text ≡ minus_text (has_format_minus format n v) ++ (format_head format n ++ digits)
  pub fits : number < 2 ^ n
  pub value : IsModulo n (has_format_minus format n v) number v
  pub written : IsWritten (format_radix format) (format_count format n number) number digits
  pub separated : IsSeparated (groups_digits format) digits
