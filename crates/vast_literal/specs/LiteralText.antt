-- How a literal is written in a format, and which numbers a format takes.
use Rattle.std.specs.Prelude.{ℕ, ◌-◌, ◌^◌, List, ◌∷◌, ◌++◌, Bool, ◌&&◌, ◌==◌, nat_lt, nat_le, codes, Result, Ok, Err, if◌then◌else◌}
use Rattle.std.specs.Int.{div_ceil}
use Rattle.std.specs.Fmt.{decimal}
use Rattle.vast_literal.specs.declared.literal.LiteralFormat.{LiteralFormat}
use Rattle.vast_literal.specs.declared.literal.LiteralFormat.TheVariants.{Binary, Hex, SignedDecimal, UnsignedDecimal, UnsizedBinary, UnsizedDecimal, UnsizedHex}
use Rattle.vast_literal.specs.Digits.{lowest_digits, digit_count, characters, grouped}

-- The refusal of a number that an unsized format does not take.
unfoldable pub above_limit_text : List ℕ → ℕ → ℕ → List ℕ
above_limit_text kind most v = codes "unsized " ++ kind ++ codes " literal magnitude " ++ decimal v ++ codes " exceeds maximum " ++ decimal most

-- Whether a number is at most a limit.
unfoldable pub within_limit : List ℕ → ℕ → ℕ → Result (Unit {0}) (List ℕ)
within_limit kind most v = if nat_le v most then Ok tt else Err (above_limit_text kind most v)

-- Which numbers a format takes: the unsized ones have a limit.
abbrev pub format_takes : LiteralFormat → ℕ → Result (Unit {0}) (List ℕ)
format_takes UnsizedBinary v = within_limit (codes "binary") 4294967295 v
format_takes UnsizedDecimal v = within_limit (codes "decimal") 2147483647 v
format_takes UnsizedHex v = within_limit (codes "hexadecimal") 4294967295 v
format_takes _ v = Ok tt

-- How many digits of so many bits a number of n bits has: one for a zero of more than 1024 bits.
abbrev pub padded_count : ℕ → ℕ → ℕ → ℕ
padded_count digit_bits n v = if v == 0 && nat_lt 1024 n then 1 else div_ceil n digit_bits

-- A width, its base and digits.
abbrev pub sized : ℕ → List ℕ → List ℕ → List ℕ
sized n base digits = decimal n ++ base ++ digits

-- Whether the highest of n bits is unset.
unfoldable pub is_below_half : ℕ → ℕ → Bool
is_below_half n v = nat_lt v (2 ^ (n - 1))

-- A number of n bits in two's complement.
unfoldable pub signed_text : ℕ → ℕ → List ℕ
signed_text n v = if is_below_half n v then sized n (codes "'sd") (decimal v) else 45 ∷ sized n (codes "'sd") (decimal (2 ^ n - v))

-- The text of a number v of n bits.
unfoldable pub format_text : LiteralFormat → ℕ → ℕ → List ℕ
format_text Binary n v = sized n (codes "'b") (grouped (lowest_digits 2 (padded_count 1 n v) v))
format_text Hex n v = sized n (codes "'h") (grouped (lowest_digits 16 (padded_count 4 n v) v))
format_text SignedDecimal n v = signed_text n v
format_text UnsignedDecimal n v = sized n (codes "'d") (decimal v)
format_text UnsizedBinary n v = codes "'b" ++ characters (lowest_digits 2 (digit_count 2 v) v)
format_text UnsizedDecimal n v = decimal v
format_text UnsizedHex n v = codes "'h" ++ grouped (lowest_digits 16 (digit_count 16 v) v)
