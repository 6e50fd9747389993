-- Worked literals, computed from the definitions.
use Rattle.std.proofs.Common.{◌≡◌, ◌-◌, ◌^◌, [], ◌∷◌, refl, Ok, Err}
use Rattle.std.specs.Prelude.{codes}
use Rattle.std.specs.Fmt.{digits}
use Rattle.vast_literal.specs.declared.literal.LiteralFormat.TheVariants.{Binary, Hex, SignedDecimal, UnsizedHex}
use Rattle.vast_literal.specs.Digits.{is_numeral, digits_in, number_in, lowest_digits, separator}
use Rattle.vast_literal.specs.Literal.{split_at, typed_parts, without_sign, has_minus, radix_and_digits, is_decimal, width_of, fits_in, modulo_width, magnitude_of, fitted, value_of, literal_of, bad_digits_text, large_value_text}
use Rattle.vast_literal.specs.LiteralText.{above_limit_text, within_limit, format_takes, is_below_half, signed_text, format_text}
use Rattle.vast_literal.specs.Pattern.{is_pattern, pattern}
use Rattle.vast_literal.specs.Quoted.{escaped_by, quoted}
use Rattle.vast_literal.specs.WorkedLiterals.{WorkedLiterals}

-- minus 256 in 8 bits is 0
lowest : literal_of (codes "bits[8]:-256") ≡ Ok (record { width = 8; value = 0 })
unfolding literal_of typed_parts split_at width_of is_decimal value_of magnitude_of fitted fits_in modulo_width without_sign has_minus radix_and_digits is_numeral number_in digits_in
lowest = refl

-- leading zeros in the width, a capital mark and an underscore before the digit
loose : literal_of (codes "bits[008]:0X_f") ≡ Ok (record { width = 8; value = 15 })
unfolding literal_of typed_parts split_at width_of is_decimal value_of magnitude_of fitted fits_in modulo_width without_sign has_minus radix_and_digits is_numeral number_in digits_in
loose = refl

two_signs : literal_of (codes "bits[8]:--1") ≡ Err (codes "invalid digits in literal `bits[8]:--1`")
unfolding literal_of typed_parts split_at width_of is_decimal value_of magnitude_of without_sign has_minus radix_and_digits is_numeral bad_digits_text
two_signs = refl

-- minus 1 in 129 bits is 2^129 - 1
large : literal_of (codes "bits[129]:-1") ≡ Err (codes "literal `bits[129]:-1` has a value of 2^128 or more")
unfolding literal_of typed_parts split_at width_of is_decimal value_of magnitude_of fitted fits_in modulo_width without_sign has_minus radix_and_digits is_numeral number_in digits_in large_value_text
large = refl

padded : format_text Binary 9 3 ≡ codes "9'b0_0000_0011"
unfolding format_text lowest_digits separator digits
padded = refl

compact : format_text Hex 1025 0 ≡ codes "1025'h0"
unfolding format_text lowest_digits separator digits
compact = refl

negative : format_text SignedDecimal 128 (2 ^ 128 - 1) ≡ codes "-128'sd1"
unfolding format_text signed_text is_below_half digits
negative = refl

above : format_takes UnsizedHex 8589934591 ≡ Err (codes "unsized hexadecimal literal magnitude 8589934591 exceeds maximum 4294967295")
unfolding within_limit above_limit_text digits
above = refl

unknown : pattern (codes "1?0") ≡ Ok (codes "3'b1?0")
unfolding pattern is_pattern digits
unknown = refl

-- a, a quote, b, a backslash, a line break and U+0001
escapes : quoted (97 ∷ 34 ∷ 98 ∷ 92 ∷ 10 ∷ 1 ∷ []) ≡ 34 ∷ 97 ∷ 92 ∷ 34 ∷ 98 ∷ 92 ∷ 92 ∷ 92 ∷ 110 ∷ 92 ∷ 48 ∷ 48 ∷ 49 ∷ 34 ∷ []
unfolding quoted escaped_by
escapes = refl

pub worked_literals : WorkedLiterals
worked_literals = record { lowest = lowest; loose = loose; two_signs = two_signs; large = large; padded = padded; compact = compact; negative = negative; above = above; unknown = unknown; escapes = escapes }
