-- Worked literals, proved in the law `worked_literals`: what some texts denote, and how some numbers, patterns and strings
-- are written.
use Rattle.std.specs.Prelude.{◌≡◌, ◌-◌, ◌^◌, [], ◌∷◌, Ok, Err, codes}
use Rattle.vast_literal.specs.declared.literal.LiteralFormat.TheVariants.{Binary, Hex, SignedDecimal, UnsizedHex}
use Rattle.vast_literal.specs.Literal.{literal_of}
use Rattle.vast_literal.specs.LiteralText.{format_takes, format_text}
use Rattle.vast_literal.specs.Pattern.{pattern}
use Rattle.vast_literal.specs.Quoted.{quoted}

pub record WorkedLiterals : Type 0 where
  -- minus 256 in 8 bits is 0
  pub lowest : literal_of (codes "bits[8]:-256") ≡ Ok (record { width = 8; value = 0 })
  -- leading zeros in the width, a capital mark and an underscore before the digit
  pub loose : literal_of (codes "bits[008]:0X_f") ≡ Ok (record { width = 8; value = 15 })
  pub two_signs : literal_of (codes "bits[8]:--1") ≡ Err (codes "invalid digits in literal `bits[8]:--1`")
  -- minus 1 in 129 bits is 2^129 - 1
  pub large : literal_of (codes "bits[129]:-1") ≡ Err (codes "literal `bits[129]:-1` has a value of 2^128 or more")
  pub padded : format_text Binary 9 3 ≡ codes "9'b0_0000_0011"
  pub compact : format_text Hex 1025 0 ≡ codes "1025'h0"
  pub negative : format_text SignedDecimal 128 (2 ^ 128 - 1) ≡ codes "-128'sd1"
  pub above : format_takes UnsizedHex 8589934591 ≡ Err (codes "unsized hexadecimal literal magnitude 8589934591 exceeds maximum 4294967295")
  pub unknown : pattern (codes "1?0") ≡ Ok (codes "3'b1?0")
  -- a, a quote, b, a backslash, a line break and U+0001
  pub escapes : quoted (97 ∷ 34 ∷ 98 ∷ 92 ∷ 10 ∷ 1 ∷ []) ≡ 34 ∷ 97 ∷ 92 ∷ 34 ∷ 98 ∷ 92 ∷ 92 ∷ 92 ∷ 110 ∷ 92 ∷ 48 ∷ 48 ∷ 49 ∷ 34 ∷ []
