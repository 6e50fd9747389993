-- Literals: what `bits[N]:value` denotes, and why a text is refused.
use Rattle.std.specs.Prelude.{ℕ, ◌-◌, ◌%◌, ◌^◌, List, [], ◌∷◌, ◌++◌, length, drop, Bool, false, ◌&&◌, ◌||◌, ◌==◌, nat_lt, nat_le, nat_eq, codes, Option, Some, None, Result, Ok, Err, if◌then◌else◌}
use Rattle.std.specs.List.{list_all, starts_with}
use Rattle.std.specs.Char.{is_ascii_digit}
use Rattle.std.specs.Option.{option_map}
use Rattle.std.specs.Fmt.{decimal}
use Rattle.vast_literal.specs.Digits.{weighted, is_numeral, number_in}

-- A number of a width in bits.
pub record Bits : Type 0 where
  pub width : ℕ
  pub value : ℕ

-- The text of a mark and what stands on its sides, at the first place where it stands.
unfoldable pub split_at : List ℕ → List ℕ → Option (List ℕ × List ℕ)
split_at mark [] = None
split_at mark (c ∷ cs) =
    if starts_with nat_eq (c ∷ cs) mark then Some ([], drop (length mark) (c ∷ cs))
    else option_map (λ parts. (c ∷ parts.0, parts.1)) (split_at mark cs)

-- The width and the value of `bits[N]:value`.
unfoldable pub typed_parts : List ℕ → Option (List ℕ × List ℕ)
typed_parts text = if starts_with nat_eq text (codes "bits[") then split_at (codes "]:") (drop 5 text) else None

-- A number without its sign.
unfoldable pub without_sign : List ℕ → List ℕ
without_sign [] = []
without_sign (c ∷ cs) = if c == 45 || c == 43 then cs else c ∷ cs

-- Whether a number has a minus.
unfoldable pub has_minus : List ℕ → Bool
has_minus [] = false
has_minus (c ∷ cs) = c == 45

-- The radix of a letter after a zero: 16 for x, 2 for b, 8 for o, in either case.
abbrev pub marked_radix : ℕ → Option ℕ
marked_radix c =
    if c == 120 || c == 88 then Some 16 else
    (if c == 98 || c == 66 then Some 2 else
    (if c == 111 || c == 79 then Some 8 else None))

-- The radix of a mark, and ten without one.
abbrev pub radix_or_ten : Option ℕ → ℕ
radix_or_ten None = 10
radix_or_ten (Some radix) = radix

-- The digits after a mark, and all without one.
abbrev pub digits_or_all : Option ℕ → List ℕ → List ℕ → List ℕ
digits_or_all None all digits = all
digits_or_all (Some radix) all digits = digits

-- The radix that begins a number without a sign, and its digits.
unfoldable pub radix_and_digits : List ℕ → ℕ × List ℕ
radix_and_digits [] = (10, [])
radix_and_digits (z ∷ []) = (10, z ∷ [])
radix_and_digits (z ∷ m ∷ digits) =
    if z == 48 then (radix_or_ten (marked_radix m), digits_or_all (marked_radix m) (z ∷ m ∷ digits) digits)
    else (10, z ∷ m ∷ digits)

-- The first of some checks that fails answers its text; else there is a result.
abbrev pub checked : {A : Type 0} → List (Bool × List ℕ) → A → Result A (List ℕ)
checked [] result = Ok result
checked (check ∷ checks) result = if check.0 then checked checks result else Err check.1

-- The refusal of a text without `bits[` and `]:`.
unfoldable pub untyped_text : List ℕ → List ℕ
untyped_text text = codes "expected a typed bits literal, got `" ++ text ++ codes "`"

-- The refusal of a width with other characters than digits.
unfoldable pub bad_width_text : List ℕ → List ℕ
bad_width_text text = codes "invalid bit width in literal `" ++ text ++ codes "`"

-- The refusal of a width of 2^64 or more.
unfoldable pub long_width_text : List ℕ → List ℕ
long_width_text width = codes "invalid bit width `" ++ width ++ codes "`: number too large to fit in target type"

-- The refusal of no bits.
unfoldable pub zero_width_text : List ℕ
zero_width_text = codes "literal bit width must be greater than zero"

-- The refusal of too many bits.
unfoldable pub wide_text : ℕ → List ℕ
wide_text n = codes "literal bit width " ++ decimal n ++ codes " exceeds maximum supported width 1048576"

-- The refusal of a value with other characters than digits of its radix, or without any.
unfoldable pub bad_digits_text : List ℕ → List ℕ
bad_digits_text text = codes "invalid digits in literal `" ++ text ++ codes "`"

-- The refusal of digits that write 2^128 or more.
unfoldable pub large_magnitude_text : List ℕ → List ℕ
large_magnitude_text text = codes "literal `" ++ text ++ codes "` has a magnitude of 2^128 or more"

-- The refusal of a number that needs more bits.
unfoldable pub no_fit_text : List ℕ → ℕ → List ℕ
no_fit_text text n = codes "literal `" ++ text ++ codes "` does not fit in " ++ decimal n ++ codes " bits"

-- The refusal of a value of 2^128 or more.
unfoldable pub large_value_text : List ℕ → List ℕ
large_value_text text = codes "literal `" ++ text ++ codes "` has a value of 2^128 or more"

-- One decimal digit or more.
unfoldable pub is_decimal : List ℕ → Bool
is_decimal text = list_all is_ascii_digit text && nat_lt 0 (length text)

-- The width that a text writes, or the refusal of the literal.
unfoldable pub width_of : List ℕ → List ℕ → Result ℕ (List ℕ)
width_of text width =
    checked ((is_decimal width, bad_width_text text)
    ∷ (nat_lt (weighted 10 width) (2 ^ 64), long_width_text width)
    ∷ (nat_le 1 (weighted 10 width), zero_width_text)
    ∷ (nat_le (weighted 10 width) 1048576, wide_text (weighted 10 width)) ∷ [])
    (weighted 10 width)

-- Whether a number fits in n bits, with a minus as low as minus 2^n.
unfoldable pub fits_in : ℕ → Bool → ℕ → Bool
fits_in n negative m = if negative then nat_le m (2 ^ n) else nat_lt m (2 ^ n)

-- A number modulo 2^n, or with a minus its opposite.
unfoldable pub modulo_width : ℕ → Bool → ℕ → ℕ
modulo_width n negative m = if negative then (2 ^ n - m) % 2 ^ n else m

-- The number that a text without a sign writes, or the refusal of the literal.
unfoldable pub magnitude_of : List ℕ → List ℕ → Result ℕ (List ℕ)
magnitude_of text number =
    let parts = radix_and_digits number in
    checked ((is_numeral parts.0 parts.1, bad_digits_text text)
    ∷ (nat_lt (number_in parts.0 parts.1) (2 ^ 128), large_magnitude_text text) ∷ [])
    (number_in parts.0 parts.1)

-- The value of a number in n bits, or the refusal of the literal.
unfoldable pub fitted : List ℕ → ℕ → Bool → ℕ → Result ℕ (List ℕ)
fitted text n negative m =
    checked ((fits_in n negative m, no_fit_text text n)
    ∷ (nat_lt (modulo_width n negative m) (2 ^ 128), large_value_text text) ∷ [])
    (modulo_width n negative m)

-- What follows a result, or the refusal that stands in its place.
abbrev pub and_then : {A B E : Type 0} → Result A E → (A → Result B E) → Result B E
and_then (Ok x) next = next x
and_then (Err refusal) next = Err refusal

-- The value of n bits that a text writes, or the refusal of the literal.
unfoldable pub value_of : List ℕ → List ℕ → ℕ → Result ℕ (List ℕ)
value_of text value n = and_then (magnitude_of text (without_sign value)) (fitted text n (has_minus value))

-- The literal of the two parts, where the text has them.
abbrev pub bits_of_parts : List ℕ → Option (List ℕ × List ℕ) → Result Bits (List ℕ)
bits_of_parts text None = Err (untyped_text text)
bits_of_parts text (Some parts) = and_then (width_of text parts.0) (λ n. and_then (value_of text parts.1 n) (λ v. Ok (record { width = n; value = v })))

-- The literal of a text, or the refusal of the first check that fails.
unfoldable pub literal_of : List ℕ → Result Bits (List ℕ)
literal_of text = bits_of_parts text (typed_parts text)
