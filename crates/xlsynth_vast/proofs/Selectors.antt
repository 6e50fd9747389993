-- The text `bits[64]:n` is a literal of n.
use Rattle.std.proofs.Common.{◌≡◌, ℕ, ◌^◌, ◌<◌, ◌≤◌, List, [], ◌∷◌, ◌++◌, Bool, true, false, Some, None, Result, Ok, codes, refl, ap, arith, lit≤, eqb, ltb}
use Rattle.std.specs.Prelude.{if◌then◌else◌}
use Rattle.std.specs.Fmt.{decimal}
use Rattle.std.specs.Int.{IsInRange}
use Rattle.std.specs.Str.Parse.{AllDigits}
use Rattle.std.proofs.lemmas.Str.Parse.{digit_from_value}
use Rattle.std.proofs.lemmas.Fmt.{decimal_is_IsNumeral_wide}
use Rattle.std.proofs.lemmas.Bool.Decides.{nat_tests}
use Rattle.vast_literal.specs.Literal.{Bits, split_at, typed_parts, has_minus, without_sign, radix_and_digits, marked_radix, is_decimal, width_of, fits_in, modulo_width, magnitude_of, fitted, value_of, literal_of}
use Rattle.vast_literal.specs.declared.error.VastFault.{VastFault}
use Rattle.vast_literal.specs.declared.error.VastFault.TheVariants.{Refused, Memory}
use Rattle.vast_literal.specs.declared.literal.LiteralFormat.TheVariants.{Hex}
use Rattle.vast_literal.specs.Fault.{OnlyRefusedBy}
use Rattle.vast_literal.specs.LiteralText.{format_text}
use Rattle.vast_literal.proofs.Decimals.{written-decimal}

parts : (ds : List ℕ) → typed_parts (codes "bits[64]:" ++ ds) ≡ Some (codes "64", ds)
unfolding typed_parts split_at
parts ds = refl

width : (text : List ℕ) → width_of text (codes "64") ≡ Ok 64
unfolding width_of is_decimal
width text = refl

minus : (ds : List ℕ) → AllDigits 10 ds → has_minus ds ≡ false
unfolding has_minus
minus [] h = refl
minus (c ∷ ds) h = let r = digit_from_value c h.0 in grind (arith, nat_tests)

unsigned : (ds : List ℕ) → AllDigits 10 ds → without_sign ds ≡ ds
unfolding without_sign
unsigned [] h = refl
unsigned (c ∷ ds) h = let r = digit_from_value c h.0 in grind (arith, nat_tests)

no_mark : (c : ℕ) → IsInRange 48 57 c → marked_radix c ≡ None
no_mark c h = grind (arith, nat_tests)

either : {A : Type 0} (b : Bool) (x : A) → if◌then◌else◌ b x x ≡ x
either true x = refl
either false x = refl

in_decimal : (ds : List ℕ) → AllDigits 10 ds → radix_and_digits ds ≡ (10, ds)
unfolding radix_and_digits
in_decimal [] h = refl
in_decimal (z ∷ []) h = refl
in_decimal (z ∷ m ∷ ds) h = let k = no_mark m (digit_from_value m h.1.0) in rw k (either (eqb z 48) (10, z ∷ m ∷ ds))

number : (text : List ℕ) (n : ℕ) → n < 2 ^ 64 → value_of text (decimal n) 64 ≡ Ok n
unfolding value_of magnitude_of fitted fits_in modulo_width
number text n s =
    let wide : 2 ^ 128 ≤ 10 ^ 64 = lit≤ tt in
    let above : 2 ^ 64 ≤ 2 ^ 128 = lit≤ tt in
    let small : n < 2 ^ 128 = omega arith in
    let digits = (decimal_is_IsNumeral_wide n (omega arith)).0.1 in
    let written = written-decimal n small in
    let fits : ltb n (2 ^ 64) ≡ true = grind (arith, nat_tests) in
    let holds : ltb n (2 ^ 128) ≡ true = grind (arith, nat_tests) in
    rw (minus (decimal n) digits, unsigned (decimal n) digits, in_decimal (decimal n) digits, written.numeral, written.value, holds, fits, holds)

pub wide_literal : (n : ℕ) → n < 2 ^ 64 → literal_of (codes "bits[64]:" ++ decimal n) ≡ Ok (record { width = 64; value = n })
unfolding literal_of
wide_literal n s = rw (parts (decimal n), width (codes "bits[64]:" ++ decimal n), number (codes "bits[64]:" ++ decimal n) n s)

-- A literal is never refused.
pub never_refused : (rule : Result Bits (List ℕ)) (bits : Bits) (fault : VastFault) → rule ≡ Ok bits → OnlyRefusedBy rule fault → ⊥
never_refused rule bits (Refused e) s h = cc
never_refused rule bits (Memory e) s h = let k = rw s at h in cc

-- The literal that a text denotes is one.
pub spelled_by : (rule : Result Bits (List ℕ)) (a b : Bits) → rule ≡ Ok a → rule ≡ Ok b → format_text Hex a.width a.value ≡ format_text Hex b.width b.value
spelled_by rule a b h k = let e : a ≡ b = cc in ap (λ (c : Bits). format_text Hex c.width c.value) e
