-- A text that denotes a literal is accepted.
use Rattle.std.proofs.Common.{◌≡◌, ◌≢◌, ℕ, ◌+◌, ◌-◌, ◌%◌, ◌^◌, ◌<◌, ◌≤◌, List, [], ◌∷◌, ◌++◌, Bool, true, false, eqb, refl, sym, ap, ◌∙◌, arith, Some, None, Result, Ok, Err, inl, inr, MatchResult}
use Rattle.std.specs.Prelude.{◌⊎◌}
use Rattle.std.specs.Bool.{MatchBool}
use Rattle.std.specs.Int.{IsInRange}
use Rattle.std.specs.List.{list_all}
use Rattle.std.specs.Char.{is_ascii_digit}
use Rattle.std.proofs.Math.Nat.{mod_self, mod-eq_of_lt, add-mod_left}
use Rattle.std.proofs.lemmas.Bool.{lt-ltb, le-leb, ne_eqb, cases_lt, false≢true, and_parts}
use Rattle.std.proofs.lemmas.Bool.Decides.{nat_tests}
use Rattle.vast_literal.specs.declared.error.VastFault.{VastFault}
use Rattle.vast_literal.specs.declared.error.VastFault.TheVariants.{Refused, Memory}
use Rattle.vast_literal.specs.Fault.{OnlyRefusedBy}
use Rattle.vast_literal.specs.Digits.{is_digit_or_gap, is_numeral, number_in, weighted}
use Rattle.vast_literal.specs.Literal.{Bits, split_at, typed_parts, without_sign, has_minus, marked_radix, radix_and_digits, is_decimal, width_of, fits_in, modulo_width, magnitude_of, fitted, value_of, literal_of}
use Rattle.vast_literal.specs.Denotes.{IsSign, IsRadixMark, IsModulo, Denotes}
use Rattle.vast_literal.specs.Denotes.IsSign.{NoSign, PlusSign, MinusSign}
use Rattle.vast_literal.specs.Denotes.IsRadixMark.{NoMark}
use Rattle.vast_literal.proofs.Parts.{starts_not}
use Rattle.vast_literal.proofs.ScanLaws.{by_test}

-- the width has no bracket, so the text is cut after it
no_bracket : (c : ℕ) → is_ascii_digit c ≡ true → c ≢ 93
no_bracket c h e = grind (arith, nat_tests)

split_at-digits : (w value : List ℕ) → list_all is_ascii_digit w ≡ true → split_at (93 ∷ 58 ∷ []) (w ++ (93 ∷ 58 ∷ value)) ≡ Some (w, value)
unfolding split_at
split_at-digits [] value h = refl
split_at-digits (c ∷ cs) value h =
    let p = and_parts (is_ascii_digit c) (list_all is_ascii_digit cs) h in
    rw (starts_not (93 ∷ 58 ∷ []) (c ∷ (cs ++ (93 ∷ 58 ∷ value))) (λ rest e. no_bracket c p.0 (let k : c ≡ 93 = cc in k)), split_at-digits cs value p.1)

typed_as : (text w value : List ℕ) → text ≡ 98 ∷ 105 ∷ 116 ∷ 115 ∷ 91 ∷ (w ++ (93 ∷ 58 ∷ value)) → is_decimal w ≡ true → typed_parts text ≡ Some (w, value)
unfolding typed_parts is_decimal
typed_as text w value e h = rw e (split_at-digits w value (and_parts (list_all is_ascii_digit w) _ h).0)

width_ok : (text w : List ℕ) (n : ℕ) → is_decimal w ≡ true → n ≡ weighted 10 w → 1 ≤ n → n ≤ 1048576 → width_of text w ≡ Ok n
unfolding width_of
width_ok text w n d e low high =
    rw (d, lt-ltb (weighted 10 w) (2 ^ 64) (omega arith), le-leb 1 (weighted 10 w) (omega arith), le-leb (weighted 10 w) 1048576 (omega arith)) (ap (λ k. Ok k) (sym e))

-- digits begin with no sign and no mark
digit_range : (c : ℕ) → is_digit_or_gap 10 c ≡ true → (c ≡ 95) ⊎ IsInRange 48 57 c
digit_range c h = grind (arith, nat_tests)

no_mark : (m : ℕ) → (m ≡ 95) ⊎ IsInRange 48 57 m → marked_radix m ≡ None
no_mark m (inl e) = rw e
no_mark m (inr r) = rw (ne_eqb m 120 (λ e. omega arith), ne_eqb m 88 (λ e. omega arith), ne_eqb m 98 (λ e. omega arith), ne_eqb m 66 (λ e. omega arith), ne_eqb m 111 (λ e. omega arith), ne_eqb m 79 (λ e. omega arith))

plain_digits : (digits : List ℕ) → is_numeral 10 digits ≡ true → radix_and_digits digits ≡ (10, digits)
unfolding radix_and_digits is_numeral
plain_digits [] h = refl
plain_digits (z ∷ []) h = refl
plain_digits (z ∷ m ∷ ds) h =
    let p = and_parts (list_all (is_digit_or_gap 10) (z ∷ m ∷ ds)) _ h in
    let q = and_parts (is_digit_or_gap 10 z) _ p.0 in
    let r = and_parts (is_digit_or_gap 10 m) _ q.1 in
    by_test (eqb z 48) (λ e. rw (e, no_mark m (digit_range m r.0))) (λ e. rw e)

mark_read : (mark digits : List ℕ) (radix : ℕ) → IsRadixMark mark radix → is_numeral radix digits ≡ true → radix_and_digits (mark ++ digits) ≡ (radix, digits)
unfolding radix_and_digits
mark_read mark digits radix NoMark h = plain_digits digits h
mark_read mark digits radix _ h = refl

no_sign_first : (c : ℕ) (cs : List ℕ) → (c ≡ 95) ⊎ IsInRange 48 57 c → (has_minus (c ∷ cs) ≡ false) × (without_sign (c ∷ cs) ≡ c ∷ cs)
unfolding has_minus without_sign
no_sign_first c cs (inl e) = (rw e, rw e)
no_sign_first c cs (inr r) = (ne_eqb c 45 (λ e. omega arith), rw (ne_eqb c 45 (λ e. omega arith), ne_eqb c 43 (λ e. omega arith)))

no_sign_digits : (digits : List ℕ) → is_numeral 10 digits ≡ true → (has_minus digits ≡ false) × (without_sign digits ≡ digits)
unfolding has_minus without_sign is_numeral
no_sign_digits [] h = (refl, refl)
no_sign_digits (c ∷ cs) h =
    let p = and_parts (list_all (is_digit_or_gap 10) (c ∷ cs)) _ h in
    no_sign_first c cs (digit_range c (and_parts (is_digit_or_gap 10 c) _ p.0).0)

no_sign : (mark digits : List ℕ) (radix : ℕ) → IsRadixMark mark radix → is_numeral radix digits ≡ true → (has_minus (mark ++ digits) ≡ false) × (without_sign (mark ++ digits) ≡ mark ++ digits)
unfolding has_minus without_sign
no_sign mark digits radix NoMark h = no_sign_digits digits h
no_sign mark digits radix _ h = (refl, refl)

sign_read : (sign number : List ℕ) (negative : Bool) → IsSign sign negative → (has_minus number ≡ false) × (without_sign number ≡ number) → (has_minus (sign ++ number) ≡ negative) × (without_sign (sign ++ number) ≡ number)
unfolding has_minus without_sign
sign_read sign number negative NoSign h = h
sign_read sign number negative PlusSign h = (refl, refl)
sign_read sign number negative MinusSign h = (refl, refl)

magnitude_ok : (text number : List ℕ) (radix : ℕ) (digits : List ℕ) → radix_and_digits number ≡ (radix, digits) → is_numeral radix digits ≡ true → number_in radix digits < 2 ^ 128 → magnitude_of text number ≡ Ok (number_in radix digits)
unfolding magnitude_of
magnitude_ok text number radix digits e h s = rw (e, h, lt-ltb (number_in radix digits) (2 ^ 128) s)

-- the one value that is the number or its opposite modulo 2^n
pub opposite_is : (n m v : ℕ) → m ≤ 2 ^ n → v < 2 ^ n → (v + m) % 2 ^ n ≡ 0 → (v + m < 2 ^ n) ⊎ (2 ^ n ≤ v + m) → (2 ^ n - m) % 2 ^ n ≡ v
opposite_is n m v h b s (inl l) =
    let z : v + m ≡ 0 = sym (mod-eq_of_lt l) ∙ s in
    let e : 2 ^ n - m ≡ 2 ^ n = omega arith in
    let k : 0 ≡ v = omega arith in
    rw e (mod_self (2 ^ n) ∙ k)
opposite_is n m v h b s (inr l) =
    let p = 2 ^ n in
    let k = v + m - p in
    let e : v + m ≡ p + k = omega arith in
    let z : k ≡ 0 = sym (mod-eq_of_lt {n = k} {m = p} (omega arith)) ∙ sym (add-mod_left p k) ∙ ap (λ t. t % p) (sym e) ∙ s in
    let q : 2 ^ n - m ≡ v = omega arith in
    rw q (mod-eq_of_lt b)

modulo_is : (n : ℕ) (negative : Bool) (m v : ℕ) → MatchBool negative (m ≤ 2 ^ n) (m < 2 ^ n) → IsModulo n negative m v → modulo_width n negative m ≡ v
unfolding modulo_width
modulo_is n true m v h s = opposite_is n m v h s.below s.same (cases_lt (v + m) (2 ^ n))
modulo_is n false m v h s = sym (s.same ∙ mod-eq_of_lt h)

fits_ok : (n : ℕ) (negative : Bool) (m : ℕ) → MatchBool negative (m ≤ 2 ^ n) (m < 2 ^ n) → fits_in n negative m ≡ true
unfolding fits_in
fits_ok n true m h = le-leb m (2 ^ n) h
fits_ok n false m h = lt-ltb m (2 ^ n) h

fitted_ok : (text : List ℕ) (n : ℕ) (negative : Bool) (m v : ℕ) → MatchBool negative (m ≤ 2 ^ n) (m < 2 ^ n) → IsModulo n negative m v → v < 2 ^ 128 → fitted text n negative m ≡ Ok v
unfolding fitted
fitted_ok text n negative m v h s l = rw (fits_ok n negative m h, modulo_is n negative m v h s, lt-ltb v (2 ^ 128) l)

pub accepted : (text : List ℕ) (bits : Bits) → Denotes text bits → literal_of text ≡ Ok bits
unfolding literal_of value_of
accepted text bits d =
    let number = d.mark ++ d.digits in
    let t = typed_as text d.width_text (d.sign ++ number) d.parts d.decimal_width in
    let w = width_ok text d.width_text bits.width d.decimal_width d.width d.positive d.narrow in
    let s = sign_read d.sign number d.negative d.is_sign (no_sign d.mark d.digits d.radix d.is_mark d.numeral) in
    let m = magnitude_ok text number d.radix d.digits (mark_read d.mark d.digits d.radix d.is_mark d.numeral) d.numeral d.small_magnitude in
    let f = fitted_ok text bits.width d.negative (number_in d.radix d.digits) bits.value d.fits d.value d.small in
    rw (t, w, s.0, s.1, m, f)

same_ok : (l bits : Bits) (r : Result Bits (List ℕ)) → r ≡ Ok l → r ≡ Ok bits → l ≡ bits
same_ok l bits r h k = cc

-- an answer by the checks is the literal wherever one is denoted
pub accepts : (text : List ℕ) (r : Result Bits VastFault) → MatchResult r (λ l. literal_of text ≡ Ok l) (OnlyRefusedBy (literal_of text)) → (bits : Bits) → Denotes text bits → r ≡ Ok bits
accepts text (Ok l) h bits d = ap (λ k. Ok k) (same_ok l bits (literal_of text) h (accepted text bits d))
accepts text (Err (Refused e)) h bits d = let a = accepted text bits d in cc
accepts text (Err (Memory e)) h bits d = absurd (false≢true (rw (accepted text bits d) at h))
