-- A written number is a number, perhaps after a minus.
use Rattle.std.proofs.Common.{◌≡◌, ℕ, zero, suc, ◌/◌, ◌%◌, ℤ, pos, negsuc, List, [], ◌∷◌, true, false, ◌||◌, eqb, refl, arith}
use Rattle.std.proofs.lemmas.Bool.{and_from, cond_both, or_left}
use Rattle.std.proofs.lemmas.Bool.Decides.{nat_tests}
use Rattle.std.specs.Prelude.{◌==◌}
use Rattle.std.specs.Fmt.{digits, digits_onto, digit_glyph, decimal, signed_decimal}
use Rattle.vast_literal.specs.Scan.{is_digit}
use Rattle.vast_literal.specs.LiteralToken.{every, is_number, is_based, is_filled, is_literal_text}
use Rattle.vast_literal.proofs.ScanLaws.{and_left}

glyph : (n : ℕ) → is_digit (digit_glyph false (n % 10)) ≡ true
glyph n = grind (arith, nat_tests)

digits_number : (k n c : ℕ) (acc : List ℕ) → every is_digit (c ∷ acc) ≡ true → is_number (digits_onto k 10 false n (c ∷ acc)) ≡ true
digits_number zero n c acc h = h
digits_number (suc k) n c acc h = cond_both (n / 10 == 0) _ _ (λ ds. is_number ds ≡ true)
    (λ _. and_from _ _ (glyph n) h) (λ _. digits_number k (n / 10) (digit_glyph false (n % 10)) (c ∷ acc) (and_from _ _ (glyph n) h))

pub decimal_number : (n : ℕ) → is_number (decimal n) ≡ true
unfolding digits
decimal_number n = cond_both (n / 10 == 0) _ _ (λ ds. is_number ds ≡ true) (λ _. and_from _ _ (glyph n) refl) (λ _. digits_number 63 (n / 10) (digit_glyph false (n % 10)) [] (and_from _ _ (glyph n) refl))

pub every_number : (d : List ℕ) → is_number d ≡ true → every is_digit d ≡ true
every_number [] h = refl
every_number (c ∷ d) h = h

pub no_minus : (c : ℕ) → is_digit c ≡ true → eqb c 45 ≡ false
no_minus c h = grind (arith, nat_tests)

pub number_text : (w : List ℕ) → is_number w ≡ true → is_literal_text w ≡ true
number_text [] h = absurd (cc h)
number_text (c ∷ cs) h = let e = no_minus c (and_left (is_digit c) (every is_digit cs) h) in
    rw e (or_left (is_number (c ∷ cs)) (is_based (c ∷ cs) || is_filled (c ∷ cs)) h)

pub signed_text : (z : ℤ) → is_literal_text (signed_decimal z) ≡ true
signed_text (pos n) = number_text (decimal n) (decimal_number n)
signed_text (negsuc n) = let h = decimal_number (suc n) in or_left (is_number (decimal (suc n))) (is_based (decimal (suc n)) || is_filled (decimal (suc n))) h
