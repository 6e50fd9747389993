-- A written number has no line break, and one of two digits is written digit by digit.
use Rattle.std.proofs.Common.{Bool, ◌≡◌, ℕ, suc, ◌+◌, ◌/◌, ◌%◌, ◌<◌, ◌≤◌, ℤ, pos, negsuc, true, false, eqb, sym, append_assoc, append-nil, List, [], ◌∷◌, ◌++◌, refl, ◌∙◌, ap, arith}
use Rattle.std.specs.Fmt.{decimal, signed_decimal}
use Rattle.std.proofs.lemmas.Fmt.{decimal_digit, decimal_step}
use Rattle.vast_print.specs.Printed.{plain_text}
use Rattle.vast_print.specs.Page.{written}
use Rattle.vast_print.specs.Draft.{Draft}
use Rattle.vast_print.specs.Output.{Output, Unstopped, word, inline, append_word, margin}
use Rattle.vast_print.proofs.Lines.{unbroken}
use Rattle.vast_print.proofs.OutputLaws.{inline-word}
use Rattle.vast_literal.proofs.NumberLaws.{decimal_number, every_number}
use Rattle.vast_literal.proofs.ScanLaws.{and_left, and_right}
use Rattle.vast_literal.specs.LiteralToken.{every, is_number}
use Rattle.vast_literal.specs.Scan.{is_digit}
use Rattle.std.proofs.lemmas.Bool.Decides.{nat_tests}

-- Whether a text isn't empty.
abbrev pub has_text : List ℕ → Bool
has_text [] = false
has_text (c ∷ w) = true

digits-unbroken : (w : List ℕ) → every is_digit w ≡ true → unbroken w ≡ true
digits-unbroken [] h = refl
digits-unbroken (c ∷ w) h = rw (no-break c (and_left (is_digit c) (every is_digit w) h)) (digits-unbroken w (and_right (is_digit c) (every is_digit w) h))
  where
    no-break : (c : ℕ) → is_digit c ≡ true → eqb c 10 ≡ false
    no-break c h = grind (arith, nat_tests)

decimal-unbroken : (n : ℕ) → unbroken (decimal n) ≡ true
decimal-unbroken n = digits-unbroken (decimal n) (every_number (decimal n) (decimal_number n))

signed-unbroken : (z : ℤ) → unbroken (signed_decimal z) ≡ true
signed-unbroken (pos n) = decimal-unbroken n
signed-unbroken (negsuc n) = decimal-unbroken (suc n)

-- a number is written with at least one digit

number-some : (w : List ℕ) → is_number w ≡ true → has_text w ≡ true
number-some [] h = cc
number-some (c ∷ w) h = refl

decimal-some : (n : ℕ) → has_text (decimal n) ≡ true
decimal-some n = number-some (decimal n) (decimal_number n)

signed-some : (z : ℤ) → has_text (signed_decimal z) ≡ true
signed-some (pos n) = decimal-some n
signed-some (negsuc n) = refl

word-some : (k : Draft) (w : List ℕ) → has_text w ≡ true → word (Unstopped k) w ≡ Unstopped (append_word k w)
unfolding word
word-some k [] h = absurd (cc (h))
word-some k (c ∷ w) h = refl

pub word-number : (k : Draft) (z : ℤ) → word (Unstopped k) (signed_decimal z) ≡ Unstopped (append_word k (signed_decimal z))
word-number k z = word-some k (signed_decimal z) (signed-some z)

-- a number after the spaces of its line
pub append_word-number : (k j : Draft) (z : ℤ) (u : List ℕ) → j ≡ append_word k [] → u ≡ j.text ++ signed_decimal z →
    word (Unstopped k) (signed_decimal z) ≡ Unstopped (record { text = u; depth = j.depth; fresh = j.fresh; begun = j.begun })
append_word-number k j z u e f =
    let a : j.text ++ signed_decimal z ≡ k.text ++ (margin k ++ signed_decimal z) =
    ap (λ (x : Draft). x.text ++ signed_decimal z) e ∙ simp (append_assoc, append-nil) in
    let b : u ≡ k.text ++ (margin k ++ signed_decimal z) = f ∙ a in
    word-number k z
    ∙ sym (rw (b, e) refl)

pub inline-number : (d : ℕ) (k : Output) (z : ℤ) → inline d k (written (plain_text (signed_decimal z))) ≡ word k (signed_decimal z)
inline-number d k z = inline-word d k (signed_decimal z) (signed-unbroken z)

-- short numbers

pub one-digit : (n : ℕ) → n < 10 → decimal n ≡ (48 + n) ∷ []
one-digit n h = decimal_digit n h

two-digits : (n : ℕ) → 10 ≤ n → n < 100 → decimal n ≡ decimal (n / 10) ++ decimal (n % 10)
two-digits n h k = decimal_step n h (omega (arith, k)) ∙ ap (λ x. decimal (n / 10) ++ x) (sym (decimal_digit (n % 10) (omega arith)))

pub behind-first-digit : (w : List ℕ) (n : ℕ) → 10 ≤ n → n < 100 → (w ++ decimal (n / 10)) ++ decimal (n % 10) ≡ w ++ decimal n
behind-first-digit w n h k = append_assoc w (decimal (n / 10)) (decimal (n % 10)) ∙ ap (λ x. w ++ x) (sym (two-digits n h k))

pub ruleset short_numbers = (one-digit, behind-first-digit)
