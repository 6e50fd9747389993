-- The tests of the printed text and those of the grammar agree.
use Rattle.std.proofs.Common.{◌≡◌, ℕ, suc, List, [], ◌∷◌, Bool, true, false, ◌&&◌, ◌||◌, refl, ◌∙◌, ap, arith}
use Rattle.std.proofs.lemmas.Bool.Decides.{nat_tests}
use Rattle.std.specs.Char.{is_ascii_digit}
use Rattle.std.specs.List.{list_all}
use Rattle.std.specs.Prelude.{nat_lt, length}
use Rattle.vast_literal.specs.Scan as Scan
use Rattle.vast_literal.specs.LiteralToken.{every}
use Rattle.vast_literal.specs.LiteralToken as Token
use Rattle.vast_literal.specs.Plain.{is_identifier}
use Rattle.vast_literal.specs.Literal.{is_decimal}
use Rattle.vast_print.specs.Bare.{is_word, is_bare, begins_word, continues_word}

digit_same : (c : ℕ) → is_ascii_digit c ≡ Scan.is_digit c
digit_same c = grind (arith, nat_tests)

begins_same : (c : ℕ) → begins_word c ≡ Scan.is_letter c
begins_same c = grind (arith, nat_tests)

continues_same : (c : ℕ) → continues_word c ≡ Scan.is_word_byte c
continues_same c = grind (arith, nat_tests)

all_same : (p q : ℕ → Bool) → ((c : ℕ) → p c ≡ q c) → (w : List ℕ) → list_all p w ≡ every q w
all_same p q e [] = refl
all_same p q e (c ∷ w) = let a = e c in let b = all_same p q e w in cc (a, b)

and_sure : (b : Bool) → (b && true) ≡ b
and_sure true = refl
and_sure false = refl

some_length : (n : ℕ) → nat_lt 0 (suc n) ≡ true
some_length n = grind (arith, nat_tests)

number_same : (w : List ℕ) → is_decimal w ≡ Token.is_number w
unfolding is_decimal
number_same [] = refl
number_same (c ∷ w) =
    ap (λ b. list_all is_ascii_digit (c ∷ w) && b) (some_length (length w)) ∙ (and_sure (list_all is_ascii_digit (c ∷ w)) ∙ all_same is_ascii_digit Scan.is_digit digit_same (c ∷ w))

word_same : (w : List ℕ) → is_word w ≡ is_identifier w
word_same [] = refl
word_same (c ∷ w) = let a = begins_same c in let b = all_same continues_word Scan.is_word_byte continues_same w in cc (a, b)

pub bare_same : (w : List ℕ) → is_bare w ≡ (Token.is_number w || is_identifier w)
unfolding is_bare
bare_same w = let a = number_same w in let b = word_same w in cc (a, b)
