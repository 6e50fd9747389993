-- The text of a literal in any format is an optional minus and one literal token, so is a pattern's; a quoted text is one string token.
use Rattle.std.proofs.Common.{◌≡◌, ℕ, ◌-◌, ◌^◌, ◌<◌, ◌≤◌, List, [], ◌∷◌, ◌++◌, Bool, true, false, cond, eqb, eqb-true, leb, ltb, refl, sym, ap, ◌∙◌, length, arith, append_assoc, lit≤, ◌⊎◌, inr}
use Rattle.std.specs.Prelude.{◌||◌, ◌&&◌}
use Rattle.std.specs.List.{list_all}
use Rattle.std.specs.Char.{digit_char}
use Rattle.std.specs.Fmt.{decimal}
use Rattle.std.proofs.lemmas.Fmt.{decimal_is_IsNumeral_wide}
use Rattle.std.proofs.lemmas.Bool.{leb-true, and_parts}
use Rattle.std.proofs.lemmas.Bool.Decides.{nat_tests}
use Rattle.std.proofs.lemmas.Nat.{pow_pos}
use Rattle.std.proofs.Math.Pow.{pow_mono}
use Rattle.vast_literal.specs.declared.literal.LiteralFormat.{LiteralFormat}
use Rattle.vast_literal.specs.declared.literal.LiteralFormat.TheVariants.{Binary, Hex, SignedDecimal, UnsignedDecimal, UnsizedBinary, UnsizedDecimal, UnsizedHex}
use Rattle.vast_literal.specs.Scan.{is_digit, is_based_digit}
use Rattle.vast_literal.specs.LiteralToken.{every, is_number, is_based_number, is_based_tail, is_based, is_bare_literal, is_literal_text}
use Rattle.vast_literal.specs.Digits.{lowest_digits, digit_count, characters, grouped, separator}
use Rattle.vast_literal.specs.LiteralText.{padded_count, is_below_half, sized, signed_text, format_text}
use Rattle.vast_literal.specs.Pattern.{is_pattern_digit, is_pattern}
use Rattle.vast_literal.proofs.NumberLaws.{no_minus, number_text, decimal_number, every_number}
use Rattle.vast_literal.proofs.Numbers.{length-lowest_digits}
use Rattle.vast_literal.proofs.Widths.{positive_from_high, narrow_from_high}
use Rattle.vast_literal.proofs.Spelt.{lowest_below, separator_cases, all_written}
use Rattle.vast_literal.proofs.Decimals.{digit_count-some}
use Rattle.vast_literal.proofs.Formats.{padded_some}
use Rattle.vast_literal.proofs.ScanLaws.{by_test}
use Rattle.std.specs.Int.{div_ceil}

every_is : (p : ℕ → Bool) (cs : List ℕ) → every p cs ≡ list_all p cs
every_is p [] = refl
every_is p (c ∷ cs) = ap (λ b. p c && b) (every_is p cs)

pub or_true : (x : Bool) → (x || true) ≡ true
or_true true = refl
or_true false = refl

-- decimal digits
pub no_tick : (c : ℕ) → is_digit c ≡ true → eqb c 39 ≡ false
no_tick c h = grind (arith, nat_tests)

-- literal tokens
bare_from_based : (t : List ℕ) → is_based t ≡ true → is_bare_literal t ≡ true
bare_from_based t h = rw h (or_true (is_number t))

literal_from_based : (t : List ℕ) → is_based t ≡ true → is_literal_text t ≡ true
literal_from_based [] h = cc
literal_from_based (c ∷ cs) h =
    let k : eqb c 45 ≡ false = by_test (eqb c 39) (λ e. rw (eqb-true c 39 e) refl) (λ e. no_minus c (and_parts (is_digit c) (is_based cs) (rw e at h)).0) in
    rw k (bare_from_based (c ∷ cs) h)

pub based_sized : (size tail : List ℕ) → every is_digit size ≡ true → is_based_tail tail ≡ true → is_based (size ++ (39 ∷ tail)) ≡ true
based_sized [] tail h k = k
based_sized (c ∷ cs) tail h k =
    let p = and_parts (is_digit c) (every is_digit cs) h in
    rw (no_tick c p.0, p.0) (based_sized cs tail p.1 k)

-- digits of based literals
based_char : (d : ℕ) → d < 16 → is_based_digit (digit_char d) ≡ true
based_char d h = grind (arith, nat_tests)

based_digit : (c : ℕ) → is_digit c ≡ true → is_based_digit c ≡ true
based_digit c h = rw h

some_based : (cs : List ℕ) → 0 < length cs → list_all is_based_digit cs ≡ true → is_based_number cs ≡ true
some_based [] p h = absurd (omega arith)
some_based (c ∷ cs) p h = every_is is_based_digit (c ∷ cs) ∙ h

all_weaker : (p q : ℕ → Bool) (cs : List ℕ) → ((c : ℕ) → p c ≡ true → q c ≡ true) → list_all p cs ≡ true → list_all q cs ≡ true
all_weaker p q [] f h = refl
all_weaker p q (c ∷ cs) f h = let k = and_parts (p c) (list_all p cs) h in rw (f c k.0) (all_weaker p q cs f k.1)

below_16 : (k count n : ℕ) → k ≤ 4 → (p : ℕ → Bool) → ((d : ℕ) → d < 16 → p (digit_char d) ≡ true) → (d : ℕ) → d < 2 ^ k → p (digit_char d) ≡ true
below_16 k count n h p f d l = let m = pow_mono {i = k} {j = 4} h in f d (omega arith)

written_based : (w : List ℕ → List ℕ) (between : ℕ → List ℕ) → w [] ≡ [] → ((d : ℕ) (ds : List ℕ) → w (d ∷ ds) ≡ digit_char d ∷ (between (length ds) ++ w ds)) → ((n : ℕ) → (between n ≡ 95 ∷ []) ⊎ (between n ≡ [])) →
    (k count n : ℕ) → k ≤ 4 → 0 < count → is_based_number (w (lowest_digits (2 ^ k) count n)) ≡ true
written_based w between none more gaps k count n h p =
    let ds = lowest_digits (2 ^ k) count n in
    let some : 0 < length ds = rw (length-lowest_digits (2 ^ k) count n) p in
    some_based (w ds) (written_some ds some) (all_written w between none more gaps is_based_digit (2 ^ k) ds refl (below_16 k count n h is_based_digit based_char) (lowest_below (2 ^ k) count n (pow_pos k)))
  where
    written_some : (ds : List ℕ) → 0 < length ds → 0 < length (w ds)
    written_some [] p = absurd (omega arith)
    written_some (d ∷ ds) p = rw (more d ds) (omega arith)

grouped_based : (k count n : ℕ) → k ≤ 4 → 0 < count → is_based_number (grouped (lowest_digits (2 ^ k) count n)) ≡ true
grouped_based = written_based grouped separator refl (λ d ds. refl) separator_cases

decimal_based : (n : ℕ) → n < 2 ^ 128 → is_based_number (decimal n) ≡ true
decimal_based n s =
    let wide : 2 ^ 128 ≤ 10 ^ 64 = lit≤ tt in
    let d = sym (every_is is_digit (decimal n)) ∙ every_number (decimal n) (decimal_number n) in
    some_based (decimal n) (decimal_is_IsNumeral_wide n (omega arith)).0.0 (all_weaker is_digit is_based_digit (decimal n) based_digit d)

sized_based : (n : ℕ) (base digits : List ℕ) → n < 2 ^ 128 → is_based_tail (base ++ digits) ≡ true → is_based (sized n (39 ∷ base) digits) ≡ true
sized_based n base digits s h = rw (append_assoc (decimal n) (39 ∷ base) digits) (based_sized (decimal n) (base ++ digits) (every_number (decimal n) (decimal_number n)) h)

signed_literal : (n v : ℕ) (b : Bool) → n < 2 ^ 128 → v < 2 ^ 128 → is_below_half n v ≡ b → v < 2 ^ n → is_literal_text (cond b (sized n (39 ∷ 115 ∷ 100 ∷ []) (decimal v)) (45 ∷ sized n (39 ∷ 115 ∷ 100 ∷ []) (decimal (2 ^ n - v)))) ≡ true
signed_literal n v true m s e h = literal_from_based (sized n (39 ∷ 115 ∷ 100 ∷ []) (decimal v)) (sized_based n (115 ∷ 100 ∷ []) (decimal v) m (decimal_based v s))
signed_literal n v false m s e h =
    let some = positive_from_high v n e in
    let narrow = narrow_from_high v n s e in
    let top = pow_mono {i = n} {j = 128} narrow in
    bare_from_based (sized n (39 ∷ 115 ∷ 100 ∷ []) (decimal (2 ^ n - v))) (sized_based n (115 ∷ 100 ∷ []) (decimal (2 ^ n - v)) m (decimal_based (2 ^ n - v) (omega arith)))

-- The text of a number v of n bits in any format is the text of a literal.
pub spelled_literal : (format : LiteralFormat) (n v : ℕ) → 1 ≤ n → n ≤ 1048576 → v < 2 ^ n → v < 2 ^ 128 → is_literal_text (format_text format n v) ≡ true
unfolding format_text signed_text
spelled_literal Binary n v p q h s = literal_from_based (format_text Binary n v) (sized_based n (98 ∷ []) _ (omega arith) (grouped_based 1 (padded_count 1 n v) v (lit≤ tt) (padded_some (eqb v 0 && ltb 1024 n) (div_ceil n 1) (omega arith))))
spelled_literal Hex n v p q h s = literal_from_based (format_text Hex n v) (sized_based n (104 ∷ []) _ (omega arith) (grouped_based 4 (padded_count 4 n v) v (lit≤ tt) (padded_some (eqb v 0 && ltb 1024 n) (div_ceil n 4) (omega arith))))
spelled_literal SignedDecimal n v p q h s = signed_literal n v (is_below_half n v) (omega arith) s refl h
spelled_literal UnsignedDecimal n v p q h s = literal_from_based (format_text UnsignedDecimal n v) (sized_based n (100 ∷ []) _ (omega arith) (decimal_based v s))
spelled_literal UnsizedBinary n v p q h s = literal_from_based (format_text UnsizedBinary n v) (written_based characters (λ n. []) refl (λ d ds. refl) (λ n. inr refl) 1 (digit_count 2 v) v (lit≤ tt) (digit_count-some 2 v))
spelled_literal UnsizedDecimal n v p q h s = number_text (decimal v) (decimal_number v)
spelled_literal UnsizedHex n v p q h s = literal_from_based (format_text UnsizedHex n v) (grouped_based 4 (digit_count 16 v) v (lit≤ tt) (digit_count-some 16 v))

-- So is the text of a pattern.
pattern_digit_based : (c : ℕ) → is_pattern_digit c ≡ true → is_based_digit c ≡ true
pattern_digit_based c h = grind (arith, nat_tests)

pub pattern_literal : (bits : List ℕ) → is_pattern bits ≡ true → is_literal_text (sized (length bits) (39 ∷ 98 ∷ []) bits) ≡ true
unfolding is_pattern
pattern_literal bits h =
    let p = and_parts (leb 1 (length bits) && leb (length bits) 1048576) (list_all is_pattern_digit bits) h in
    let q = and_parts (leb 1 (length bits)) (leb (length bits) 1048576) p.0 in
    let low = leb-true 1 (length bits) q.0 in
    let high = leb-true (length bits) 1048576 q.1 in
    literal_from_based (sized (length bits) (39 ∷ 98 ∷ []) bits) (sized_based (length bits) (98 ∷ []) bits (omega arith) (some_based bits (omega arith) (all_weaker is_pattern_digit is_based_digit bits pattern_digit_based p.1)))
