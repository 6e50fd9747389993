-- What `format_text` gives is the text that a format wants.
use Rattle.std.proofs.Common.{◌≡◌, ◌≢◌, ℕ, zero, suc, ◌+◌, ◌*◌, ◌/◌, ◌%◌, ◌^◌, ◌<◌, ◌≤◌, List, [], ◌∷◌, ◌++◌, Bool, true, false, eqb, eqb-true, leb, refl, sym, ap, ◌∙◌, length, arith}
use Rattle.std.specs.Prelude.{◌&&◌}
use Rattle.std.specs.List.{list_all, AllByRecursion}
use Rattle.std.specs.Char.{digit_value, digit_char, is_digit}
use Rattle.std.proofs.Math.Nat.{pow-zero, mod-one, mul-suc, add_comm, mod-eq_of_lt}
use Rattle.std.proofs.Math.Pow.{pow_mono}
use Rattle.std.proofs.Common.{inl, inr, ◌⊎◌, lit≤}
use Rattle.std.proofs.lemmas.Bool.{eqb-false, lt-ltb, cases_cond}
use Rattle.std.proofs.lemmas.Bool.Decides.{nat_tests}
use Rattle.std.proofs.lemmas.Nat.{mod_below, pow_pos, mod-pow-add}
use Rattle.vast_literal.specs.Digits.{is_gap, is_digit_or_gap, is_numeral, digits_in, number_in, weighted, lowest_digits, characters, separator, grouped}
use Rattle.vast_literal.specs.Spells.{is_no_capital, IsWritten, AreFours, IsGrouped}
use Rattle.vast_literal.specs.Spells.AreFours.{NoGroup, OneGroup}
use Rattle.vast_literal.proofs.Numbers.{pow-pow, length-lowest_digits}
use Rattle.vast_literal.proofs.ScanLaws.{by_test}

-- the character of a digit
char_digit : (d radix : ℕ) → d < radix → radix ≤ 16 → is_digit (digit_char d) radix ≡ true
char_digit d radix h k = grind (arith, nat_tests)

char_gap : (d : ℕ) → d < 16 → is_gap (digit_char d) ≡ false
char_gap d h = grind (arith, nat_tests)

char_value : (d : ℕ) → d < 16 → digit_value (digit_char d) ≡ d
char_value d h = grind (arith, nat_tests)

char_lower : (d : ℕ) → d < 16 → is_no_capital (digit_char d) ≡ true
char_lower d h = grind (arith, nat_tests)

-- each of the lowest digits is below the radix
abbrev pub Below : ℕ → List ℕ → Type 0
Below radix ds = AllByRecursion (λ d. d < radix) ds

pub lowest_below : (radix count n : ℕ) → 0 < radix → Below radix (lowest_digits radix count n)
unfolding lowest_digits
lowest_below radix zero n p = tt
lowest_below radix (suc count) n p = (mod_below (n / radix ^ count) radix p, lowest_below radix count n p)

-- an underscore or nothing between two digits
pub separator_cases : (n : ℕ) → (separator n ≡ 95 ∷ []) ⊎ (separator n ≡ [])
unfolding separator
separator_cases n = cases_cond (leb 1 n && eqb (n % 4) 0) _ _ _ refl

separator_place : (n : ℕ) → 0 < n → ((separator n ≡ 95 ∷ []) × (n % 4 ≡ 0)) ⊎ ((separator n ≡ []) × (n % 4 ≢ 0))
unfolding separator
separator_place n p = rw (lt-ltb 0 n p) (by_test (eqb (n % 4) 0) (λ e. rw e (inl (refl, eqb-true (n % 4) 0 e))) (λ e. rw e (inr (refl, eqb-false (n % 4) 0 e))))

-- what a test says of digits with underscores
all_separated : (p : ℕ → Bool) (s t : List ℕ) → (s ≡ 95 ∷ []) ⊎ (s ≡ []) → p 95 ≡ true → list_all p t ≡ true → list_all p (s ++ t) ≡ true
all_separated p s t (inl e) g h = rw (e, g) h
all_separated p s t (inr e) g h = rw e h

digits_in-cons : (c : ℕ) (cs : List ℕ) → is_gap c ≡ false → digits_in (c ∷ cs) ≡ c ∷ digits_in cs
unfolding digits_in
digits_in-cons c cs h = rw h

digits_in-separated : (s t : List ℕ) → (s ≡ 95 ∷ []) ⊎ (s ≡ []) → digits_in (s ++ t) ≡ digits_in t
unfolding digits_in
digits_in-separated s t (inl e) = rw e
digits_in-separated s t (inr e) = rw e

length-characters : (ds : List ℕ) → length (characters ds) ≡ length ds
length-characters [] = refl
length-characters (d ∷ ds) = ap suc (length-characters ds)

wider : (radix : ℕ) (ds : List ℕ) → radix ≤ 16 → Below radix ds → Below 16 ds
wider radix [] k h = tt
wider radix (d ∷ ds) k h = (let l = h.0 in omega arith, wider radix ds k h.1)

numeral_cons : (radix d : ℕ) (cs : List ℕ) → d < 16 → list_all (is_digit_or_gap radix) (digit_char d ∷ cs) ≡ true → is_numeral radix (digit_char d ∷ cs) ≡ true
unfolding is_numeral
numeral_cons radix d cs l h = rw (h, char_gap d l)

digit_passes : (radix : ℕ) → radix ≤ 16 → (d : ℕ) → d < radix → is_digit_or_gap radix (digit_char d) ≡ true
digit_passes radix k d h = rw (char_gap d (omega arith), char_digit d radix h k)

-- the number that the lowest digits write
weigh : (k count n : ℕ) → k ≤ 4 → weighted (2 ^ k) (characters (lowest_digits (2 ^ k) count n)) ≡ n % (2 ^ k) ^ count
unfolding lowest_digits
weigh k zero n h = rw pow-zero (sym (mod-one n))
weigh k (suc count) n h =
    let low = mod_below (n / (2 ^ k) ^ count) (2 ^ k) (pow_pos k) in
    let top = pow_mono {i = k} {j = 4} h in
    let v = char_value (n / (2 ^ k) ^ count % 2 ^ k) (omega arith) in
    let e = mod-pow-add n k (k * count) in
    let c : k * suc count ≡ k + k * count = mul-suc k count ∙ add_comm (k * count) k in
    rw (v, weigh k count n h, length-characters (lowest_digits (2 ^ k) count n), length-lowest_digits (2 ^ k) count n, pow-pow k count, pow-pow k (suc count), c) (sym e)

-- Digits as `w` writes them, with an underscore or nothing between two.
module _ (w : List ℕ → List ℕ) (between : ℕ → List ℕ) (none : w [] ≡ []) (more : (d : ℕ) (ds : List ℕ) → w (d ∷ ds) ≡ digit_char d ∷ (between (length ds) ++ w ds))
    (gaps : (n : ℕ) → (between n ≡ 95 ∷ []) ⊎ (between n ≡ [])) where
  pub all_written : (p : ℕ → Bool) (radix : ℕ) (ds : List ℕ) → p 95 ≡ true → ((d : ℕ) → d < radix → p (digit_char d) ≡ true) → Below radix ds → list_all p (w ds) ≡ true
  all_written p radix [] g f h = rw none refl
  all_written p radix (d ∷ ds) g f h = rw (more d ds, f d h.0) (all_separated p (between (length ds)) (w ds) (gaps (length ds)) g (all_written p radix ds g f h.1))

  pub digits_in-written : (ds : List ℕ) → Below 16 ds → digits_in (w ds) ≡ characters ds
  unfolding digits_in
  digits_in-written [] h = rw none refl
  digits_in-written (d ∷ ds) h =
      rw (more d ds) (digits_in-cons (digit_char d) (between (length ds) ++ w ds) (char_gap d h.0)
      ∙ ap (λ t. digit_char d ∷ t) (digits_in-separated (between (length ds)) (w ds) (gaps (length ds)) ∙ digits_in-written ds h.1))

  numeral : (radix : ℕ) (ds : List ℕ) → radix ≤ 16 → 0 < length ds → Below radix ds → is_numeral radix (w ds) ≡ true
  numeral radix [] k p h = absurd (omega arith)
  numeral radix (d ∷ ds) k p h =
      let all = all_written (is_digit_or_gap radix) radix (d ∷ ds) refl (digit_passes radix k) h in
      rw (more d ds) (numeral_cons radix d _ (let l = h.0 in omega arith) (rw (more d ds) at all))

  pub written : (k count n : ℕ) → 1 ≤ k → k ≤ 4 → 0 < count → n < (2 ^ k) ^ count → IsWritten (2 ^ k) count n (w (lowest_digits (2 ^ k) count n))
  unfolding number_in
  written k count n j h p s =
      let ds = lowest_digits (2 ^ k) count n in
      let top : 2 ^ k ≤ 16 = pow_mono {i = k} {j = 4} h in
      let below = lowest_below (2 ^ k) count n (pow_pos k) in
      let below16 = wider (2 ^ k) ds top below in
      record {
        numeral = numeral (2 ^ k) ds top (rw (length-lowest_digits (2 ^ k) count n) p) below;
        lower = all_written is_no_capital 16 ds refl char_lower below16;
        so_many = rw (digits_in-written ds below16, length-characters ds) (length-lowest_digits (2 ^ k) count n);
        value = rw (digits_in-written ds below16) (weigh k count n h ∙ mod-eq_of_lt s);
      }

pub written-grouped : (k count n : ℕ) → 1 ≤ k → k ≤ 4 → 0 < count → n < (2 ^ k) ^ count → IsWritten (2 ^ k) count n (grouped (lowest_digits (2 ^ k) count n))
written-grouped = written grouped separator refl (λ d ds. refl) separator_cases

pub written-characters : (k count n : ℕ) → 1 ≤ k → k ≤ 4 → 0 < count → n < (2 ^ k) ^ count → IsWritten (2 ^ k) count n (characters (lowest_digits (2 ^ k) count n))
written-characters = written characters (λ n. []) refl (λ d ds. refl) (λ n. inr refl)

-- groups of four from the right: what the first group has is the count but for multiples of four
pub record Groups (digits : List ℕ) (count : ℕ) : Type 0 where
  pub first : List ℕ
  pub rest : List ℕ
  pub parts : digits ≡ first ++ rest
  pub no_gap : digits_in first ≡ first
  pub some : 1 ≤ length first
  pub few : length first ≤ 4
  pub fours : AreFours rest
  pub same : length first % 4 ≡ count % 4

single : (d : ℕ) → d < 16 → digits_in (digit_char d ∷ []) ≡ digit_char d ∷ []
unfolding digits_in
single d l = rw (char_gap d l)

one_more : (d : ℕ) (digits : List ℕ) (count : ℕ) → d < 16 → 0 < count → Groups digits count → ((separator count ≡ 95 ∷ []) × (count % 4 ≡ 0)) ⊎ ((separator count ≡ []) × (count % 4 ≢ 0))
    → Groups (digit_char d ∷ (separator count ++ digits)) (suc count)
one_more d digits count l p g (inl s) = record {
  first = digit_char d ∷ [];
  rest = 95 ∷ (g.first ++ g.rest);
  parts = rw (s.0, g.parts);
  no_gap = single d l;
  some = lit≤ tt;
  few = lit≤ tt;
  fours = OneGroup g.first g.rest g.no_gap (let a = g.same in let b = g.some in let c = g.few in let e = s.1 in omega arith) g.fours;
  same = let e = s.1 in omega arith;
}
one_more d digits count l p g (inr s) = record {
  first = digit_char d ∷ g.first;
  rest = g.rest;
  parts = rw s.0 (ap (λ t. digit_char d ∷ t) g.parts);
  no_gap = digits_in-cons (digit_char d) g.first (char_gap d l) ∙ ap (λ t. digit_char d ∷ t) g.no_gap;
  some = omega arith;
  few = let a = g.same in let b = g.some in let c = g.few in let e = s.1 in omega arith;
  fours = g.fours;
  same = let a = g.same in omega arith;
}

groups : (ds : List ℕ) → 0 < length ds → Below 16 ds → Groups (grouped ds) (length ds)
unfolding separator
groups [] p h = absurd (omega arith)
groups (d ∷ []) p h = record { first = digit_char d ∷ []; rest = []; parts = refl; no_gap = single d h.0; some = lit≤ tt; few = lit≤ tt; fours = NoGroup; same = refl }
groups (d ∷ e ∷ ds) p h = one_more d (grouped (e ∷ ds)) (length (e ∷ ds)) h.0 (omega arith) (groups (e ∷ ds) (omega arith) h.1) (separator_place (length (e ∷ ds)) (omega arith))

pub is_grouped : (k count n : ℕ) → k ≤ 4 → 0 < count → IsGrouped (grouped (lowest_digits (2 ^ k) count n))
is_grouped k count n h p =
    let ds = lowest_digits (2 ^ k) count n in
    let some : 0 < length ds = rw (length-lowest_digits (2 ^ k) count n) p in
    let g = groups ds some (wider (2 ^ k) ds (pow_mono {i = k} {j = 4} h) (lowest_below (2 ^ k) count n (pow_pos k))) in
    record { first = g.first; rest = g.rest; parts = g.parts; no_gap = g.no_gap; some = g.some; few = g.few; fours = g.fours }

pub no_gaps : (k count n : ℕ) → k ≤ 4 → digits_in (characters (lowest_digits (2 ^ k) count n)) ≡ characters (lowest_digits (2 ^ k) count n)
no_gaps k count n h = digits_in-written characters (λ n. []) refl (λ d ds. refl) (λ n. inr refl) _ (wider (2 ^ k) _ (pow_mono {i = k} {j = 4} h) (lowest_below (2 ^ k) count n (pow_pos k)))
