-- The numbers that digits write, and the digits of numbers.
use Rattle.std.proofs.Common.{◌≡◌, ℕ, zero, suc, ◌+◌, ◌*◌, ◌/◌, ◌%◌, ◌^◌, ◌<◌, ◌≤◌, List, [], ◌∷◌, ◌++◌, Bool, true, false, cond, not, refl, sym, ap, ◌∙◌, ◌≢◌, append-nil, length, drop, get_or, arith, add-one, append_assoc}
use Rattle.std.proofs.Math.Nat.{mul_assoc, add-mul, pow-zero, pow-suc, pow-succ', div-eq_of_lt, one-le-pow, pow-le-pow_left, le-mul_of_pos_right}
use Rattle.std.proofs.Math.Seq.{drop-cons}
use Rattle.std.proofs.lemmas.Bool.{lt-ltb, le-ltb, cases_lt, and_parts}
use Rattle.std.proofs.lemmas.List.{drop_all}
use Rattle.std.proofs.Common.{⊎_elim, subst}
use Rattle.std.proofs.Math.Pow.{pow_mono}
use Rattle.std.proofs.lemmas.Nat.{pow-add, pow_pos, one_shl, mod_below}
use Rattle.std.proofs.Math.Nat.{mul-zero, mul-suc, zero-mod}
use Rattle.std.specs.Char.{digit_value, digit_char, is_digit}
use Rattle.std.specs.Prelude.{filter, ◌||◌}
use Rattle.std.specs.List.{list_all}
use Rattle.std.proofs.lemmas.Bool.{eqb-true}
use Rattle.std.specs.Int.Digits.{digits_of}
use Rattle.std.proofs.lemmas.Int.Digits.{length-digits_of_step, length-digits_of-le}
use Rattle.vast_literal.specs.Digits.{is_gap, is_digit_or_gap, is_numeral, digits_in, number_in, weighted, lowest_digits, digit_count, characters, separator, grouped}

-- the digits read so far, with those that are left
abbrev pub weighted_after : ℕ → ℕ → List ℕ → ℕ
weighted_after radix n cs = n * radix ^ length cs + weighted radix cs

pub weighted_after-cons : (radix n c : ℕ) (cs : List ℕ) → weighted_after radix n (c ∷ cs) ≡ weighted_after radix (n * radix + digit_value c) cs
weighted_after-cons radix n c cs =
    let p = radix ^ length cs in let d = digit_value c in
    let e : n * (radix * p) ≡ n * radix * p = sym (mul_assoc n radix p) in
    rw (pow-succ' radix (length cs), e, add-mul (n * radix) d p) (omega arith)

pub weighted_after-le : (radix n : ℕ) (cs : List ℕ) → 1 ≤ radix → n ≤ weighted_after radix n cs
weighted_after-le radix n cs h = let k = le-mul_of_pos_right n (one-le-pow (length cs) radix h) in omega arith

pub pow-pow : (k p : ℕ) → (2 ^ k) ^ p ≡ 2 ^ (k * p)
pow-pow k zero = rw (pow-zero (2 ^ k), mul-zero k)
pow-pow k (suc p) = rw (pow-suc (2 ^ k) p, pow-pow k p, ← pow-add 2 (k * p) k) (ap (λ n. 2 ^ n) (sym (mul-suc k p)))

-- the digit at a place by a shift
pub digit_by_shift : (n k p : ℕ) → k < 128 → n / 2 ^ (k * p) % (1 * 2 ^ k % 2 ^ 128) ≡ n / (2 ^ k) ^ p % 2 ^ k
digit_by_shift n k p h = rw (one_shl k 128 h, pow-pow k p)

pub digit_below : (n k p : ℕ) → k ≤ 4 → n / 2 ^ (k * p) % (1 * 2 ^ k % 2 ^ 128) < 16
digit_below n k p h =
    let e = one_shl k 128 (omega arith) in
    let m = mod_below (n / 2 ^ (k * p)) (2 ^ k) (pow_pos k) in
    let l = pow_mono {i = k} {j = 4} h in
    rw e (omega arith)

-- no digit above the highest
pub no_digit : (n k p : ℕ) → n < 2 ^ 128 → 128 ≤ k * p → 0 ≡ n / (2 ^ k) ^ p % 2 ^ k
no_digit n k p s h =
    let l = pow_mono h in
    let e : n / 2 ^ (k * p) ≡ 0 = div-eq_of_lt (omega arith) in
    rw (pow-pow k p, e) (sym (zero-mod (2 ^ k)))

-- `what is left` at the next lower place
pub lowest_digits-suc : (radix count n : ℕ) → lowest_digits radix (count + 1) n ≡ (n / radix ^ count % radix) ∷ lowest_digits radix count n
unfolding lowest_digits
lowest_digits-suc radix count n = rw (add-one count)

pub length-lowest_digits : (radix count n : ℕ) → length (lowest_digits radix count n) ≡ count
unfolding lowest_digits
length-lowest_digits radix zero n = refl
length-lowest_digits radix (suc count) n = ap suc (length-lowest_digits radix count n)

-- one more digit goes from those that are left to the text
pub one_digit : (old new all : List ℕ) (radix place low n d : ℕ) → place ≡ low + 1 → d ≡ n / radix ^ low % radix → new ≡ old ++ (digit_char d ∷ [])
    → old ++ characters (lowest_digits radix place n) ≡ all → new ++ characters (lowest_digits radix low n) ≡ all
one_digit old new all radix place low n d s e k h =
    let rest = characters (lowest_digits radix low n) in
    let j : characters (lowest_digits radix place n) ≡ digit_char d ∷ rest = rw (s, lowest_digits-suc radix low n) (ap (λ x. digit_char x ∷ rest) (sym e)) in
    ap (λ t. t ++ rest) k ∙ append_assoc old (digit_char d ∷ []) rest ∙ ap (λ t. old ++ t) (sym j) ∙ h

-- the same with the underscore after it
pub one_separated : (old new all : List ℕ) (radix place low n d : ℕ) → place ≡ low + 1 → d ≡ n / radix ^ low % radix → new ≡ old ++ (digit_char d ∷ separator low)
    → old ++ grouped (lowest_digits radix place n) ≡ all → new ++ grouped (lowest_digits radix low n) ≡ all
one_separated old new all radix place low n d s e k h =
    let rest = grouped (lowest_digits radix low n) in
    let j : grouped (lowest_digits radix place n) ≡ digit_char d ∷ (separator low ++ rest) =
    rw (s, lowest_digits-suc radix low n, length-lowest_digits radix low n) (ap (λ x. digit_char x ∷ (separator low ++ rest)) (sym e)) in
    ap (λ t. t ++ rest) k ∙ append_assoc old (digit_char d ∷ separator low) rest ∙ ap (λ t. old ++ t) (sym j) ∙ h

pub none_left : (w : List ℕ → List ℕ) → w [] ≡ [] → (text all : List ℕ) (place radix n : ℕ) → place ≤ 0 → text ++ w (lowest_digits radix place n) ≡ all → text ≡ all
unfolding lowest_digits
none_left w none text all zero radix n l h = sym (append-nil text) ∙ (ap (λ t. text ++ t) (sym none) ∙ h)
none_left w none text all (suc place) radix n l h = absurd (omega arith)

-- the digits of a number that is divided until nothing is left
pub one_division : (radix count rest : ℕ) (all : ℕ) → 2 ≤ radix → 0 < rest → count + length (digits_of radix rest) ≡ all → count + 1 + length (digits_of radix (rest / radix)) ≡ all
one_division radix count rest all b p h = let e = length-digits_of_step radix rest b p in omega arith

pub count_bound : (radix count rest n : ℕ) → 2 ≤ radix → n < 2 ^ 128 → count + length (digits_of radix rest) ≡ length (digits_of radix n) → count ≤ 128
count_bound radix count rest n b s h =
    let p = pow-le-pow_left b 128 in
    let l = length-digits_of-le radix 128 n b (omega arith) in
    omega arith

pub digit_count-zero : (radix n count rest : ℕ) → rest ≤ 0 → count ≡ 0 → count + length (digits_of radix rest) ≡ length (digits_of radix n) → 1 ≡ digit_count radix n
unfolding digit_count
digit_count-zero radix n count zero l e h = rw (sym h, e) refl
digit_count-zero radix n count (suc rest) l e h = absurd (omega arith)

pub digit_count-more : (radix n count rest : ℕ) → rest ≤ 0 → count ≢ 0 → count + length (digits_of radix rest) ≡ length (digits_of radix n) → count ≡ digit_count radix n
unfolding digit_count
digit_count-more radix n count zero l e h = let k : length (digits_of radix n) ≡ count = omega arith in rw k (omega arith)
digit_count-more radix n count (suc rest) l e h = absurd (omega arith)

not_below : {a b : ℕ} → ¬ (a < b) → b ≤ a
not_below {a = a} {b = b} h = ⊎_elim (λ k. absurd (h k)) (λ k. k) (cases_lt a b)

here : (i : ℕ) (cs : List ℕ) → i < length cs → drop i cs ≡ get_or cs i 0 ∷ drop (i + 1) cs
here i cs l = rw add-one (drop-cons cs i 0 l)

filter_pass : (p : ℕ → Bool) (i : ℕ) (cs : List ℕ) → i < length cs → p (get_or cs i 0) ≡ true → filter p (drop i cs) ≡ get_or cs i 0 ∷ filter p (drop (i + 1) cs)
filter_pass p i cs l h = rw (here i cs l, h)

filter_fail : (p : ℕ → Bool) (i : ℕ) (cs : List ℕ) → i < length cs → p (get_or cs i 0) ≡ false → filter p (drop i cs) ≡ filter p (drop (i + 1) cs)
filter_fail p i cs l h = rw (here i cs l, h)

-- reading the digits of a text from the left
pub one_read : (radix total more i : ℕ) (cs : List ℕ) (all : ℕ) → i < length cs → digit_value (get_or cs i 0) < radix → more ≡ total * radix + digit_value (get_or cs i 0)
    → weighted_after radix total (filter (λ c. is_digit c radix) (drop i cs)) ≡ all → weighted_after radix more (filter (λ c. is_digit c radix) (drop (i + 1) cs)) ≡ all
one_read radix total more i cs all l d e h =
    let rest = filter (λ c. is_digit c radix) (drop (i + 1) cs) in
    let f = filter_pass (λ c. is_digit c radix) i cs l (lt-ltb _ _ d) in
    ap (λ t. weighted_after radix t rest) e ∙ sym (weighted_after-cons radix total (get_or cs i 0) rest) ∙ ap (λ t. weighted_after radix total t) (sym f) ∙ h

pub one_skipped : (radix total i : ℕ) (cs : List ℕ) (all : ℕ) → i < length cs → ¬ (digit_value (get_or cs i 0) < radix)
    → weighted_after radix total (filter (λ c. is_digit c radix) (drop i cs)) ≡ all → weighted_after radix total (filter (λ c. is_digit c radix) (drop (i + 1) cs)) ≡ all
one_skipped radix total i cs all l d h = ap (λ t. weighted_after radix total t) (sym (filter_fail (λ c. is_digit c radix) i cs l (le-ltb _ _ (not_below d)))) ∙ h

pub all_read : (radix total i : ℕ) (cs : List ℕ) (all : ℕ) → length cs ≤ i → weighted_after radix total (filter (λ c. is_digit c radix) (drop i cs)) ≡ all → total ≡ all
all_read radix total i cs all l h = let e : drop i cs ≡ [] = drop_all i cs l in
    let z : total * radix ^ 0 + 0 ≡ total = rw (pow-zero radix) (omega arith) in
    sym z ∙ rw e at h

pub too_large : (radix total digit i : ℕ) (cs : List ℕ) (all : ℕ) → 2 ≤ radix → i < length cs → digit_value (get_or cs i 0) < radix → digit ≡ digit_value (get_or cs i 0) → ¬ (total * radix + digit < 2 ^ 128)
    → weighted_after radix total (filter (λ c. is_digit c radix) (drop i cs)) ≡ all → ¬ (all < 2 ^ 128)
too_large radix total digit i cs all b l d e o h s =
    let more = total * radix + digit_value (get_or cs i 0) in
    let k = one_read radix total more i cs all l d refl h in
    let m = weighted_after-le radix more (filter (λ c. is_digit c radix) (drop (i + 1) cs)) (omega arith) in
    let n : more ≤ all = subst (λ t. more ≤ t) k m in
    let q : more ≡ total * radix + digit = ap (λ t. total * radix + t) (sym e) in
    o (omega arith)

-- the digits of a numeral are what is left without its underscores
gap_no_digit : (radix c : ℕ) → radix ≤ 36 → is_gap c ≡ true → is_digit c radix ≡ false
gap_no_digit radix c h e = rw (eqb-true c 95 e) (le-ltb 36 radix h)

same_first : (c : ℕ) (F G : List ℕ) (gap digit : Bool) → (gap ≡ true → digit ≡ false) → (gap || digit) ≡ true → F ≡ G → cond digit (c ∷ F) F ≡ cond (not gap) (c ∷ G) G
same_first c F G true digit k h e = rw (k refl) e
same_first c F G false true k h e = ap (λ t. c ∷ t) e
same_first c F G false false k h e = cc

same_digits : (radix : ℕ) (cs : List ℕ) → radix ≤ 36 → list_all (is_digit_or_gap radix) cs ≡ true → filter (λ c. is_digit c radix) cs ≡ filter (λ c. not (is_gap c)) cs
same_digits radix [] h e = refl
same_digits radix (c ∷ cs) h e =
    let p = and_parts (is_digit_or_gap radix c) (list_all (is_digit_or_gap radix) cs) e in
    same_first c _ _ (is_gap c) (is_digit c radix) (gap_no_digit radix c h) p.0 (same_digits radix cs h p.1)

pub number_in-digits : (radix : ℕ) (cs : List ℕ) → radix ≤ 36 → is_numeral radix cs ≡ true → number_in radix cs ≡ weighted radix (filter (λ c. is_digit c radix) cs)
unfolding number_in digits_in is_numeral
number_in-digits radix cs h e = ap (weighted radix) (sym (same_digits radix cs h (and_parts (list_all (is_digit_or_gap radix) cs) _ e).0))
