-- No other text spells the same number in the same format.
use Rattle.std.proofs.Common.{◌≡◌, ◌≢◌, ℕ, ◌+◌, ◌*◌, ◌%◌, ◌^◌, ◌<◌, ◌≤◌, List, [], ◌∷◌, ◌++◌, Bool, true, false, refl, sym, ap, ◌∙◌, length, arith, subst, length-append, lit<, lit≤}
use Rattle.std.specs.List.{list_all}
use Rattle.std.specs.Char.{digit_value, digit_char, is_digit}
use Rattle.std.proofs.lemmas.Bool.{ltb-true, cases_lt, and_parts}
use Rattle.std.proofs.lemmas.Bool.Decides.{nat_tests}
use Rattle.std.proofs.lemmas.Nat.{same_from_place, mul-add-lt}
use Rattle.std.proofs.Math.Nat.{add_comm, pow-zero, pow-succ', mod-eq_of_lt, mul_comm}
use Rattle.vast_literal.specs.declared.literal.LiteralFormat.{LiteralFormat}
use Rattle.vast_literal.specs.declared.literal.LiteralFormat.TheVariants.{Binary}
use Rattle.vast_literal.specs.Digits.{is_gap, is_digit_or_gap, is_numeral, digits_in, number_in, weighted}
use Rattle.vast_literal.specs.Denotes.{IsModulo}
use Rattle.vast_literal.specs.Spells.{is_no_capital, IsWritten, AreFours, IsGrouped, IsSeparated, Spells, has_format_minus, format_head, format_radix, format_count, groups_digits, minus_text}
use Rattle.vast_literal.specs.Spells.AreFours.{NoGroup, OneGroup}
use Rattle.vast_literal.proofs.Accepted.{opposite_is}
use Rattle.vast_literal.proofs.ScanLaws.{by_test}

-- lists that are joined, cut at equal lengths
pub split_same : (a b c d : List ℕ) → length a ≡ length c → a ++ b ≡ c ++ d → (a ≡ c) × (b ≡ d)
split_same [] b [] d l e = (refl, e)
split_same [] b (y ∷ c) d l e = absurd (omega arith)
split_same (x ∷ a) b [] d l e = absurd (omega arith)
split_same (x ∷ a) b (y ∷ c) d l e =
    let h : x ≡ y = cc in
    let t : a ++ b ≡ c ++ d = cc in
    let r = split_same a b c d (omega arith) t in
    ((λ k. h k ∷ r.0 k), r.1)

-- a digit in lower case is the character of its value
lower_char : (c radix : ℕ) → radix ≤ 16 → is_digit c radix ≡ true → is_no_capital c ≡ true → digit_char (digit_value c) ≡ c
lower_char c radix k h l = let v = ltb-true (digit_value c) radix h in grind (arith, nat_tests)

-- digits of a radix in lower case
abbrev AreDigits : ℕ → List ℕ → Type 0
AreDigits radix cs = (list_all (λ c. is_digit c radix) cs ≡ true) × (list_all is_no_capital cs ≡ true)

weighted-lt : (radix : ℕ) (cs : List ℕ) → list_all (λ c. is_digit c radix) cs ≡ true → weighted radix cs < radix ^ length cs
weighted-lt radix [] h = rw (pow-zero radix) (lit< tt)
weighted-lt radix (c ∷ cs) h =
    let p = and_parts (is_digit c radix) (list_all (λ x. is_digit x radix) cs) h in
    let v = ltb-true (digit_value c) radix p.0 in
    let w = weighted-lt radix cs p.1 in
    rw (pow-succ' radix (length cs), mul_comm radix (radix ^ length cs)) (mul-add-lt (digit_value c) (radix ^ length cs) (weighted radix cs) radix v w)

same_digits : (radix : ℕ) (cs es : List ℕ) → radix ≤ 16 → AreDigits radix cs → AreDigits radix es → length cs ≡ length es → weighted radix cs ≡ weighted radix es → cs ≡ es
same_digits radix [] [] k g h l e = refl
same_digits radix [] (y ∷ es) k g h l e = absurd (omega arith)
same_digits radix (x ∷ cs) [] k g h l e = absurd (omega arith)
same_digits radix (x ∷ cs) (y ∷ es) k g h l e =
    let g1 = and_parts (is_digit x radix) (list_all (λ c. is_digit c radix) cs) g.0 in
    let g2 = and_parts (is_no_capital x) (list_all is_no_capital cs) g.1 in
    let h1 = and_parts (is_digit y radix) (list_all (λ c. is_digit c radix) es) h.0 in
    let h2 = and_parts (is_no_capital y) (list_all is_no_capital es) h.1 in
    let j : length cs ≡ length es = omega arith in
    let e' : digit_value x * radix ^ length cs + weighted radix cs ≡ digit_value y * radix ^ length cs + weighted radix es = e ∙ ap (λ n. digit_value y * radix ^ n + weighted radix es) (sym j) in
    let s = same_from_place (digit_value x) (weighted radix cs) (digit_value y) (weighted radix es) (radix ^ length cs) (weighted-lt radix cs g1.1) (rw j (weighted-lt radix es h1.1)) e' in
    let first : x ≡ y = sym (lower_char x radix k g1.0 g2.0) ∙ ap digit_char s.0 ∙ lower_char y radix k h1.0 h2.0 in
    let rest = same_digits radix cs es k (g1.1, g2.1) (h1.1, h2.1) j s.1 in
    (λ i. first i ∷ rest i)

-- the digits of a written text
digits_left : (radix : ℕ) (t : List ℕ) → list_all (is_digit_or_gap radix) t ≡ true → list_all (λ x. is_digit x radix) (digits_in t) ≡ true
unfolding digits_in
digits_left radix [] h = refl
digits_left radix (c ∷ t) h =
    let p = and_parts (is_digit_or_gap radix c) (list_all (is_digit_or_gap radix) t) h in
    by_test (is_gap c) (λ e. rw e (digits_left radix t p.1)) (λ e. rw (e, rw e at p.0) (digits_left radix t p.1))

lowers_left : (t : List ℕ) → list_all is_no_capital t ≡ true → list_all is_no_capital (digits_in t) ≡ true
unfolding digits_in
lowers_left [] h = refl
lowers_left (c ∷ t) h =
    let p = and_parts (is_no_capital c) (list_all is_no_capital t) h in
    by_test (is_gap c) (λ e. rw e (lowers_left t p.1)) (λ e. rw (e, p.0) (lowers_left t p.1))

written_digits : (radix count number : ℕ) (t : List ℕ) → IsWritten radix count number t → AreDigits radix (digits_in t)
unfolding is_numeral
written_digits radix count number t w = (digits_left radix t (and_parts (list_all (is_digit_or_gap radix) t) _ w.numeral).0, lowers_left t w.lower)

written_once : (radix count number : ℕ) (s t : List ℕ) → radix ≤ 16 → IsWritten radix count number s → IsWritten radix count number t → digits_in s ≡ digits_in t
unfolding number_in
written_once radix count number s t k a b =
    same_digits radix (digits_in s) (digits_in t) k (written_digits radix count number s a) (written_digits radix count number t b) (a.so_many ∙ sym b.so_many) (a.value ∙ sym b.value)

-- the groups
digits_in-append : (a b : List ℕ) → digits_in (a ++ b) ≡ digits_in a ++ digits_in b
unfolding digits_in
digits_in-append [] b = refl
digits_in-append (c ∷ a) b = by_test (is_gap c) (λ e. rw e (digits_in-append a b)) (λ e. rw e (ap (λ t. c ∷ t) (digits_in-append a b)))

group_digits : (group rest : List ℕ) → digits_in group ≡ group → digits_in (95 ∷ (group ++ rest)) ≡ group ++ digits_in rest
unfolding digits_in
group_digits group rest e = digits_in-append group rest ∙ ap (λ t. t ++ digits_in rest) e

no_digits : digits_in [] ≡ []
unfolding digits_in
no_digits = refl

none_some : (g r : List ℕ) → digits_in g ≡ g → length g ≡ 4 → digits_in [] ≢ digits_in (95 ∷ (g ++ r))
none_some g r d l e =
    let k = ap length (sym no_digits ∙ e ∙ group_digits g r d) in
    let m = length-append g (digits_in r) in
    omega arith

fours_once : (s t : List ℕ) → AreFours s → AreFours t → digits_in s ≡ digits_in t → s ≡ t
fours_once s t NoGroup NoGroup e = refl
fours_once s t NoGroup (OneGroup g r d l f) e = absurd (none_some g r d l e)
fours_once s t (OneGroup g r d l f) NoGroup e = absurd (none_some g r d l (sym e))
fours_once s t (OneGroup g r d l f) (OneGroup g' r' d' l' f') e =
    let p = split_same g (digits_in r) g' (digits_in r') (l ∙ sym l') (sym (group_digits g r d) ∙ e ∙ group_digits g' r' d') in
    let q = fours_once r r' f f' p.1 in
    (λ i. 95 ∷ (p.0 i ++ q i))

fours_length : (r : List ℕ) → AreFours r → (k : ℕ) × (length (digits_in r) ≡ 4 * k)
fours_length r NoGroup = (0, ap length no_digits)
fours_length r (OneGroup g rest d l f) =
    let p = fours_length rest f in
    let e = ap length (group_digits g rest d) in
    let m = length-append g (digits_in rest) in
    let h = p.1 in
    (p.0 + 1, omega arith)

grouped_parts : (s : List ℕ) (g : IsGrouped s) → digits_in s ≡ g.first ++ digits_in g.rest
grouped_parts s g = ap digits_in g.parts ∙ digits_in-append g.first g.rest ∙ ap (λ t. t ++ digits_in g.rest) g.no_gap

grouped_once : (s t : List ℕ) → IsGrouped s → IsGrouped t → digits_in s ≡ digits_in t → s ≡ t
grouped_once s t a b e =
    let j : a.first ++ digits_in a.rest ≡ b.first ++ digits_in b.rest = sym (grouped_parts s a) ∙ e ∙ grouped_parts t b in
    let fa = fours_length a.rest a.fours in
    let fb = fours_length b.rest b.fours in
    let ha = fa.1 in
    let hb = fb.1 in
    let la = length-append a.first (digits_in a.rest) in
    let lb = length-append b.first (digits_in b.rest) in
    let k = ap length j in
    let a1 = a.some in let a2 = a.few in let b1 = b.some in let b2 = b.few in
    let p = split_same a.first (digits_in a.rest) b.first (digits_in b.rest) (omega arith) j in
    let q = fours_once a.rest b.rest a.fours b.fours p.1 in
    a.parts ∙ (λ i. p.0 i ++ q i) ∙ sym b.parts

separated_once : (groups : Bool) (s t : List ℕ) → IsSeparated groups s → IsSeparated groups t → digits_in s ≡ digits_in t → s ≡ t
separated_once true s t a b e = grouped_once s t a b e
separated_once false s t a b e = sym a ∙ e ∙ b

-- the number that the digits write
number_once : (n v m k : ℕ) (negative : Bool) → m < 2 ^ n → k < 2 ^ n → IsModulo n negative m v → IsModulo n negative k v → m ≡ k
number_once n v m k true l h a b =
    let below = a.below in
    let x : (m + v) % 2 ^ n ≡ 0 = ap (λ t. t % 2 ^ n) (add_comm m v) ∙ a.same in
    let y : (k + v) % 2 ^ n ≡ 0 = ap (λ t. t % 2 ^ n) (add_comm k v) ∙ b.same in
    sym (opposite_is n v m (omega arith) l x (cases_lt (m + v) (2 ^ n))) ∙ opposite_is n v k (omega arith) h y (cases_lt (k + v) (2 ^ n))
number_once n v m k false l h a b = sym (mod-eq_of_lt l) ∙ sym a.same ∙ b.same ∙ mod-eq_of_lt h

small_radix : (format : LiteralFormat) → format_radix format ≤ 16
small_radix Binary = lit≤ tt
small_radix _ = lit≤ tt

pub spells_once : (format : LiteralFormat) (n v : ℕ) (s t : List ℕ) → Spells format n v s → Spells format n v t → s ≡ t
spells_once format n v s t a b =
    let e = number_once n v a.number b.number (has_format_minus format n v) a.fits b.fits a.value b.value in
    let w : IsWritten (format_radix format) (format_count format n a.number) a.number b.digits = subst (λ k. IsWritten (format_radix format) (format_count format n k) k b.digits) (sym e) b.written in
    let d = separated_once (groups_digits format) a.digits b.digits a.separated b.separated (written_once (format_radix format) (format_count format n a.number) a.number a.digits b.digits (small_radix format) a.written w) in
    a.parts ∙ ap (λ x. minus_text (has_format_minus format n v) ++ (format_head format n ++ x)) d ∙ sym b.parts
