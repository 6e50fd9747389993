-- An accepted text denotes its literal, and a text that denotes one is accepted.
use Rattle.std.proofs.Common.{◌≡◌, ℕ, ◌+◌, ◌-◌, ◌%◌, ◌^◌, ◌<◌, ◌≤◌, List, [], ◌∷◌, ◌++◌, Bool, true, false, eqb, eqb-true, refl, sym, ap, ◌∙◌, length, drop, arith, Option, Some, None, Result, Ok, Err, subst}
use Rattle.std.specs.Bool.{MatchBool, if◌then◌else◌}
use Rattle.std.specs.List.{starts_with}
use Rattle.std.specs.Option.{option_map}
use Rattle.std.proofs.lemmas.Bool.{ltb-true, leb-true}
use Rattle.std.proofs.lemmas.Bool.Decides.{Decides-eqb}
use Rattle.std.proofs.lemmas.Slice.Eq.{starts_is}
use Rattle.std.proofs.lemmas.Nat.{pow_pos, mod_below}
use Rattle.std.proofs.Math.Nat.{mod_self, mod-eq_of_lt, mod-add-mod}
use Rattle.std.proofs.Common.{MatchResult, IfOk}
use Rattle.vast_literal.specs.declared.error.VastFault.{VastFault}
use Rattle.vast_literal.specs.Fault.{OnlyRefusedBy}
use Rattle.vast_literal.specs.Digits.{is_numeral, number_in, weighted}
use Rattle.vast_literal.specs.Literal.{Bits, split_at, typed_parts, without_sign, has_minus, radix_and_digits, is_decimal, width_of, fits_in, modulo_width, magnitude_of, fitted, value_of, bits_of_parts, literal_of, and_then}
use Rattle.vast_literal.specs.Denotes.{IsSign, IsRadixMark, IsModulo, Denotes}
use Rattle.vast_literal.specs.Denotes.IsSign.{NoSign, PlusSign, MinusSign}
use Rattle.vast_literal.specs.Denotes.IsRadixMark.{NoMark, LowerHexMark, UpperHexMark, LowerBinaryMark, UpperBinaryMark, LowerOctalMark, UpperOctalMark}
use Rattle.vast_literal.proofs.ScanLaws.{by_test}

-- a check that passed, where the result is there
passed : (b : Bool) (r : Result ℕ (List ℕ)) (t : List ℕ) (x : ℕ) → (if b then r else Err t) ≡ Ok x → (b ≡ true) × (r ≡ Ok x)
passed true r t x h = (refl, h)
passed false r t x h = cc

some_parts : {A : Type 0} (x y : A) → Some x ≡ Some y → x ≡ y
some_parts x y h = cc

ok_parts : {A : Type 0} (x y : A) (r : Result A (List ℕ)) → r ≡ Ok x → r ≡ Ok y → x ≡ y
ok_parts x y r e h = cc

-- what stands on the sides of a mark
split_step : (mark : List ℕ) (c : ℕ) (cs : List ℕ) (b : Bool) (r : Option (List ℕ × List ℕ)) (parts : List ℕ × List ℕ) → (b ≡ true → c ∷ cs ≡ mark ++ drop (length mark) (c ∷ cs))
    → ((q : List ℕ × List ℕ) → r ≡ Some q → cs ≡ q.0 ++ (mark ++ q.1)) → (if b then Some ([], drop (length mark) (c ∷ cs)) else option_map (λ p. (c ∷ p.0, p.1)) r) ≡ Some parts → c ∷ cs ≡ parts.0 ++ (mark ++ parts.1)
split_step mark c cs true r parts f g h = rw (← some_parts _ _ h) (f refl)
split_step mark c cs false None parts f g h = cc
split_step mark c cs false (Some q) parts f g h = rw (← some_parts _ _ h) (ap (λ t. c ∷ t) (g q refl))

split_at-parts : (mark text : List ℕ) (parts : List ℕ × List ℕ) → split_at mark text ≡ Some parts → text ≡ parts.0 ++ (mark ++ parts.1)
unfolding split_at
split_at-parts mark [] parts h = cc
split_at-parts mark (c ∷ cs) parts h =
    split_step mark c cs (starts_with eqb (c ∷ cs) mark) (split_at mark cs) parts (λ e. (starts_is Decides-eqb (c ∷ cs) mark _ refl).0 e) (λ q e. split_at-parts mark cs q e) h

typed_parts-text : (text : List ℕ) (parts : List ℕ × List ℕ) → typed_parts text ≡ Some parts → text ≡ 98 ∷ 105 ∷ 116 ∷ 115 ∷ 91 ∷ (parts.0 ++ (93 ∷ 58 ∷ parts.1))
unfolding typed_parts
typed_parts-text text parts h = by_test (starts_with eqb text (98 ∷ 105 ∷ 116 ∷ 115 ∷ 91 ∷ []))
    (λ e. (starts_is Decides-eqb text (98 ∷ 105 ∷ 116 ∷ 115 ∷ 91 ∷ []) _ refl).0 e ∙ ap (λ t. 98 ∷ 105 ∷ 116 ∷ 115 ∷ 91 ∷ t) (split_at-parts (93 ∷ 58 ∷ []) (drop 5 text) parts (rw e at h))) (λ e. absurd (cc (rw e at h)))

-- the sign that a number begins with
sign_of : (value : List ℕ) → (sign : List ℕ) × IsSign sign (has_minus value) × (value ≡ sign ++ without_sign value)
unfolding has_minus without_sign
sign_of [] = ([], NoSign, refl)
sign_of (c ∷ cs) = by_test (eqb c 45) (λ m. rw m (45 ∷ [], MinusSign, ap (λ d. d ∷ cs) (eqb-true c 45 m)))
    (λ m. by_test (eqb c 43) (λ p. rw (m, p) (43 ∷ [], PlusSign, ap (λ d. d ∷ cs) (eqb-true c 43 p))) (λ p. rw (m, p) ([], NoSign, refl)))

-- the mark that a number without a sign begins with
two : (z m : ℕ) (y n : ℕ) (ds : List ℕ) → eqb z y ≡ true → eqb m n ≡ true → z ∷ m ∷ ds ≡ y ∷ n ∷ ds
two z m y n ds e f = ap (λ a. a ∷ m ∷ ds) (eqb-true z y e) ∙ ap (λ b. y ∷ b ∷ ds) (eqb-true m n f)

mark_of : (number : List ℕ) → (mark : List ℕ) × IsRadixMark mark (radix_and_digits number).0 × (number ≡ mark ++ (radix_and_digits number).1)
unfolding radix_and_digits
mark_of [] = ([], NoMark, refl)
mark_of (z ∷ []) = ([], NoMark, refl)
mark_of (z ∷ m ∷ ds) = by_test (eqb z 48)
    (λ e. by_test (eqb m 120) (λ x. rw (e, x) (48 ∷ 120 ∷ [], LowerHexMark, two z m 48 120 ds e x))
    (λ x. by_test (eqb m 88) (λ X. rw (e, x, X) (48 ∷ 88 ∷ [], UpperHexMark, two z m 48 88 ds e X))
    (λ X. by_test (eqb m 98) (λ b. rw (e, x, X, b) (48 ∷ 98 ∷ [], LowerBinaryMark, two z m 48 98 ds e b))
    (λ b. by_test (eqb m 66) (λ B. rw (e, x, X, b, B) (48 ∷ 66 ∷ [], UpperBinaryMark, two z m 48 66 ds e B))
    (λ B. by_test (eqb m 111) (λ o. rw (e, x, X, b, B, o) (48 ∷ 111 ∷ [], LowerOctalMark, two z m 48 111 ds e o))
    (λ o. by_test (eqb m 79) (λ O. rw (e, x, X, b, B, o, O) (48 ∷ 79 ∷ [], UpperOctalMark, two z m 48 79 ds e O)) (λ O. rw (e, x, X, b, B, o, O) ([], NoMark, refl))))))))
    (λ e. rw e ([], NoMark, refl))

-- what the checks say
width_facts : (text w : List ℕ) (n : ℕ) → width_of text w ≡ Ok n → (is_decimal w ≡ true) × (n ≡ weighted 10 w) × (1 ≤ n) × (n ≤ 1048576)
unfolding width_of
width_facts text w n h =
    let a = passed _ _ _ n h in
    let b = passed _ _ _ n a.1 in
    let c = passed _ _ _ n b.1 in
    let d = passed _ _ _ n c.1 in
    let e : weighted 10 w ≡ n = ok_parts _ _ _ refl d.1 in
    let low = leb-true 1 (weighted 10 w) c.0 in
    let high = leb-true (weighted 10 w) 1048576 d.0 in
    (a.0, sym e, omega arith, omega arith)

magnitude_facts : (text number : List ℕ) (m : ℕ) → magnitude_of text number ≡ Ok m → (is_numeral (radix_and_digits number).0 (radix_and_digits number).1 ≡ true) × (number_in (radix_and_digits number).0 (radix_and_digits number).1 ≡ m) × (m < 2 ^ 128)
unfolding magnitude_of
magnitude_facts text number m h =
    let a = passed _ _ _ m h in
    let b = passed _ _ _ m a.1 in
    let e = ok_parts _ _ _ refl b.1 in
    (a.0, e, subst (λ k. k < 2 ^ 128) e (ltb-true _ (2 ^ 128) b.0))

fits_facts : (n : ℕ) (negative : Bool) (m : ℕ) → fits_in n negative m ≡ true → MatchBool negative (m ≤ 2 ^ n) (m < 2 ^ n)
unfolding fits_in
fits_facts n true m h = leb-true m (2 ^ n) h
fits_facts n false m h = ltb-true m (2 ^ n) h

opposite : (n m : ℕ) → m ≤ 2 ^ n → ((2 ^ n - m) % 2 ^ n + m) % 2 ^ n ≡ 0
opposite n m h = mod-add-mod (2 ^ n - m) (2 ^ n) m ∙ ap (λ k. k % 2 ^ n) (let e : 2 ^ n - m + m ≡ 2 ^ n = omega arith in e) ∙ mod_self (2 ^ n)

is_modulo : (n : ℕ) (negative : Bool) (m : ℕ) → MatchBool negative (m ≤ 2 ^ n) (m < 2 ^ n) → IsModulo n negative m (modulo_width n negative m)
unfolding modulo_width
is_modulo n true m h = record { below = mod_below (2 ^ n - m) (2 ^ n) (pow_pos n); same = opposite n m h }
is_modulo n false m h = record { below = h; same = sym (mod-eq_of_lt h) }

fitted_facts : (text : List ℕ) (n : ℕ) (negative : Bool) (m v : ℕ) → fitted text n negative m ≡ Ok v → MatchBool negative (m ≤ 2 ^ n) (m < 2 ^ n) × IsModulo n negative m v × (v < 2 ^ 128)
unfolding fitted
fitted_facts text n negative m v h =
    let a = passed _ _ _ v h in
    let b = passed _ _ _ v a.1 in
    let e = ok_parts _ _ _ refl b.1 in
    let f = fits_facts n negative m a.0 in
    (f, subst (IsModulo n negative m) e (is_modulo n negative m f), subst (λ k. k < 2 ^ 128) e (ltb-true _ (2 ^ 128) b.0))

-- each step of the reading, where it returns
followed : {A B : Type 0} (r : Result A (List ℕ)) (next : A → Result B (List ℕ)) (y : B) → and_then r next ≡ Ok y → (x : A) × (r ≡ Ok x) × (next x ≡ Ok y)
followed (Ok x) next y h = (x, refl, h)
followed (Err t) next y h = cc

-- the literal of a width and of the text of a value
of_width : (text value : List ℕ) (n : ℕ) → Result Bits (List ℕ)
of_width text value n = and_then (value_of text value n) (λ v. Ok (record { width = n; value = v }))

bits_parts : (text : List ℕ) (r : Option (List ℕ × List ℕ)) (bits : Bits) → bits_of_parts text r ≡ Ok bits → (parts : List ℕ × List ℕ) × (r ≡ Some parts) × (and_then (width_of text parts.0) (of_width text parts.1) ≡ Ok bits)
unfolding of_width
bits_parts text None bits h = cc
bits_parts text (Some parts) bits h = (parts, refl, h)

whole_text : (text w value sign number mark digits : List ℕ) → text ≡ 98 ∷ 105 ∷ 116 ∷ 115 ∷ 91 ∷ (w ++ (93 ∷ 58 ∷ value)) → value ≡ sign ++ number → number ≡ mark ++ digits
    → text ≡ 98 ∷ 105 ∷ 116 ∷ 115 ∷ 91 ∷ (w ++ (93 ∷ 58 ∷ (sign ++ (mark ++ digits))))
whole_text text w value sign number mark digits h e f = h ∙ ap (λ t. 98 ∷ 105 ∷ 116 ∷ 115 ∷ 91 ∷ (w ++ (93 ∷ 58 ∷ t))) (e ∙ ap (λ t. sign ++ t) f)

pub denoted : (text : List ℕ) (bits : Bits) → literal_of text ≡ Ok bits → Denotes text bits
unfolding literal_of value_of of_width
denoted text bits h =
    let p = bits_parts text (typed_parts text) bits h in
    let w = followed (width_of text p.0.0) (of_width text p.0.1) bits p.2 in
    let n = w.0 in
    let b = followed (value_of text p.0.1 n) (λ v. Ok (record { width = n; value = v })) bits w.2 in
    let v = followed (magnitude_of text (without_sign p.0.1)) (fitted text n (has_minus p.0.1)) b.0 b.1 in
    let facts_w = width_facts text p.0.0 n w.1 in
    let facts_m = magnitude_facts text (without_sign p.0.1) v.0 v.1 in
    let facts_v = fitted_facts text n (has_minus p.0.1) v.0 b.0 v.2 in
    let sign = sign_of p.0.1 in
    let mark = mark_of (without_sign p.0.1) in
    let digits = (radix_and_digits (without_sign p.0.1)).1 in
    let all : Denotes text (record { width = n; value = b.0 }) = record {
      width_text = p.0.0;
      sign = sign.0;
      mark = mark.0;
      digits = digits;
      negative = has_minus p.0.1;
      radix = (radix_and_digits (without_sign p.0.1)).0;
      parts = whole_text text p.0.0 p.0.1 sign.0 (without_sign p.0.1) mark.0 digits (typed_parts-text text p.0 p.1) sign.2 mark.2;
      decimal_width = facts_w.0;
      width = facts_w.1;
      positive = facts_w.2;
      narrow = facts_w.3;
      is_sign = sign.1;
      is_mark = mark.1;
      numeral = facts_m.0;
      small_magnitude = rw facts_m.1 facts_m.2;
      fits = rw facts_m.1 facts_v.0;
      value = rw facts_m.1 facts_v.1;
      small = facts_v.2;
    } in
    subst (Denotes text) (ok_parts _ _ _ refl b.2) all

-- the same of an answer by the checks
pub denoted_if_ok : (text : List ℕ) (r : Result Bits VastFault) → MatchResult r (λ l. literal_of text ≡ Ok l) (OnlyRefusedBy (literal_of text)) → IfOk r (Denotes text)
denoted_if_ok text (Ok l) h = denoted text l h
denoted_if_ok text (Err e) h = tt
