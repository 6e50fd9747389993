-- Numbers, and what an apostrophe begins.
use Rattle.std.proofs.Common.{◌≡◌, ◌≤◌, ◌⊎◌, inl, inr, ℕ, List, [], ◌∷◌, ◌++◌, length, true, false, eqb-true, ◌||◌, eqb, None, refl, sym, ◌∙◌, ap, append_assoc, append-nil, arith}
use Rattle.vast_literal.specs.Tokens.{OpenParen, OpenBrace, Apostrophe, Number, Based, Mark}
use Rattle.vast_literal.specs.Scan.{is_digit, is_based_digit, is_radix, is_filler, Gap, InNumber, AfterTick, InSigned, InRadix, InBased, before_tick, scan, add_tokens}
use Rattle.vast_literal.specs.LiteralToken.{every, is_number, is_based_number, is_radix_tail, is_based_tail}
use Rattle.vast_literal.specs.Lexemes.{IsBase}
use Rattle.vast_literal.specs.Lexemes.IsBase.{unsigned, signed}
use Rattle.vast_literal.specs.Lexemes.IsLexeme.{number}
use Rattle.vast_literal.proofs.ScanLaws.{add_tokens-append, and_right, or_left, or_right, by_test}
use Rattle.vast_literal.proofs.LiteralLaws.{every_push}
use Rattle.vast_literal.proofs.TokenTexts.{no_tick}
use Rattle.vast_literal.proofs.LexemeShapes.{radix_signed, digit_goes}
use Rattle.vast_literal.proofs.LexemeFronts.{Ahead, Lost, Ends, here, extend, nowhere, lost, ends_on, add_none, scan_follow}
use Rattle.vast_literal.proofs.LexemeRuns.{based_on}
use Rattle.vast_literal.proofs.NumberLaws.{every_number}

-- digits after a base
radix_ends : (size base t : List ℕ) → every is_digit size ≡ true → IsBase base → Ends is_based_number (size ++ (39 ∷ base)) (InRadix (size ++ (39 ∷ base))) t
unfolding scan
radix_ends size base [] g h = inr (lost is_based_number (InRadix (size ++ (39 ∷ base))) [] refl tt refl)
radix_ends size base (c ∷ cs) g h = by_test (is_based_digit c)
    (λ e. let joined : (size ++ (39 ∷ base)) ++ (c ∷ []) ≡ size ++ (39 ∷ (base ++ (c ∷ []))) = append_assoc size (39 ∷ base) (c ∷ []) in
    inl (extend is_based_number (every is_based_digit) (size ++ (39 ∷ base)) (InRadix (size ++ (39 ∷ base))) (InBased ((size ++ (39 ∷ base)) ++ (c ∷ []))) c cs (rw e) (λ v k. and_right (is_based_digit c) (every is_based_digit v) k)
    (rw joined (based_on size base c g h e cs))))
    (λ e. inr (lost is_based_number (InRadix (size ++ (39 ∷ base))) (c ∷ cs) refl (λ v. rw e) (rw e)))

-- a radix after `s`
signed_ends : (size t : List ℕ) → every is_digit size ≡ true → Ends is_radix_tail (size ++ (39 ∷ 115 ∷ [])) (InSigned (size ++ (39 ∷ 115 ∷ []))) t
unfolding scan
signed_ends size [] g = inr (lost is_radix_tail (InSigned (size ++ (39 ∷ 115 ∷ []))) [] refl tt refl)
signed_ends size (c ∷ cs) g = by_test (is_radix c)
    (λ e. let joined : (size ++ (39 ∷ 115 ∷ [])) ++ (c ∷ []) ≡ size ++ (39 ∷ 115 ∷ c ∷ []) = append_assoc size (39 ∷ 115 ∷ []) (c ∷ []) in
    ends_on is_radix_tail is_based_number (size ++ (39 ∷ 115 ∷ [])) (InSigned (size ++ (39 ∷ 115 ∷ []))) (InRadix ((size ++ (39 ∷ 115 ∷ [])) ++ (c ∷ []))) c cs refl (rw e) (λ v k. and_right (is_radix c) (is_based_number v) k)
    (rw joined (radix_ends size (115 ∷ c ∷ []) cs g (signed e))))
    (λ e. inr (lost is_radix_tail (InSigned (size ++ (39 ∷ 115 ∷ []))) (c ∷ cs) refl (λ v. rw e) (rw e)))

-- After digits and an apostrophe: a based literal, or the digits are a lexeme and the apostrophe begins another.
pub record Parted (d t : List ℕ) : Type 0 where
  pub nothing : (v behind : List ℕ) → t ≡ v ++ behind → is_based_tail v ≡ true → ⊥
  pub scanned : scan (AfterTick d) t ≡ add_tokens (before_tick d) (scan (AfterTick []) t)

abbrev pub TickEnds : (d t : List ℕ) → Type 0
TickEnds d t = Ahead is_based_tail (d ++ (39 ∷ [])) (AfterTick d) t ⊎ Parted d t

none_before : (d t : List ℕ) → Lost is_based_tail (AfterTick d) t → scan (AfterTick []) t ≡ None → Parted d t
none_before d t l e = record { nothing = l.nothing; scanned = l.scanned ∙ sym (ap (add_tokens (before_tick d)) e ∙ add_none (before_tick d)) }

-- where nothing follows, the scan finds nothing, whatever stands before
radix_none : (b t : List ℕ) → ((v behind : List ℕ) → t ≡ v ++ behind → is_based_number v ≡ true → ⊥) → scan (InRadix b) t ≡ None
unfolding scan
radix_none b [] n = refl
radix_none b (c ∷ cs) n = by_test (is_based_digit c) (λ e. absurd (n (c ∷ []) cs refl (rw e))) (λ e. rw e)

signed_none : (b t : List ℕ) → ((v behind : List ℕ) → t ≡ v ++ behind → is_radix_tail v ≡ true → ⊥) → scan (InSigned b) t ≡ None
unfolding scan
signed_none b [] n = refl
signed_none b (c ∷ cs) n = by_test (is_radix c) (λ e. rw e (radix_none (b ++ (c ∷ [])) cs (λ v behind p k. n (c ∷ v) behind (ap (λ x. c ∷ x) p) (rw e k)))) (λ e. rw e)

-- a byte that a base begins with
pub base_by : (d : List ℕ) (c : ℕ) (cs : List ℕ) → every is_digit d ≡ true → (is_radix c || eqb c 115) ≡ true → Ends is_based_tail (d ++ (39 ∷ [])) (AfterTick d) (c ∷ cs)
base_by d c cs g h = by_test (is_radix c)
    (λ e. ends_on is_based_tail is_based_number (d ++ (39 ∷ [])) (AfterTick d) (InRadix (d ++ (39 ∷ c ∷ []))) c cs refl (rw e) (λ v k. rw (radix_signed c e, e) at k)
    (rw (append_assoc d (39 ∷ []) (c ∷ [])) (radix_ends d (c ∷ []) cs g (unsigned e))))
    (λ e. rw (eqb-true c 115 (rw e at h))
    (ends_on is_based_tail is_radix_tail (d ++ (39 ∷ [])) (AfterTick d) (InSigned (d ++ (39 ∷ 115 ∷ []))) 115 cs refl refl (λ v k. k)
    (rw (append_assoc d (39 ∷ []) (115 ∷ [])) (signed_ends d cs g))))

base_none : (d : List ℕ) (c : ℕ) (cs : List ℕ) → ((v behind : List ℕ) → c ∷ cs ≡ v ++ behind → is_based_tail v ≡ true → ⊥) → (is_radix c || eqb c 115) ≡ true → scan (AfterTick d) (c ∷ cs) ≡ None
unfolding scan
base_none d c cs n h = by_test (is_radix c)
    (λ e. rw e (radix_none (d ++ (39 ∷ c ∷ [])) cs (λ v behind p k. n (c ∷ v) behind (ap (λ x. c ∷ x) p) (rw (radix_signed c e, e) k))))
    (λ e. let at : c ≡ 115 = eqb-true c 115 (rw e at h) in let m = rw at at n in
    rw at (signed_none (d ++ (39 ∷ 115 ∷ [])) cs (λ v behind p k. m (115 ∷ v) behind (ap (λ x. 115 ∷ x) p) k)))

-- another byte
apart : (d : List ℕ) (c : ℕ) (cs : List ℕ) → is_radix c ≡ false → eqb c 115 ≡ false → scan (AfterTick d) (c ∷ cs) ≡ add_tokens (before_tick d) (scan (AfterTick []) (c ∷ cs))
unfolding scan
apart d c cs er es = by_test (is_filler c) (λ ef. rw (er, es, ef) (add_tokens-append (before_tick d) (Based (39 ∷ c ∷ []) ∷ []) (scan Gap cs)))
    (λ ef. by_test (eqb c 40) (λ ep. rw (er, es, ef, ep) (add_tokens-append (before_tick d) (Mark Apostrophe ∷ Mark OpenParen ∷ []) (scan Gap cs)))
    (λ ep. by_test (eqb c 123) (λ eb. rw (er, es, ef, ep, eb) (add_tokens-append (before_tick d) (Mark Apostrophe ∷ Mark OpenBrace ∷ []) (scan Gap cs)))
    (λ eb. rw (er, es, ef, ep, eb) (sym (add_none (before_tick d))))))

tick_ends : (d t : List ℕ) → every is_digit d ≡ true → TickEnds d t
unfolding scan
tick_ends d [] g = inr (record { nothing = nowhere is_based_tail [] refl tt; scanned = sym (add_none (before_tick d)) })
tick_ends d (c ∷ cs) g = by_test (is_radix c || eqb c 115) (λ e. based_or_parted e (base_by d c cs g e))
    (λ e. let er = or_left (is_radix c) (eqb c 115) e in let es = or_right (is_radix c) (eqb c 115) e in
    inr (record { nothing = nowhere is_based_tail (c ∷ cs) refl (λ v. rw (es, er)); scanned = apart d c cs er es }))
  where
    based_or_parted : (is_radix c || eqb c 115) ≡ true → Ends is_based_tail (d ++ (39 ∷ [])) (AfterTick d) (c ∷ cs) → TickEnds d (c ∷ cs)
    based_or_parted e (inl a) = inl a
    based_or_parted e (inr l) = inr (none_before d (c ∷ cs) l (base_none [] c cs l.nothing e))

-- Numbers.
number_push : (d : List ℕ) (c : ℕ) → is_number d ≡ true → is_digit c ≡ true → is_number (d ++ (c ∷ [])) ≡ true
number_push [] c h k = cc
number_push (x ∷ d) c h k = every_push is_digit (x ∷ d) c h k

-- the digits are the longest lexeme, where no based literal stands after them
number_apart : (cs : List ℕ) → ((v behind : List ℕ) → cs ≡ v ++ behind → is_based_tail v ≡ true → ⊥) → (v behind : List ℕ) → 39 ∷ cs ≡ v ++ behind → digit_goes v ≡ true → length v ≤ 0
number_apart cs n [] behind e k = omega arith
number_apart cs n (c ∷ v) behind e k =
    let h : 39 ≡ c = cc in
    let m = rw (sym h) at k in
    absurd (n v behind (cc) m)

number_tick : (d cs : List ℕ) → is_number d ≡ true → TickEnds d cs → Ahead digit_goes d (InNumber d) (39 ∷ cs)
unfolding scan
number_tick d cs h (inl a) = extend digit_goes is_based_tail d (InNumber d) (AfterTick d) 39 cs refl (λ v k. k) a
number_tick [] cs h (inr p) = cc
number_tick (x ∷ d) cs h (inr p) = record {
  more = [];
  rest = 39 ∷ cs;
  brings = Number (x ∷ d) ∷ [];
  parts = refl;
  lexeme = rw append-nil (number h);
  longest = number_apart cs p.nothing;
  scanned = p.scanned;
}

number_ends : (d : List ℕ) → is_number d ≡ true → (t : List ℕ) → Ahead digit_goes d (InNumber d) t
unfolding scan
number_ends d h [] = here digit_goes d (InNumber d) [] (Number d ∷ []) (number h) tt refl
number_ends d h (c ∷ cs) = by_test (is_digit c)
    (λ eb. extend digit_goes digit_goes d (InNumber d) (InNumber (d ++ (c ∷ []))) c cs (rw eb) (λ v k. rw (eb, no_tick c eb) at k) (number_ends (d ++ (c ∷ [])) (number_push d c h eb) cs))
    (λ eb. by_test (eqb c 39) (λ et. rw (eqb-true c 39 et) (number_tick d cs h (tick_ends d cs (every_number d h))))
    (λ et. here digit_goes d (InNumber d) (c ∷ cs) (Number d ∷ []) (number h) (λ v. rw (eb, et)) (scan_follow (InNumber d) c cs (Number d ∷ []) (rw (eb, et)))))

pub number_on : (b : ℕ) → is_digit b ≡ true → (t : List ℕ) → Ahead digit_goes (b ∷ []) (InNumber (b ∷ [])) t
number_on b h t = number_ends (b ∷ []) (rw h) t
