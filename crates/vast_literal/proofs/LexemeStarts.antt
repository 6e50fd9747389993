-- The longest lexeme at the front of a text, by its first byte.
use Rattle.std.proofs.Common.{◌≡◌, ◌≤◌, inl, inr, zero-le, ℕ, List, [], ◌∷◌, ◌++◌, length, Bool, true, false, eqb-true, ◌||◌, eqb, Option, Some, None, refl, sym, arith}
use Rattle.std.proofs.lemmas.Bool.Decides.{nat_tests}
use Rattle.vast_literal.specs.Tokens.{OpenParen, OpenBrace, Apostrophe, Token, Based, Mark}
use Rattle.vast_literal.specs.Scan.{is_letter, is_digit, is_word_byte, is_radix, is_filler, is_space, Gap, InWord, InSystemWord, InMacroWord, InNumber, AfterTick, InString, Pending, find_sign, whole_signs, growing_signs, scan}
use Rattle.vast_literal.specs.LiteralToken.{every, is_done, is_string_rest, is_based_tail}
use Rattle.vast_literal.specs.Plain.{is_identifier}
use Rattle.vast_literal.specs.Lexemes.IsLexeme.{space, filled, cast, pattern}
use Rattle.vast_literal.proofs.ScanLaws.{or_left, or_right, and_right, by_test}
use Rattle.vast_literal.proofs.LexemeShapes.{sign_goes, tick_goes, digit_goes, one}
use Rattle.vast_literal.proofs.LexemeFronts.{Ends, extend, whole, lost, ends_on}
use Rattle.vast_literal.proofs.LexemeRuns.{word_on, system_on, macro_on, string_on}
use Rattle.vast_literal.proofs.LexemeNumbers.{base_by, number_on}
use Rattle.vast_literal.proofs.LexemeSigns.{sign_on, found_whole, found_growing}

-- An apostrophe.

or_false : (a : Bool) → (a || false) ≡ true → a ≡ true
or_false true h = refl
or_false false h = h

radix_no_filler : (c : ℕ) → (is_radix c || eqb c 115) ≡ true → (is_filler c || (eqb c 40 || eqb c 123)) ≡ false
radix_no_filler c h = grind (arith, nat_tests)

tick_longest : (c : ℕ) (cs m : List ℕ) → (is_radix c || eqb c 115) ≡ true → ((v behind : List ℕ) → c ∷ cs ≡ v ++ behind → is_based_tail v ≡ true → length v ≤ length m) →
    (v behind : List ℕ) → c ∷ cs ≡ v ++ behind → tick_goes v ≡ true → length v ≤ length m
tick_longest c cs m h l [] behind e k = zero-le
tick_longest c cs m h l (d ∷ v) behind e k =
    let same : c ≡ d = cc in
    let n = radix_no_filler d (rw (sym same) h) in
    l (d ∷ v) behind e (rw n at k)

tick_nothing : (c : ℕ) (cs : List ℕ) → (is_radix c || eqb c 115) ≡ true → ((v behind : List ℕ) → c ∷ cs ≡ v ++ behind → is_based_tail v ≡ true → ⊥) →
    (v behind : List ℕ) → c ∷ cs ≡ v ++ behind → tick_goes v ≡ true → ⊥
tick_nothing c cs h l [] behind e k = absurd (cc)
tick_nothing c cs h l (d ∷ v) behind e k =
    let same : c ≡ d = cc in
    let n = radix_no_filler d (rw (sym same) h) in
    l (d ∷ v) behind e (rw n at k)

tick_base : (c : ℕ) (cs : List ℕ) → (is_radix c || eqb c 115) ≡ true → Ends is_based_tail (39 ∷ []) (AfterTick []) (c ∷ cs) → Ends tick_goes (39 ∷ []) (AfterTick []) (c ∷ cs)
tick_base c cs h (inl a) = inl (record { more = a.more; rest = a.rest; brings = a.brings; parts = a.parts; lexeme = a.lexeme; longest = tick_longest c cs a.more h a.longest; scanned = a.scanned })
tick_base c cs h (inr l) = inr (record { nothing = tick_nothing c cs h l.nothing; scanned = l.scanned })

opened : (c : ℕ) (cs : List ℕ) → is_radix c ≡ false → eqb c 115 ≡ false → Ends tick_goes (39 ∷ []) (AfterTick []) (c ∷ cs)
unfolding scan
opened c cs er es = by_test (is_filler c)
    (λ ef. inl (whole tick_goes (39 ∷ []) (AfterTick []) c cs (Based (39 ∷ c ∷ []) ∷ []) (rw (er, es, ef)) (λ v k. or_false (is_done v) (rw (er, es, ef) at k)) (filled ef)))
    (λ ef. by_test (eqb c 40) (λ ep. rw (eqb-true c 40 ep) (inl (whole tick_goes (39 ∷ []) (AfterTick []) 40 cs (Mark Apostrophe ∷ Mark OpenParen ∷ []) refl (λ v k. or_false (is_done v) k) cast)))
    (λ ep. by_test (eqb c 123) (λ eb. rw (eqb-true c 123 eb) (inl (whole tick_goes (39 ∷ []) (AfterTick []) 123 cs (Mark Apostrophe ∷ Mark OpenBrace ∷ []) refl (λ v k. or_false (is_done v) k) pattern)))
    (λ eb. inr (lost tick_goes (AfterTick []) (c ∷ cs) refl (λ v. rw (ef, ep, eb, er, es)) (rw (er, es, ef, ep, eb))))))

tick_on : (t : List ℕ) → Ends tick_goes (39 ∷ []) (AfterTick []) t
unfolding scan
tick_on [] = inr (lost tick_goes (AfterTick []) [] refl tt refl)
tick_on (c ∷ cs) = by_test (is_radix c || eqb c 115) (λ e. tick_base c cs e (base_by [] c cs refl e)) (λ e. opened c cs (or_left (is_radix c) (eqb c 115) e) (or_right (is_radix c) (eqb c 115) e))

-- `$` and a backtick.
system_ends : (t : List ℕ) → Ends is_identifier (36 ∷ []) (InSystemWord []) t
unfolding scan
system_ends [] = inr (lost is_identifier (InSystemWord []) [] refl tt refl)
system_ends (c ∷ cs) = by_test (is_letter c)
    (λ e. inl (extend is_identifier (every is_word_byte) (36 ∷ []) (InSystemWord []) (InSystemWord (c ∷ [])) c cs (rw e) (λ v k. and_right (is_letter c) (every is_word_byte v) k) (system_on c e cs)))
    (λ e. inr (lost is_identifier (InSystemWord []) (c ∷ cs) refl (λ v. rw e) (rw e)))

macro_ends : (t : List ℕ) → Ends is_identifier (96 ∷ []) (InMacroWord []) t
unfolding scan
macro_ends [] = inr (lost is_identifier (InMacroWord []) [] refl tt refl)
macro_ends (c ∷ cs) = by_test (is_letter c)
    (λ e. inl (extend is_identifier (every is_word_byte) (96 ∷ []) (InMacroWord []) (InMacroWord (c ∷ [])) c cs (rw e) (λ v k. and_right (is_letter c) (every is_word_byte v) k) (macro_on c e cs)))
    (λ e. inr (lost is_identifier (InMacroWord []) (c ∷ cs) refl (λ v. rw e) (rw e)))

-- A byte of another kind.
record IsOther (b : ℕ) : Type 0 where
  letter : is_letter b ≡ false
  digit : is_digit b ≡ false
  space : is_space b ≡ false
  system : eqb b 36 ≡ false
  macro : eqb b 96 ≡ false
  string : eqb b 34 ≡ false
  tick : eqb b 39 ≡ false

start_sign_by : (b : ℕ) (t : List ℕ) → IsOther b → (w g : Option Token) → find_sign whole_signs b ≡ w → find_sign growing_signs b ≡ g → Ends one [] Gap (b ∷ t)
unfolding scan
start_sign_by b t o (Some sign) g ew eg =
    let f = found_whole b sign ew in
    inl (whole one [] Gap b t (sign ∷ []) (rw (o.letter, o.digit, o.space, o.system, o.macro, o.string, o.tick, ew)) (λ v k. rw (o.letter, o.digit, o.space, o.system, o.macro, o.string, o.tick, ew) at k) (rw (sym f.text) f.lexeme))
start_sign_by b t o None (Some g) ew eg =
    let f = found_growing b g eg in
    inl (extend one (sign_goes (Pending g)) [] Gap (Pending g) b t (rw (o.letter, o.digit, o.space, o.system, o.macro, o.string, o.tick, ew, eg)) (λ v k. rw (o.letter, o.digit, o.space, o.system, o.macro, o.string, o.tick, ew, eg) at k) (rw (sym f.text) (sign_on t g f.lexeme)))
start_sign_by b t o None None ew eg =
    inr (lost one Gap (b ∷ t) refl (λ v. rw (o.letter, o.digit, o.space, o.system, o.macro, o.string, o.tick, ew, eg)) (rw (o.letter, o.digit, o.space, o.system, o.macro, o.string, o.tick, ew, eg)))

other : (b : ℕ) (t : List ℕ) → is_letter b ≡ false → is_digit b ≡ false → Ends one [] Gap (b ∷ t)
unfolding scan
other b t el ed = by_test (is_space b) (λ es. inl (whole one [] Gap b t [] (rw (el, ed, es)) (λ v h. rw (el, ed, es) at h) (space es)))
    (λ es. by_test (eqb b 36) (λ en. rw (eqb-true b 36 en) (ends_on one is_identifier [] Gap (InSystemWord []) 36 t refl refl (λ v h. h) (system_ends t)))
    (λ en. by_test (eqb b 96) (λ em. rw (eqb-true b 96 em) (ends_on one is_identifier [] Gap (InMacroWord []) 96 t refl refl (λ v h. h) (macro_ends t)))
    (λ em. by_test (eqb b 34) (λ eq. rw (eqb-true b 34 eq) (ends_on one (is_string_rest false) [] Gap (InString (34 ∷ [])) 34 t refl refl (λ v h. h) (string_on t)))
    (λ eq. by_test (eqb b 39) (λ ek. rw (eqb-true b 39 ek) (ends_on one tick_goes [] Gap (AfterTick []) 39 t refl refl (λ v h. h) (tick_on t)))
    (λ ek. start_sign_by b t (record { letter = el; digit = ed; space = es; system = en; macro = em; string = eq; tick = ek }) (find_sign whole_signs b) (find_sign growing_signs b) refl refl)))))

-- A text begins with a longest lexeme, and the scan goes on after it; or no lexeme begins it, and the scan has no tokens.
pub front : (b : ℕ) (t : List ℕ) → Ends one [] Gap (b ∷ t)
unfolding scan
front b t = by_test (is_letter b) (λ el. inl (extend one (every is_word_byte) [] Gap (InWord (b ∷ [])) b t (rw el) (λ v k. rw el at k) (word_on b el t)))
    (λ el. by_test (is_digit b) (λ ed. inl (extend one digit_goes [] Gap (InNumber (b ∷ [])) b t (rw (el, ed)) (λ v k. rw (el, ed) at k) (number_on b ed t))) (λ ed. other b t el ed))
