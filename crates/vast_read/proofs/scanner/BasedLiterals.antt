-- A based literal from its apostrophe on.
use Rattle.std.proofs.Common.{◌≡◌, ℕ, ◌+◌, ◌<◌, List, [], ◌∷◌, ◌++◌, length, take, drop, get_or, Bool, true, false, cond, eqb, eqb-true, refl, ap, subst, ◌∙◌, append_assoc, arith}
use Rattle.std.specs.List.{prefix_len}
use Rattle.std.proofs.lemmas.List.{take_more}
use Rattle.std.proofs.lemmas.Bool.Decides.{nat_tests}
use Rattle.vast_literal.specs.Tokens.{Based}
use Rattle.vast_literal.specs.Scan.{is_based_digit, is_radix, Gap, AfterTick, InSigned, InRadix, InBased}
use Rattle.vast_read.specs.Lexed.{lex, unspelled}
use Rattle.vast_literal.specs.LiteralToken.{every, is_based_number, is_radix_tail}
use Rattle.vast_read.specs.Behind.{Behind}
use Rattle.vast_read.specs.Internal.Scanner.{GoesOn, opens_based, radix_place, IsTick}
use Rattle.vast_read.proofs.scanner.Lexemes.{At, advance, fails, run, run_stops, ends}
use Rattle.vast_read.proofs.scanner.Strings.{two_taken}
use Rattle.vast_read.proofs.scanner.Fronts.{run_behind, goes_more}
use Rattle.vast_read.proofs.scanner.WordFronts.{based_goes}
use Rattle.vast_read.proofs.scanner.Words.{passed_within}

module _ (text : List ℕ) (tick : ℕ) (is : IsTick text tick) (opened : opens_based (get_or text (tick + 1) 10) ≡ true) where
  second : tick + 1 < length text
  second = passed_within opens_based text (tick + 1) refl opened

  both : take (tick + 2) text ≡ take tick text ++ (39 ∷ get_or text (tick + 1) 10 ∷ [])
  both = two_taken text tick second ∙ ap (λ c. take tick text ++ (c ∷ get_or text (tick + 1) 10 ∷ [])) is.here

  next : tick + 1 + 1 ≡ tick + 2
  next = omega arith

  -- the sign stands first
  sign_on : get_or text (tick + 1) 10 ≡ 115 → At (InSigned (take (tick + 2) text)) text (tick + 2)
  sign_on e =
      let at = advance (AfterTick (take tick text)) (InSigned (take tick text ++ (39 ∷ 115 ∷ []))) text (tick + 1) second is.scanned (rw e refl) in
      rw (both, e, ← next) at

  -- the radix stands first
  radix_on : is_radix (get_or text (tick + 1) 10) ≡ true → At (InRadix (take (tick + 2) text)) text (tick + 2)
  radix_on h =
      let at = advance (AfterTick (take tick text)) (InRadix (take tick text ++ (39 ∷ get_or text (tick + 1) 10 ∷ []))) text (tick + 1) second is.scanned (rw h refl) in
      rw (both, ← next) at

  radix_by : (sign : Bool) (place : ℕ) → eqb (get_or text (tick + 1) 10) 115 ≡ sign → place ≡ cond sign (tick + 2) (tick + 1) → is_radix (get_or text place 10) ≡ true → At (InRadix (take (place + 1) text)) text (place + 1)
  radix_by true place es e h =
      let within = passed_within is_radix text place refl h in
      let signed : At (InSigned (take place text)) text place = rw e (sign_on (grind (arith, nat_tests))) in
      let at = advance (InSigned (take place text)) (InRadix (take place text ++ (get_or text place 10 ∷ []))) text place within signed (rw h refl) in
      rw (take_more text place 10 within) at
  radix_by false place es e h =
      let two : place + 1 ≡ tick + 2 = omega arith in
      rw two (radix_on (rw e at h))

  radix_none_by : (sign : Bool) (place : ℕ) → eqb (get_or text (tick + 1) 10) 115 ≡ sign → place ≡ cond sign (tick + 2) (tick + 1) → is_radix (get_or text place 10) ≡ false → lex Gap text ≡ (unspelled ∷ [])
  radix_none_by true place es e h =
      let signed : At (InSigned (take place text)) text place = rw e (sign_on (grind (arith, nat_tests))) in
      fails (InSigned (take place text)) text place signed refl refl (rw h refl)
  radix_none_by false place es e h =
      let no : is_radix (get_or text (tick + 1) 10) ≡ false = rw e at h in
      let clash : opens_based (get_or text (tick + 1) 10) ≡ false = rw (no, es) refl in
      cc

  module _ (place : ℕ) (here : place ≡ radix_place (get_or text (tick + 1) 10) tick) where
    pub radix_none : is_radix (get_or text place 10) ≡ false → lex Gap text ≡ (unspelled ∷ [])
    radix_none = radix_none_by (eqb (get_or text (tick + 1) 10) 115) place refl here

    at_radix : is_radix (get_or text place 10) ≡ true → At (InRadix (take (place + 1) text)) text (place + 1)
    at_radix = radix_by (eqb (get_or text (tick + 1) 10) 115) place refl here

    pub digit_none : is_radix (get_or text place 10) ≡ true → is_based_digit (get_or text (place + 1) 10) ≡ false → lex Gap text ≡ (unspelled ∷ [])
    digit_none h k = fails (InRadix (take (place + 1) text)) text (place + 1) (at_radix h) refl refl (rw k refl)

    pub based_front : (n : ℕ) → is_radix (get_or text place 10) ≡ true → is_based_digit (get_or text (place + 1) 10) ≡ true → n ≡ place + 2 + prefix_len is_based_digit (drop (place + 2) text) →
        lex Gap text ≡ ((Based (take n text)) ∷ lex Gap (drop n text))
    based_front n h k e =
        let within = passed_within is_based_digit text (place + 1) refl k in
        let first = advance (InRadix (take (place + 1) text)) (InBased (take (place + 1) text ++ (get_or text (place + 1) 10 ∷ []))) text (place + 1) within (at_radix h) (rw k refl) in
        let two : place + 1 + 1 ≡ place + 2 = omega arith in
        let at : At (InBased (take (place + 2) text)) text (place + 2) = rw (← two, take_more text (place + 1) 10 within) first in
        let last = run InBased is_based_digit (λ w c g. rw g refl) text (place + 2) n at e in
        ends (InBased (take n text)) (Based (take n text)) text n last refl refl (rw (run_stops is_based_digit refl text (place + 2) n e) refl)

    -- and the literal is the longest lexeme
    based_number_goes : (first : Bool) → eqb (get_or text (tick + 1) 10) 115 ≡ first → is_radix (get_or text place 10) ≡ true → GoesOn is_based_number text (place + 1)
    based_number_goes true es h =
        let sign : get_or text (tick + 1) 10 ≡ 115 = eqb-true _ 115 es in
        let at : place ≡ tick + 2 = here ∙ rw es refl in
        let signed : GoesOn is_radix_tail text place = rw at (λ v. rw (both, append_assoc (take tick text) (39 ∷ get_or text (tick + 1) 10 ∷ []) v) (based_goes (take tick text) v (get_or text (tick + 1) 10) is.digits opened ∙ rw sign refl)) in
        goes_more is_radix_tail is_based_number text place (passed_within is_radix text place refl h) signed (λ v. rw h refl)
    based_number_goes false es h =
        let at : place ≡ tick + 1 = here ∙ rw es refl in
        let two : place + 1 ≡ tick + 2 = omega arith in
        let radix : is_radix (get_or text (tick + 1) 10) ≡ true = subst (λ i. is_radix (get_or text i 10) ≡ true) at h in
        rw two (λ v. rw (both, append_assoc (take tick text) (39 ∷ get_or text (tick + 1) 10 ∷ []) v) (based_goes (take tick text) v (get_or text (tick + 1) 10) is.digits opened ∙ rw (es, radix) refl))

    pub based_behind : (n : ℕ) → is_radix (get_or text place 10) ≡ true → is_based_digit (get_or text (place + 1) 10) ≡ true → n ≡ place + 2 + prefix_len is_based_digit (drop (place + 2) text) →
        Behind text (drop n text)
    based_behind n h k e =
        let within = passed_within is_based_digit text (place + 1) refl k in
        let radix = based_number_goes (eqb (get_or text (tick + 1) 10) 115) refl h in
        let digit = goes_more is_based_number (every is_based_digit) text (place + 1) within radix (λ v. rw k refl) in
        let two : place + 1 + 1 ≡ place + 2 = omega arith in
        run_behind is_based_digit text (place + 2) n (omega arith) (rw two at digit) e
