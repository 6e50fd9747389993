-- The lexemes at the front of a text that are words, numbers, strings and what an apostrophe begins, by places.
use Rattle.std.proofs.Common.{◌≡◌, ◌≤◌, ◌<◌, ◌+◌, ℕ, List, [], ◌∷◌, ◌++◌, length, take, drop, get_or, Bool, true, false, cond, ◌&&◌, ◌||◌, eqb, eqb-true, refl, sym, ap, subst, ◌∙◌, arith}
use Rattle.std.specs.List.{prefix_len}
use Rattle.std.proofs.lemmas.List.{drop-drop, get_or-drop, length-drop}
use Rattle.std.proofs.lemmas.List.Sums.{prefix_len-le-length}
use Rattle.std.proofs.lemmas.Bool.Decides.{nat_tests}
use Rattle.vast_literal.specs.Scan.{is_letter, is_word_byte, is_digit, is_radix, is_filler}
use Rattle.vast_literal.specs.LiteralToken.{every, is_done, is_based_number, is_radix_tail, is_based_tail, is_based, is_string_rest}
use Rattle.vast_literal.specs.Lexemes.IsLexeme.{cast, pattern}
use Rattle.vast_literal.proofs.ScanLaws.{digit_letter, and_left, and_right}
use Rattle.vast_literal.proofs.TokenTexts.{no_tick}
use Rattle.vast_literal.proofs.LexemeShapes.{one, digit_goes}
use Rattle.vast_read.specs.Behind.{Behind, none_before, apostrophe}
use Rattle.vast_read.specs.Internal.Scanner.{GoesOn, opens_based, opens_mark, is_based_tick, string_part}
use Rattle.vast_read.proofs.scanner.Lexemes.{head_at, one_more}
use Rattle.vast_read.proofs.scanner.Fronts.{goes_behind, done_behind, every_taken, every_bound, run_behind, goes_more}
use Rattle.vast_read.proofs.scanner.Words.{passed_within}

-- Words.

word_goes : (text : List ℕ) → is_letter (get_or text 0 10) ≡ true → GoesOn (every is_word_byte) text 1
word_goes [] h v = cc
word_goes (c ∷ cs) h v = rw h refl

pub word_behind : (text : List ℕ) (n : ℕ) → is_letter (get_or text 0 10) ≡ true → n ≡ 1 + prefix_len is_word_byte (drop 1 text) → Behind text (drop n text)
word_behind text n h e =
    let within = passed_within is_letter text 0 refl h in
    run_behind is_word_byte text 1 n (omega arith) (word_goes text h) e

system_goes : (text : List ℕ) → get_or text 0 10 ≡ 36 → is_letter (get_or text 1 10) ≡ true → GoesOn (every is_word_byte) text 2
system_goes [] e h v = absurd (omega arith)
system_goes (c ∷ []) e h v = cc
system_goes (c ∷ b ∷ cs) e h v = rw (e, h) refl

macro_goes : (text : List ℕ) → get_or text 0 10 ≡ 96 → is_letter (get_or text 1 10) ≡ true → GoesOn (every is_word_byte) text 2
macro_goes [] e h v = absurd (omega arith)
macro_goes (c ∷ []) e h v = cc
macro_goes (c ∷ b ∷ cs) e h v = rw (e, h) refl

pub system_behind : (text : List ℕ) (n : ℕ) → get_or text 0 10 ≡ 36 → is_letter (get_or text 1 10) ≡ true → n ≡ 2 + prefix_len is_word_byte (drop 2 text) → Behind text (drop n text)
system_behind text n e h k =
    let within = passed_within is_letter text 1 refl h in
    run_behind is_word_byte text 2 n (omega arith) (system_goes text e h) k

pub macro_behind : (text : List ℕ) (n : ℕ) → get_or text 0 10 ≡ 96 → is_letter (get_or text 1 10) ≡ true → n ≡ 2 + prefix_len is_word_byte (drop 2 text) → Behind text (drop n text)
macro_behind text n e h k =
    let within = passed_within is_letter text 1 refl h in
    run_behind is_word_byte text 2 n (omega arith) (macro_goes text e h) k

-- Numbers.

number_goes : (text : List ℕ) → is_digit (get_or text 0 10) ≡ true → GoesOn digit_goes text 1
number_goes [] h v = cc
number_goes (c ∷ cs) h v = rw (digit_letter c h, h) refl

-- a based literal's apostrophe stands after the digits, and a base after it
abbrev Ticks : List ℕ → Type 0
Ticks rest = (get_or rest 0 10 ≡ 39) × (opens_based (get_or rest 1 10) ≡ true)

tail_opens : (cs v behind : List ℕ) → cs ≡ v ++ behind → is_based_tail v ≡ true → opens_based (get_or cs 0 10) ≡ true
tail_opens cs [] behind e h = cc
tail_opens [] (d ∷ v) behind e h = absurd (cc)
tail_opens (c ∷ cs) (d ∷ v) behind e h =
    let same : c ≡ d = cc in
    rw same (opens_by (eqb d 115) (is_radix d) (is_radix_tail v) (is_based_number v) h)
  where
    opens_by : (s r x y : Bool) → cond s x (r && y) ≡ true → r || s ≡ true
    opens_by true true x y k = refl
    opens_by true false x y k = refl
    opens_by false true x y k = refl
    opens_by false false x y k = cc

based_ticks : (cs v behind : List ℕ) → cs ≡ v ++ behind → is_based v ≡ true → Ticks (drop (prefix_len is_digit cs) cs)
based_ticks cs [] behind e h = absurd (cc)
based_ticks [] (d ∷ v) behind e h = absurd (cc)
based_ticks (c ∷ cs) (d ∷ v) behind e h = ticks_by (eqb d 39) refl h (based_ticks cs v behind (cc))
  where
    ticks_by : (t : Bool) → eqb d 39 ≡ t → cond t (is_based_tail v) (is_digit d && is_based v) ≡ true → (is_based v ≡ true → Ticks (drop (prefix_len is_digit cs) cs)) →
        Ticks (drop (prefix_len is_digit (c ∷ cs)) (c ∷ cs))
    ticks_by true et k f =
        let is : c ≡ 39 = let same : c ≡ d = cc in same ∙ eqb-true d 39 et in
        let opens = tail_opens cs v behind (cc) k in
        rw is (refl, opens)
    ticks_by false et k f =
        let same : c ≡ d = cc in
        let digit : is_digit c ≡ true = rw same (and_left (is_digit d) (is_based v) k) in
        let more = f (and_right (is_digit d) (is_based v) k) in
        rw (digit, one_more (prefix_len is_digit cs)) more

ticked : (text : List ℕ) (n : ℕ) → Ticks (drop n text) → is_based_tick text n ≡ true
ticked text n t =
    let here : get_or text n 10 ≡ 39 = sym (head_at text n) ∙ t.0 in
    let next : opens_based (get_or text (n + 1) 10) ≡ true = ap opens_based (sym (get_or-drop n text 1 10)) ∙ t.1 in
    rw (here, next) refl

digits_bound : (text : List ℕ) (n : ℕ) → n ≡ 1 + prefix_len is_digit (drop 1 text) → is_based_tick text n ≡ false → (v behind : List ℕ) → drop 1 text ≡ v ++ behind → digit_goes v ≡ true →
    length v ≤ prefix_len is_digit (drop 1 text)
digits_bound text n e f v behind p h = bound_by (every is_digit v) (is_based v) refl refl h
  where
    bound_by : (a b : Bool) → every is_digit v ≡ a → is_based v ≡ b → a || b ≡ true → length v ≤ prefix_len is_digit (drop 1 text)
    bound_by true b ea eb k = every_bound is_digit (drop 1 text) v behind p ea
    bound_by false true ea eb k =
        let t = based_ticks (drop 1 text) v behind p eb in
        let yes = ticked text n (subst Ticks (drop-drop (prefix_len is_digit (drop 1 text)) 1 text ∙ ap (λ i. drop i text) (sym e)) t) in
        absurd (cc)
    bound_by false false ea eb k = absurd (cc)

every_goes : (v : List ℕ) → every is_digit v ≡ true → digit_goes v ≡ true
every_goes v h = rw h refl

pub number_behind : (text : List ℕ) (n : ℕ) → is_digit (get_or text 0 10) ≡ true → n ≡ 1 + prefix_len is_digit (drop 1 text) → is_based_tick text n ≡ false → Behind text (drop n text)
number_behind text n h e f =
    let within = passed_within is_digit text 0 refl h in
    let few = prefix_len-le-length is_digit (drop 1 text) in
    let digits = every_goes (take (prefix_len is_digit (drop 1 text)) (drop 1 text)) (every_taken is_digit (drop 1 text)) in
    let behind = goes_behind digit_goes text 1 (prefix_len is_digit (drop 1 text)) (omega (arith, length-drop 1 text)) (number_goes text h) digits (digits_bound text n e f) in
    rw (sym e) at behind

pub digits_taken : (text : List ℕ) (n : ℕ) → is_digit (get_or text 0 10) ≡ true → n ≡ 1 + prefix_len is_digit (drop 1 text) → every is_digit (take n text) ≡ true
digits_taken [] n h e = cc
digits_taken (c ∷ cs) n h e = rw (e, one_more (prefix_len is_digit cs), h) (every_taken is_digit cs)

-- What an apostrophe begins.

or_nothing : (v : List ℕ) → (is_done v || false) ≡ is_done v
or_nothing [] = refl
or_nothing (c ∷ v) = refl

filler_goes : (text : List ℕ) → get_or text 0 10 ≡ 39 → opens_based (get_or text 1 10) ≡ false → is_filler (get_or text 1 10) ≡ true → GoesOn is_done text 2
filler_goes [] e h k v = absurd (omega arith)
filler_goes (c ∷ []) e h k v = cc
filler_goes (c ∷ x ∷ xs) e h k v =
    let no_radix : is_radix x ≡ false = grind (arith, nat_tests) in
    let no_sign : eqb x 115 ≡ false = grind (arith, nat_tests) in
    rw (e, no_radix, no_sign, k) (or_nothing v)

pub filler_behind : (text : List ℕ) → get_or text 0 10 ≡ 39 → opens_based (get_or text 1 10) ≡ false → is_filler (get_or text 1 10) ≡ true → Behind text (drop 2 text)
filler_behind text e h k =
    let within = passed_within is_filler text 1 refl k in
    done_behind text 2 (omega arith) (filler_goes text e h k)

mark_by : (x : ℕ) (xs : List ℕ) (paren brace : Bool) → eqb x 40 ≡ paren → eqb x 123 ≡ brace → paren || brace ≡ true → Behind (39 ∷ x ∷ xs) (x ∷ xs)
mark_by x xs true brace ep eb h = rw (eqb-true x 40 ep) (apostrophe cast none_before)
mark_by x xs false true ep eb h = rw (eqb-true x 123 eb) (apostrophe pattern none_before)
mark_by x xs false false ep eb h = cc

pub mark_behind : (text : List ℕ) → get_or text 0 10 ≡ 39 → opens_mark (get_or text 1 10) ≡ true → Behind text (drop 1 text)
mark_behind [] e h = absurd (omega arith)
mark_behind (c ∷ []) e h = cc
mark_behind (c ∷ x ∷ xs) e h = rw e (mark_by x xs (eqb x 40) (eqb x 123) refl refl h)

-- a based literal after its size, at a byte that begins a base
and_false : (b : Bool) → b && false ≡ false
and_false true = refl
and_false false = refl

unsized : (d v : List ℕ) → every is_digit (d ++ (39 ∷ v)) ≡ false
unsized [] v = refl
unsized (x ∷ d) v = rw (unsized d v) (and_false (is_digit x))

sized : (d v : List ℕ) → every is_digit d ≡ true → is_based (d ++ (39 ∷ v)) ≡ is_based_tail v
sized [] v h = refl
sized (x ∷ d) v h =
    let digit = and_left (is_digit x) (every is_digit d) h in
    rw (no_tick x digit, digit) (sized d v (and_right (is_digit x) (every is_digit d) h))

pub based_goes : (d v : List ℕ) (y : ℕ) → every is_digit d ≡ true → opens_based y ≡ true → one (d ++ (39 ∷ y ∷ v)) ≡ is_based_tail (y ∷ v)
based_goes [] v y h k =
    let no_filler : is_filler y ≡ false = grind (arith, nat_tests) in
    let no_paren : eqb y 40 ≡ false = grind (arith, nat_tests) in
    let no_brace : eqb y 123 ≡ false = grind (arith, nat_tests) in
    rw (no_filler, no_paren, no_brace) refl
based_goes (x ∷ d) v y h k =
    let digit = and_left (is_digit x) (every is_digit d) h in
    rw (digit_letter x digit, digit, unsized d (y ∷ v)) (sized d (y ∷ v) (and_right (is_digit x) (every is_digit d) h))

-- Strings.

pub quote_goes : (text : List ℕ) → get_or text 0 10 ≡ 34 → GoesOn (is_string_rest false) text 1
quote_goes [] e v = absurd (omega arith)
quote_goes (c ∷ cs) e v = rw e refl

pub string_behind : (text : List ℕ) (place : ℕ) → place < length text → GoesOn (is_string_rest false) text place → get_or text place 10 ≡ 34 → Behind text (drop (place + 1) text)
string_behind text place within g e = done_behind text (place + 1) (omega arith) (goes_more (is_string_rest false) is_done text place within g (λ v. rw e refl))

module _ (text : List ℕ) (place : ℕ) (within : place < length text) (g : GoesOn (is_string_rest false) text place) (no_quote : eqb (get_or text place 10) 34 ≡ false) where
  part_by : (slash break next : Bool) → eqb (get_or text place 10) 10 ≡ break → eqb (get_or text place 10) 92 ≡ slash → eqb (get_or text (place + 1) 10) 10 ≡ next →
      (n : ℕ) → n ≡ cond break 0 (cond slash (cond next 0 2) 1) → 0 < n → place + n ≤ length text → GoesOn (is_string_rest false) text (place + n)
  part_by slash true next eb es en n e some few = absurd (omega arith)
  part_by true false true eb es en n e some few = absurd (omega arith)
  part_by true false false eb es en n e some few =
      let is : get_or text place 10 ≡ 92 = eqb-true _ 92 es in
      let first : GoesOn (is_string_rest true) text (place + 1) = goes_more (is_string_rest false) (is_string_rest true) text place within g (λ v. rw is refl) in
      let both = goes_more (is_string_rest true) (is_string_rest false) text (place + 1) (omega arith) first (λ v. rw en refl) in
      let two : place + 1 + 1 ≡ place + 2 = omega arith in
      rw e (rw two at both)
  part_by false false next eb es en n e some few =
      rw e (goes_more (is_string_rest false) (is_string_rest false) text place within g (λ v. rw (no_quote, eb, es) refl))

  pub part_goes : (n : ℕ) → n ≡ string_part (get_or text place 10) (get_or text (place + 1) 10) → 0 < n → place + n ≤ length text → GoesOn (is_string_rest false) text (place + n)
  part_goes = part_by (eqb (get_or text place 10) 92) (eqb (get_or text place 10) 10) (eqb (get_or text (place + 1) 10) 10) refl refl refl
