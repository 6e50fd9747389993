-- The numbers and the based literals at the front of a text.
use Rattle.std.proofs.Common.{◌≡◌, ℕ, ◌+◌, ◌<◌, List, [], ◌∷◌, ◌++◌, take, drop, get_or, Bool, true, false, cond, ◌&&◌, ◌||◌, eqb, eqb-true, refl, sym, ap, ◌∙◌, arith}
use Rattle.std.specs.List.{prefix_len}
use Rattle.std.proofs.lemmas.List.{get_or-drop}
use Rattle.std.proofs.lemmas.Bool.Decides.{nat_tests}
use Rattle.vast_literal.specs.Tokens.{Number, Based, Mark}
use Rattle.vast_literal.specs.declared.token.Mark.TheVariants.{Apostrophe, OpenParen, OpenBrace}
use Rattle.vast_literal.specs.Scan.{is_digit, is_radix, is_filler, Gap, InNumber, AfterTick, keep, give, fail, before_tick, step}
use Rattle.vast_literal.specs.LiteralToken.{every}
use Rattle.vast_read.specs.Lexed.{lex, lex_on, unspelled}
use Rattle.vast_literal.proofs.ScanLaws.{digit_letter, and_left, and_right}
use Rattle.vast_read.specs.Internal.Scanner.{opens_based, is_based_tick, opens_mark, IsTick}
use Rattle.vast_read.proofs.scanner.Lexemes.{At, head_at, one_more, advance, run, run_stops, ends_by}
use Rattle.vast_read.proofs.scanner.Strings.{other_within}

number_on : (text : List ℕ) → is_digit (get_or text 0 10) ≡ true → At (InNumber (take 1 text)) text 1
unfolding lex
number_on [] h = cc
number_on (c ∷ cs) h = rw (digit_letter c h, h) refl

-- the digits at the front of a text
pub digits_on : (text : List ℕ) (n : ℕ) → is_digit (get_or text 0 10) ≡ true → n ≡ 1 + prefix_len is_digit (drop 1 text) → At (InNumber (take n text)) text n
digits_on text n h e = run InNumber is_digit (λ w c g. rw g refl) text 1 n (number_on text h) e

tick_step : (d : List ℕ) (c : ℕ) → c ≡ 39 → step (InNumber d) c ≡ keep (AfterTick d)
tick_step d c e = rw e refl

-- an apostrophe after them
pub digits_tick : (text : List ℕ) (n : ℕ) → every is_digit (take n text) ≡ true → At (InNumber (take n text)) text n → get_or text n 10 ≡ 39 → IsTick text n
digits_tick text n digits at e =
    let within = other_within text n (λ b. absurd (omega arith)) in
    record { scanned = advance (InNumber (take n text)) (AfterTick (take n text)) text n within at (tick_step (take n text) (get_or text n 10) e); digits = digits; within = within; here = e }

-- an apostrophe that opens no based literal stands apart from the number before it
marks_apart : (d : ℕ) (ds : List ℕ) (filler paren brace : Bool) (x : ℕ) (xs : List ℕ) →
    let with = cond filler (give (before_tick (d ∷ ds) ++ (Based (39 ∷ x ∷ []) ∷ []))) (cond paren (give (before_tick (d ∷ ds) ++ (Mark Apostrophe ∷ Mark OpenParen ∷ []))) (cond brace (give (before_tick (d ∷ ds) ++ (Mark Apostrophe ∷ Mark OpenBrace ∷ []))) fail)) in
    let alone = cond filler (give (Based (39 ∷ x ∷ []) ∷ [])) (cond paren (give (Mark Apostrophe ∷ Mark OpenParen ∷ [])) (cond brace (give (Mark Apostrophe ∷ Mark OpenBrace ∷ [])) fail)) in
    lex_on (Number (d ∷ ds) ∷ []) with.out (lex with.state xs) ≡ (Number (d ∷ ds) ∷ lex_on [] alone.out (lex alone.state xs))
marks_apart d ds true paren brace x xs = refl
marks_apart d ds false true brace x xs = refl
marks_apart d ds false false true x xs = refl
marks_apart d ds false false false x xs = refl

tick_apart : (d : ℕ) (ds rest : List ℕ) → opens_based (get_or rest 0 10) ≡ false → lex (AfterTick (d ∷ ds)) rest ≡ (Number (d ∷ ds) ∷ lex (AfterTick []) rest)
unfolding lex
tick_apart d ds [] h = refl
tick_apart d ds (x ∷ xs) h =
    let no_radix : is_radix x ≡ false = grind (arith, nat_tests) in
    let no_sign : eqb x 115 ≡ false = grind (arith, nat_tests) in
    rw (no_radix, no_sign) (marks_apart d ds (is_filler x) (eqb x 40) (eqb x 123) x xs)

number_ends : (d : ℕ) (ds rest : List ℕ) (tick : Bool) → is_digit (get_or rest 0 10) ≡ false → eqb (get_or rest 0 10) 39 ≡ tick → (tick ≡ true → opens_based (get_or rest 1 10) ≡ false) →
    lex (InNumber (d ∷ ds)) rest ≡ ((Number (d ∷ ds)) ∷ lex Gap rest)
unfolding lex
number_ends d ds [] tick h e f = refl
number_ends d ds (c ∷ cs) true h e f =
    let is : c ≡ 39 = grind (arith, nat_tests) in
    rw is (tick_apart d ds cs (f refl))
number_ends d ds (c ∷ cs) false h e f = ends_by (InNumber (d ∷ ds)) (Number (d ∷ ds)) (c ∷ cs) refl refl (rw (h, e) refl)

number_behind : (w : List ℕ) (d : ℕ) (ds rest : List ℕ) → w ≡ d ∷ ds → is_digit (get_or rest 0 10) ≡ false → (eqb (get_or rest 0 10) 39 ≡ true → opens_based (get_or rest 1 10) ≡ false) →
    lex (InNumber w) rest ≡ ((Number w) ∷ lex Gap rest)
number_behind w d ds rest e h f = rw e (number_ends d ds rest (eqb (get_or rest 0 10) 39) h refl f)

denied_right : (a b : Bool) → a && b ≡ false → a ≡ true → b ≡ false
denied_right true b e h = e
denied_right false b e h = cc

pub number_front : (text : List ℕ) (n : ℕ) → is_digit (get_or text 0 10) ≡ true → n ≡ 1 + prefix_len is_digit (drop 1 text) →
    is_based_tick text n ≡ false → lex Gap text ≡ ((Number (take n text)) ∷ lex Gap (drop n text))
number_front [] n h e f = cc
number_front (c ∷ cs) n h e f =
    let text = c ∷ cs in
    let at = digits_on text n h e in
    let digits : take n text ≡ c ∷ take (prefix_len is_digit cs) cs = ap (λ i. take i text) (e ∙ one_more (prefix_len is_digit cs)) in
    let stops : is_digit (get_or (drop n text) 0 10) ≡ false = ap is_digit (head_at text n) ∙ run_stops is_digit refl text 1 n e in
    let apart : eqb (get_or (drop n text) 0 10) 39 ≡ true → opens_based (get_or (drop n text) 1 10) ≡ false = λ (t : eqb (get_or (drop n text) 0 10) 39 ≡ true). ap opens_based (get_or-drop n text 1 10) ∙ denied_right _ _ f (sym (ap (λ b. eqb b 39) (head_at text n)) ∙ t) in
    at ∙ number_behind (take n text) c (take (prefix_len is_digit cs) cs) (drop n text) digits stops apart

-- an apostrophe at the front of a text
pub tick_on : (text : List ℕ) → get_or text 0 10 ≡ 39 → IsTick text 0
unfolding lex
tick_on [] e = absurd (omega arith)
tick_on (c ∷ cs) e = record { scanned = rw e refl; digits = refl; within = omega arith; here = e }

pub filler_front : (text : List ℕ) → get_or text 0 10 ≡ 39 → opens_based (get_or text 1 10) ≡ false → is_filler (get_or text 1 10) ≡ true → lex Gap text ≡ ((Based (take 2 text)) ∷ lex Gap (drop 2 text))
unfolding lex
filler_front [] e h k = absurd (omega arith)
filler_front (c ∷ []) e h k = cc
filler_front (c ∷ x ∷ xs) e h k =
    let no_radix : is_radix x ≡ false = grind (arith, nat_tests) in
    let no_sign : eqb x 115 ≡ false = grind (arith, nat_tests) in
    rw (e, no_radix, no_sign, k) refl

mark_by : (x : ℕ) (xs : List ℕ) (paren brace : Bool) → eqb x 40 ≡ paren → eqb x 123 ≡ brace → paren || brace ≡ true → lex (AfterTick []) (x ∷ xs) ≡ ((Mark Apostrophe) ∷ lex Gap (x ∷ xs))
unfolding lex
mark_by x xs true brace ep eb h = let is : x ≡ 40 = grind (arith, nat_tests) in rw is refl
mark_by x xs false true ep eb h = let is : x ≡ 123 = grind (arith, nat_tests) in rw is refl
mark_by x xs false false ep eb h = cc

pub mark_front : (text : List ℕ) → get_or text 0 10 ≡ 39 → opens_mark (get_or text 1 10) ≡ true → lex Gap text ≡ ((Mark Apostrophe) ∷ lex Gap (drop 1 text))
unfolding lex
mark_front [] e h = absurd (omega arith)
mark_front (c ∷ []) e h = cc
mark_front (c ∷ x ∷ xs) e h = rw e (mark_by x xs (eqb x 40) (eqb x 123) refl refl h)

pub tick_none : (text : List ℕ) → get_or text 0 10 ≡ 39 → opens_based (get_or text 1 10) ≡ false → is_filler (get_or text 1 10) ≡ false → opens_mark (get_or text 1 10) ≡ false → lex Gap text ≡ (unspelled ∷ [])
unfolding lex
tick_none [] e h k m = absurd (omega arith)
tick_none (c ∷ []) e h k m = rw e refl
tick_none (c ∷ x ∷ xs) e h k m =
    let no_radix : is_radix x ≡ false = grind (arith, nat_tests) in
    let no_sign : eqb x 115 ≡ false = grind (arith, nat_tests) in
    let no_paren : eqb x 40 ≡ false = grind (arith, nat_tests) in
    let no_brace : eqb x 123 ≡ false = grind (arith, nat_tests) in
    rw (e, no_radix, no_sign, k, no_paren, no_brace) refl

pub based_tick : (text : List ℕ) (tick : ℕ) → is_based_tick text tick ≡ true → (get_or text tick 10 ≡ 39) × (opens_based (get_or text (tick + 1) 10) ≡ true)
based_tick text tick h = (eqb-true _ 39 (and_left _ _ h), and_right _ _ h)

pub filler_small : (c : ℕ) → is_filler c ≡ true → c < 128
filler_small c h = grind (arith, nat_tests)

pub unopened : (text : List ℕ) → get_or text 0 10 ≡ 39 → is_based_tick text 0 ≡ false → opens_based (get_or text 1 10) ≡ false
unopened text e h = denied_right (eqb (get_or text 0 10) 39) (opens_based (get_or text 1 10)) h (rw e refl)
