-- The signs, the comments and the white space at the front of a text.
use Rattle.std.proofs.Common.{◌≡◌, ℕ, ◌+◌, ◌<◌, ◌≤◌, List, [], ◌∷◌, ◌++◌, length, drop, get_or, Bool, true, false, cond, not, eqb, Option, Some, None, zero-le, ⊎_elim, refl, sym, ap, subst, ◌∙◌, add-one, arith}
use Rattle.std.specs.List.{prefix_len}
use Rattle.std.specs.Str.{IsUtf8, IsCharBoundary}
use Rattle.std.proofs.Math.Seq.{drop-cons}
use Rattle.std.proofs.Math.Nat.{eq-or-lt_of_le}
use Rattle.std.proofs.lemmas.Bool.Decides.{nat_tests}
use Rattle.std.proofs.lemmas.List.{drop-drop, get_or_default}
use Rattle.std.proofs.lemmas.Str.{IsCharBoundary-end, IsCharBoundary-before_ascii}
use Rattle.vast_literal.specs.Tokens.{Token}
use Rattle.vast_literal.specs.Scan.{is_letter, is_digit, is_space, Gap, Pending, InComment, Step, keep, give, fail, whole_signs, growing_signs, find_sign, start_growing, start_sign, start, grown}
use Rattle.vast_read.specs.Lexed.{lex, lex_on, unspelled}
use Rattle.vast_literal.proofs.LexemeShapes.{one, sign_goes, grown_state, sign_state, space_letter, space_digit}
use Rattle.vast_read.specs.Behind.{Behind, none_before}
use Rattle.vast_read.specs.Internal.Scanner.{GoesOn, growth_step, starts_sign, Reaches}
use Rattle.vast_read.specs.declared.scanner.sign.Growth.{Growth}
use Rattle.vast_read.specs.declared.scanner.sign.Growth.TheVariants as growth
use Rattle.vast_read.proofs.scanner.Cuts.{cut_behind}
use Rattle.vast_read.proofs.scanner.Lexemes.{head_at, one_more, run_stops, ends}
use Rattle.vast_read.proofs.scanner.Fronts.{goes_behind, done_behind, run_behind, goes_more, behind_further}
use Rattle.vast_read.proofs.scanner.Words.{passed_within}

-- the step at the first byte of a sign
abbrev start_or : Option Token → Option Token → Step
start_or (Some sign) growing = give (sign ∷ [])
start_or None growing = start_growing growing

-- a byte that does not end a line
abbrev within_line : ℕ → Bool
within_line c = not (eqb c 10)

sign_start : (c : ℕ) → starts_sign c ≡ true → start c ≡ start_sign (find_sign whole_signs c) c
sign_start c h =
    let letter : is_letter c ≡ false = grind (arith, nat_tests) in
    let digit : is_digit c ≡ false = grind (arith, nat_tests) in
    let space : is_space c ≡ false = grind (arith, nat_tests) in
    let dollar : eqb c 36 ≡ false = grind (arith, nat_tests) in
    let backtick : eqb c 96 ≡ false = grind (arith, nat_tests) in
    let quote : eqb c 34 ≡ false = grind (arith, nat_tests) in
    let tick : eqb c 39 ≡ false = grind (arith, nat_tests) in
    rw (letter, digit, space, dollar, backtick, quote, tick) refl

first_step : (text : List ℕ) (first : Step) → starts_sign (get_or text 0 10) ≡ true → first ≡ start_sign (find_sign whole_signs (get_or text 0 10)) (get_or text 0 10) →
    lex Gap text ≡ lex_on [] first.out (lex first.state (drop 1 text))
unfolding lex
first_step [] first h e = cc
first_step (c ∷ cs) first h e = ap (λ (s : Step). lex_on [] s.out (lex s.state cs)) (sign_start c h ∙ sym e)

pub growth_no_fail : (g : Growth) → growth_step g ≡ fail → ⊥
growth_no_fail (growth.Open t) e = let o = ap (λ (s : Step). s.out) e in cc
growth_no_fail (growth.Closed t) e = let o = ap (λ (s : Step). s.out) e in cc
growth_no_fail growth.Comment e = let o = ap (λ (s : Step). s.out) e in cc

-- what goes on after it
start_goes : (w g : Option Token) (first : Step) → (first ≡ fail → ⊥) → first ≡ start_or w g → (v : List ℕ) → sign_goes (sign_state w g) v ≡ sign_goes first.state v
start_goes (Some sign) g first some e v = rw e refl
start_goes None (Some sign) first some e v = rw e refl
start_goes None None first some e v = absurd (some e)

start_is : (w : Option Token) (c : ℕ) → start_sign w c ≡ start_or w (find_sign growing_signs c)
start_is (Some sign) c = refl
start_is None c = refl

one_sign : (c : ℕ) (v : List ℕ) → starts_sign c ≡ true → one (c ∷ v) ≡ sign_goes (sign_state (find_sign whole_signs c) (find_sign growing_signs c)) v
one_sign c v h =
    let letter : is_letter c ≡ false = grind (arith, nat_tests) in
    let digit : is_digit c ≡ false = grind (arith, nat_tests) in
    let space : is_space c ≡ false = grind (arith, nat_tests) in
    let dollar : eqb c 36 ≡ false = grind (arith, nat_tests) in
    let backtick : eqb c 96 ≡ false = grind (arith, nat_tests) in
    let quote : eqb c 34 ≡ false = grind (arith, nat_tests) in
    let tick : eqb c 39 ≡ false = grind (arith, nat_tests) in
    rw (letter, digit, space, dollar, backtick, quote, tick) refl

first_goes : (text : List ℕ) (first : Step) → (first ≡ fail → ⊥) → starts_sign (get_or text 0 10) ≡ true →
    first ≡ start_sign (find_sign whole_signs (get_or text 0 10)) (get_or text 0 10) → GoesOn (sign_goes first.state) text 1
first_goes [] first some h e v = cc
first_goes (c ∷ cs) first some h e v = one_sign c v h ∙ start_goes (find_sign whole_signs c) (find_sign growing_signs c) first some (e ∙ start_is (find_sign whole_signs c) c) v

-- the first byte of a sign
pub first_reaches : (text : List ℕ) (first : Step) → (first ≡ fail → ⊥) → IsUtf8 text → starts_sign (get_or text 0 10) ≡ true → get_or text 0 10 < 128 →
    first ≡ start_sign (find_sign whole_signs (get_or text 0 10)) (get_or text 0 10) → Reaches text 1 first
first_reaches text first some utf8 h small e =
    let within = passed_within starts_sign text 0 refl h in
    let goes = first_goes text first some h e in
    record { scanned = first_step text first h e; goes = goes; moved = omega arith; utf8 = utf8; boundary = cut_behind text 0 1 utf8 within small refl }

pub sign_none : (text : List ℕ) → starts_sign (get_or text 0 10) ≡ true → fail ≡ start_sign (find_sign whole_signs (get_or text 0 10)) (get_or text 0 10) → lex Gap text ≡ (unspelled ∷ [])
sign_none text h e = first_step text fail h e

-- a further byte of a sign
-- a sign that grows is no fault
spelled_on : (g : Growth) (before behind : List Token) → lex_on before (growth_step g).out behind ≡ lex_on [] (growth_step g).out behind
spelled_on (growth.Open t) before behind = refl
spelled_on (growth.Closed t) before behind = refl
spelled_on growth.Comment before behind = refl

grown_step : (t : Token) (c : ℕ) (cs : List ℕ) (more : Growth) → grown t c ≡ Some (growth_step more) → lex (Pending t) (c ∷ cs) ≡ lex_on [] (growth_step more).out (lex (growth_step more).state cs)
unfolding lex
grown_step t c cs more e = rw e (spelled_on more (t ∷ []) (lex (growth_step more).state cs))

grown_goes : (t : Token) (c : ℕ) (more : Growth) → grown t c ≡ Some (growth_step more) → (v : List ℕ) → sign_goes (Pending t) (c ∷ v) ≡ sign_goes (growth_step more).state v
grown_goes t c more e v = ap (λ o. sign_goes (grown_state o) v) e

pub grown_reaches : (text : List ℕ) (place : ℕ) (t : Token) (more : Growth) → Reaches text place (keep (Pending t)) → grown t (get_or text place 10) ≡ Some (growth_step more) →
    32 < get_or text place 10 → get_or text place 10 < 128 → Reaches text (place + 1) (growth_step more)
grown_reaches text place t more r e large small =
    let within = passed_within within_line text place refl (grind (arith, nat_tests)) in
    let goes = goes_more (sign_goes (Pending t)) (sign_goes (growth_step more).state) text place within r.goes (grown_goes t (get_or text place 10) more e) in
    record { scanned = r.scanned ∙ (rw (drop-cons text place 10 within, add-one) (grown_step t _ _ more e)); goes = goes; moved = omega arith; utf8 = r.utf8; boundary = cut_behind text place (place + 1) r.utf8 within small refl }

pub sign_ends : (text : List ℕ) (place : ℕ) (t : Token) → Reaches text place (keep (Pending t)) → grown t (get_or text place 10) ≡ None → lex Gap text ≡ (t ∷ lex Gap (drop place text))
sign_ends text place t r e = ends (Pending t) t text place r.scanned refl refl (rw e refl)

-- and the sign is the longest lexeme
stays_bound : (t : Token) (text : List ℕ) → grown t (get_or text 0 10) ≡ None → (v behind : List ℕ) → text ≡ v ++ behind → sign_goes (Pending t) v ≡ true → length v ≤ 0
stays_bound t text e [] behind p h = zero-le
stays_bound t [] e (d ∷ v) behind p h = absurd (cc)
stays_bound t (c ∷ cs) e (d ∷ v) behind p h =
    let same : c ≡ d = cc in
    let no : grown t d ≡ None = rw same at e in
    let clash : false ≡ true = sym (ap (λ o. sign_goes (grown_state o) v) no) ∙ h in
    absurd (cc)

pub sign_behind : (text : List ℕ) (place : ℕ) (t : Token) → Reaches text place (keep (Pending t)) → grown t (get_or text place 10) ≡ None → Behind text (drop place text)
sign_behind text place t r e =
    let stays : grown t (get_or (drop place text) 0 10) ≡ None = ap (grown t) (head_at text place) ∙ e in
    let none : place + 0 ≡ place = omega arith in
    rw none at (goes_behind (sign_goes (Pending t)) text place 0 (omega (arith, r.boundary.0)) r.goes refl (stays_bound t (drop place text) stays))

pub closed_behind : (text : List ℕ) (place : ℕ) (t : Token) → Reaches text place (give (t ∷ [])) → Behind text (drop place text)
closed_behind text place t r = done_behind text place r.boundary.0 r.goes

-- a comment to the end of its line
line_step : (c k : ℕ) (cs : List ℕ) (b : Bool) → eqb c 10 ≡ b → lex InComment cs ≡ lex Gap (drop k cs) → lex InComment (c ∷ cs) ≡ lex Gap (drop (cond (not b) (1 + k) 0) (c ∷ cs))
unfolding lex
line_step c k cs true e more = let is : c ≡ 10 = grind (arith, nat_tests) in rw is refl
line_step c k cs false e more = rw (e, one_more k) more

line_run : (rest : List ℕ) → lex InComment rest ≡ lex Gap (drop (prefix_len within_line rest) rest)
unfolding lex
line_run [] = refl
line_run (c ∷ cs) = line_step c (prefix_len within_line cs) cs (eqb c 10) refl (line_run cs)

pub comment_gap : (text : List ℕ) (place n : ℕ) → Reaches text place (keep InComment) → n ≡ place + prefix_len within_line (drop place text) → lex Gap text ≡ lex Gap (drop n text)
comment_gap text place n r e = r.scanned ∙ (line_run (drop place text) ∙ (rw (drop-drop, e) refl))

pub comment_behind : (text : List ℕ) (place n : ℕ) → Reaches text place (keep InComment) → n ≡ place + prefix_len within_line (drop place text) → Behind text (drop n text)
comment_behind text place n r e = run_behind within_line text place n r.boundary.0 r.goes e

-- where the comment ends
pub comment_cut : (text : List ℕ) (place n : ℕ) → n ≡ place + prefix_len within_line (drop place text) → n ≤ length text → IsCharBoundary text n
comment_cut text place n e within =
    let stops = run_stops within_line refl text place n e in
    let break : get_or text n 10 < 128 = grind (arith, nat_tests) in
    ⊎_elim (λ (last : n ≡ length text). subst (IsCharBoundary text) (sym last) (IsCharBoundary-end text))
    (λ (inside : n < length text). IsCharBoundary-before_ascii text n inside (omega (arith, get_or_default text n 10 0 inside))) (eq-or-lt_of_le within)

-- a run of white space
space_step : (c k : ℕ) (cs : List ℕ) (b : Bool) → is_space c ≡ b → lex Gap cs ≡ lex Gap (drop k cs) → lex Gap (c ∷ cs) ≡ lex Gap (drop (cond b (1 + k) 0) (c ∷ cs))
unfolding lex
space_step c k cs true e more =
    let letter : is_letter c ≡ false = grind (arith, nat_tests) in
    let digit : is_digit c ≡ false = grind (arith, nat_tests) in
    rw (letter, digit, e, one_more k) more
space_step c k cs false e more = refl

space_run : (rest : List ℕ) → lex Gap rest ≡ lex Gap (drop (prefix_len is_space rest) rest)
space_run [] = refl
space_run (c ∷ cs) = space_step c (prefix_len is_space cs) cs (is_space c) refl (space_run cs)

pub space_gap : (text : List ℕ) (n : ℕ) → is_space (get_or text 0 10) ≡ true → 0 < length text → n ≡ 1 + prefix_len is_space (drop 1 text) → lex Gap text ≡ lex Gap (drop n text)
space_gap [] n s h e = absurd (omega arith)
space_gap (c ∷ cs) n s h e = space_run (c ∷ cs) ∙ ap (λ b. lex Gap (drop (cond b (1 + prefix_len is_space cs) 0) (c ∷ cs))) s ∙ ap (λ k. lex Gap (drop k (c ∷ cs))) (sym e)

-- each byte of white space is a lexeme
space_front : (c : ℕ) (cs : List ℕ) → is_space c ≡ true → Behind (c ∷ cs) cs
space_front c cs h = done_behind (c ∷ cs) 1 (omega arith) (λ v. rw (space_letter c h, space_digit c h, h) refl)

space_more : (c k : ℕ) (cs : List ℕ) (b : Bool) → is_space c ≡ b → Behind cs (drop k cs) → Behind (c ∷ cs) (drop (cond b (1 + k) 0) (c ∷ cs))
space_more c k cs true e more = rw (one_more k) (behind_further (c ∷ cs) cs (drop k cs) (space_front c cs e) more)
space_more c k cs false e more = none_before

spaces_behind : (rest : List ℕ) → Behind rest (drop (prefix_len is_space rest) rest)
spaces_behind [] = none_before
spaces_behind (c ∷ cs) = space_more c (prefix_len is_space cs) cs (is_space c) refl (spaces_behind cs)

pub space_behind : (text : List ℕ) (n : ℕ) → is_space (get_or text 0 10) ≡ true → 0 < length text → n ≡ 1 + prefix_len is_space (drop 1 text) → Behind text (drop n text)
space_behind [] n s h e = absurd (omega arith)
space_behind (c ∷ cs) n s h e = rw (e, one_more (prefix_len is_space cs)) (behind_further (c ∷ cs) cs (drop (prefix_len is_space cs) cs) (space_front c cs s) (spaces_behind cs))

pub space_small : (c : ℕ) → is_space c ≡ true → c < 128
space_small c h = grind (arith, nat_tests)
