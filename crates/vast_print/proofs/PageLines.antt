-- Laws of pages: what is printed, and its tokens.
use Rattle.std.proofs.Common.{◌≡◌, ℕ, zero, suc, ◌*◌, List, [], ◌∷◌, ◌++◌, Bool, true, false, not, eqb, eqb-true, Some, replicate, refl, sym, ◌∙◌, ap, append_assoc, append-nil}
use Rattle.vast_literal.specs.Tokens.{Token, Mark, Operator}
use Rattle.vast_literal.specs.declared.token.Sign.TheVariants.{Plus}
use Rattle.vast_literal.specs.declared.token.Mark.TheVariants.{Colon}
use Rattle.vast_literal.specs.Scan.{State, scan, tokens, join_tokens, step, Gap, InSystemWord, InMacroWord, Pending, InComment}
use Rattle.vast_literal.specs.LiteralToken.{every}
use Rattle.vast_literal.proofs.TokenReads.{Free, Divides, Reads}
use Rattle.vast_literal.proofs.ScanLaws.{not_true, and_left, and_right, by_test}
use Rattle.vast_literal.proofs.Pieces.{add_tokens-nil, free_reads, free_free, reads_end, reads_sep}
use Rattle.vast_print.specs.Page.{Line, indent, print_lines, one_line, inner_lines, beside_lines, written_lines, lead_lines}
use Rattle.std.proofs.lemmas.Bool.{cond_both}

-- the lines without their depths
unfoldable pub flat : List Line → List ℕ
flat [] = []
flat (l ∷ p) = l.bytes ++ (10 ∷ flat p)

-- the same without the last line break
abbrev pub append_word : List ℕ → List Line → List ℕ
append_word w [] = w
append_word w (l ∷ p) = w ++ (10 ∷ append_word l.bytes p)

unfoldable pub body : List Line → List ℕ
body [] = []
body (l ∷ p) = append_word l.bytes p

-- bytes

pub flat-above : (p q : List Line) → flat (p ++ q) ≡ flat p ++ flat q
unfolding flat
flat-above [] q = refl
flat-above (l ∷ p) q = simp (flat-above p q, append_assoc)

pub flat-inner : (p : List Line) → flat (inner_lines p) ≡ flat p
unfolding flat inner_lines
flat-inner [] = refl
flat-inner (l ∷ p) = ap (λ x. l.bytes ++ (10 ∷ x)) (flat-inner p)

flat-append_word : (l : Line) (p : List Line) → flat (l ∷ p) ≡ append_word l.bytes p ++ (10 ∷ [])
unfolding flat
flat-append_word l [] = refl
flat-append_word l (m ∷ p) = rw (append_assoc) (ap (λ x. l.bytes ++ (10 ∷ x)) (flat-append_word m p))

append_word-append : (v w : List ℕ) (q : List Line) → append_word (v ++ w) q ≡ v ++ append_word w q
append_word-append v w [] = refl
append_word-append v w (m ∷ q) = append_assoc v w (10 ∷ append_word m.bytes q)

append_word-beside : (w : List ℕ) (m : Line) (p q : List Line) → append_word w (beside_lines (m ∷ p) q) ≡ w ++ (10 ∷ body (beside_lines (m ∷ p) q))
unfolding body beside_lines
append_word-beside w m [] [] = refl
append_word-beside w m [] (n ∷ q) = refl
append_word-beside w m (n ∷ p) q = refl

-- two pages side by side
pub body-beside : (p q : List Line) → body (beside_lines p q) ≡ body p ++ body q
unfolding body beside_lines
body-beside [] q = refl
body-beside (l ∷ []) [] = sym (append-nil l.bytes)
body-beside (l ∷ []) (m ∷ q) = append_word-append l.bytes m.bytes q
body-beside (l ∷ m ∷ p) q =
    append_word-beside l.bytes m p q ∙ (ap (λ x. l.bytes ++ (10 ∷ x)) (body-beside (m ∷ p) q) ∙ sym (append_assoc l.bytes (10 ∷ append_word m.bytes p) (body q)))

-- tokens: the indentation brings none

spaces_scan : (n : ℕ) (rest : List ℕ) → scan Gap (replicate n 32 ++ rest) ≡ scan Gap rest
unfolding scan
spaces_scan zero rest = refl
spaces_scan (suc n) rest = spaces_scan n rest

-- after a one_line break nothing is pending
break_gap : (s : State) → (step s 10).state ≡ Gap
break_gap (InSystemWord []) = refl
break_gap (InMacroWord []) = refl
break_gap (Pending (Mark Colon)) = refl
break_gap (Pending (Operator Plus)) = refl
break_gap _ = refl

-- a text and a one_line break, then more: what follows the break is scanned afresh
break_scan : (s : State) (w a b : List ℕ) → scan Gap a ≡ scan Gap b → scan s (w ++ (10 ∷ a)) ≡ scan s (w ++ (10 ∷ b))
unfolding scan
break_scan s [] a b e = rw (break_gap s) (ap (join_tokens (step s 10).out) e)
break_scan s (c ∷ w) a b e = ap (join_tokens (step s c).out) (break_scan (step s c).state w a b e)

indent_scan : (d : ℕ) (w rest : List ℕ) → scan Gap (indent d w ++ rest) ≡ scan Gap rest
indent_scan d [] rest = refl
indent_scan d (c ∷ w) rest = spaces_scan (2 * d) rest

pub print_scan : (p : List Line) (rest : List ℕ) → scan Gap (print_lines p ++ rest) ≡ scan Gap (flat p ++ rest)
unfolding print_lines flat
print_scan [] rest = refl
print_scan (l ∷ p) rest =
    rw (append_assoc, append_assoc, append_assoc)
    (indent_scan l.depth l.bytes (l.bytes ++ ((10 ∷ print_lines p) ++ rest)) ∙ break_scan Gap l.bytes (print_lines p ++ rest) (flat p ++ rest) (print_scan p rest))

-- a page of whole lines with their tokens
pub record Lines (p : List Line) (ts : List Token) : Type 0 where
  pub at : Free (flat p) ts

abbrev pub filled : List Line → Bool
filled [] = false
filled (l ∷ p) = true

-- a page whose last one_line may go on
pub record Hangs (p : List Line) (ts : List Token) : Type 0 where
  pub some : filled p ≡ true
  pub at : Reads (body p) ts

pub print_free : {p : List Line} {ts : List Token} → Lines p ts → Free (print_lines p) ts
print_free {p} f = record { at = λ rest. print_scan p rest ∙ f.at.at rest }

pub above_lines : {p q : List Line} {ts us : List Token} → Lines p ts → Lines q us → Lines (p ++ q) (ts ++ us)
above_lines {p} {q} f g = record { at = rw (flat-above p q) (free_free f.at g.at) }

pub inner_whole : {p : List Line} {ts : List Token} → Lines p ts → Lines (inner_lines p) ts
inner_whole {p} f = record { at = rw (flat-inner p) f.at }

pub no_lines_free : Lines [] []
unfolding flat
no_lines_free = record { at = record { at = λ rest. refl } }

line_break : Divides (10 ∷ []) []
unfolding scan
line_break = record { free = record { at = λ rest. refl }; stop = λ rest. refl }

flat-body : (p : List Line) → filled p ≡ true → flat p ≡ body p ++ (10 ∷ [])
unfolding body
flat-body [] h = cc
flat-body (l ∷ p) h = flat-append_word l p

pub lines_are_indented : {p : List Line} {ts : List Token} → Hangs p ts → Lines p ts
lines_are_indented {p} {ts} f = record { at = rw (flat-body p f.some) (rw append-nil at (reads_end f.at line_break)) }

pub line_is_indented : {w : List ℕ} {ts : List Token} → Reads w ts → Hangs (one_line w) ts
unfolding body
line_is_indented f = record { some = refl; at = f }

filled-beside : (p q : List Line) → filled p ≡ true → filled (beside_lines p q) ≡ true
unfolding beside_lines
filled-beside [] q h = cc
filled-beside (l ∷ []) [] h = refl
filled-beside (l ∷ []) (m ∷ q) h = refl
filled-beside (l ∷ m ∷ p) q h = refl

-- a comment, which runs to the end of its one_line
comment_on : (w rest : List ℕ) → every (λ c. not (eqb c 10)) w ≡ true → scan InComment (w ++ (10 ∷ rest)) ≡ scan Gap rest
unfolding scan
comment_on [] rest h = refl
comment_on (c ∷ w) rest h = rw (not_true (eqb c 10) (and_left _ _ h)) (comment_on w rest (and_right (not (eqb c 10)) (every (λ x. not (eqb x 10)) w) h))

comment_start : (rest : List ℕ) → scan Gap (47 ∷ 47 ∷ rest) ≡ scan InComment rest
unfolding scan
comment_start rest = refl

pub comment_lines : (w : List ℕ) → every (λ c. not (eqb c 10)) w ≡ true → Lines (one_line (47 ∷ 47 ∷ w)) []
unfolding flat
comment_lines w h = record { at = record { at = λ rest. rw append_assoc (comment_start (w ++ (10 ∷ rest)) ∙ comment_on w rest h) } }

-- more on bytes

pub filled-written : (w : List ℕ) → filled (written_lines w) ≡ true
unfolding written_lines
filled-written [] = refl
filled-written (c ∷ w) = cond_both (eqb c 10) _ _ (λ p. filled p ≡ true) (λ _. refl) (λ _. filled-beside (one_line (c ∷ [])) (written_lines w) refl)

body-break : (p : List Line) → filled p ≡ true → body (one_line [] ++ p) ≡ 10 ∷ body p
unfolding body
body-break [] h = cc
body-break (l ∷ p) h = refl

pub body-written : (w : List ℕ) → body (written_lines w) ≡ w
unfolding written_lines body
body-written [] = refl
body-written (c ∷ w) = by_test (eqb c 10)
    (λ e. rw (e, eqb-true c 10 e) (body-break (written_lines w) (filled-written w) ∙ ap (λ x. 10 ∷ x) (body-written w)))
    (λ e. rw e (body-beside (one_line (c ∷ [])) (written_lines w) ∙ ap (λ x. c ∷ x) (body-written w)))

pub written_is_indented : {w : List ℕ} {ts : List Token} → Reads w ts → Hangs (written_lines w) ts
written_is_indented {w} f = record { some = filled-written w; at = rw (body-written w) f }

pub flat-lead : (p : List Line) → flat (lead_lines p) ≡ flat p
unfolding flat lead_lines
flat-lead [] = refl
flat-lead (l ∷ p) = refl

pub lead_whole : {p : List Line} {ts : List Token} → Lines p ts → Lines (lead_lines p) ts
lead_whole {p} f = record { at = rw (flat-lead p) f.at }

-- the whole page has the tokens
pub print_tokens : {p : List Line} {ts : List Token} → Lines p ts → tokens (print_lines p) ≡ Some ts
unfolding tokens scan
print_tokens {p} {ts} f = rw append-nil at ((print_free f).at []) ∙ add_tokens-nil ts

-- lines, then a page whose last line may go on
append_word-body : (w : List ℕ) (q : List Line) → filled q ≡ true → append_word w q ≡ w ++ (10 ∷ body q)
unfolding body
append_word-body w [] h = absurd (cc h)
append_word-body w (m ∷ q) h = refl

filled-above : (p q : List Line) → filled q ≡ true → filled (p ++ q) ≡ true
filled-above [] q h = h
filled-above (l ∷ p) q h = refl

body-above : (p q : List Line) → filled q ≡ true → body (p ++ q) ≡ flat p ++ body q
unfolding body flat
body-above [] q h = refl
body-above (l ∷ p) q h = append_word-body l.bytes (p ++ q) (filled-above p q h) ∙ (ap (λ x. l.bytes ++ (10 ∷ x)) (body-above p q h) ∙ sym (append_assoc l.bytes (10 ∷ flat p) (body q)))

pub above_is_indented : {p q : List Line} {ts us : List Token} → Lines p ts → Hangs q us → Hangs (p ++ q) (ts ++ us)
above_is_indented {p} {q} f g = record { some = filled-above p q g.some; at = rw (body-above p q g.some) (free_reads f.at g.at) }

-- a page that goes on after another
pub record Behind (q : List Line) (us : List Token) : Type 0 where
  pub at : (p : List Line) (ts : List Token) → Hangs p ts → Hangs (beside_lines p q) (ts ++ us)

beside-none : (p : List Line) → beside_lines p [] ≡ p
unfolding beside_lines
beside-none [] = refl
beside-none (l ∷ []) = refl
beside-none (l ∷ m ∷ p) = ap (λ x. l ∷ x) (beside-none (m ∷ p))

pub behind_none : Behind [] []
behind_none = record { at = λ p ts h. rw (beside-none p, append-nil) h }

-- a page whose text brings its tokens, and one that is_indented on it
pub free_is_indented : (p : List Line) {q : List Line} {ts us : List Token} → filled p ≡ true → Free (body p) ts → Hangs q us → Hangs (beside_lines p q) (ts ++ us)
free_is_indented p {q} h f g = record { some = filled-beside p q h; at = rw (body-beside p q) (free_reads f g.at) }

-- a page whose text stops what stands before it, and one that is_indented on it
pub behind_divides : (m : List Line) {q : List Line} {ts us : List Token} → Divides (body m) ts → Hangs q us → Behind (beside_lines m q) (ts ++ us)
behind_divides m {q} f g = record { at = λ p vs h. record { some = filled-beside p (beside_lines m q) h.some; at = rw (body-beside p (beside_lines m q), body-beside m q) (reads_sep h.at f g.at) } }

-- the same with a page that may be nothing behind it
pub behind_is_indented : {q : List Line} {p : List Line} {ts us : List Token} → Hangs p ts → Behind q us → Hangs (beside_lines p q) (ts ++ us)
behind_is_indented {p = p} {ts = ts} f g = g.at p ts f
