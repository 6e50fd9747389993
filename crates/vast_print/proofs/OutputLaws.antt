-- Laws of writing pages: what becomes of a text where a page made of parts is written after it.
use Rattle.std.proofs.Common.{◌≡◌, ℕ, true, ◌+◌, List, [], ◌∷◌, ◌++◌, refl, sym, ◌∙◌, ap, add-zero, append-nil, Option, None, Some}
use Rattle.vast_print.specs.declared.refusal.Refusal.{Refusal}
use Rattle.vast_print.specs.Printed.{Printed, first_fault, plain_text, refused, ◌⊕◌}
use Rattle.vast_print.specs.Page.{Page, print, print_lines, no_lines, line, one_line, inner, lead, above, beside, written, written_lines, note, commented, commented_lines}
use Rattle.vast_print.specs.Draft.{Draft, whole, unwritten}
use Rattle.vast_print.specs.Output.{Output, Unstopped, Stopped, word, next, stop, indented_lines, inline_lines, indented, inline}
use Rattle.vast_print.proofs.Lines.{word-word, word-nothing, word-stopped, next-stopped, stop-stopped, stop-some, stop-stop, indented-lines-stop, inline-lines-stop, indented-lines-stopped, inline-lines-stopped, indented-lines-above, inline-lines-beside, indented-lines-inner, indented-flush, indented-flush-on, lead-flush, Flush-written, written-append, Unbroken, written-unbroken, unbroken, written-one-line, written-break, commented-lines-above, whole-print, flat, inline-flat}

-- lines

pub indented-line : (d : ℕ) (k : Output) (w : List ℕ) → indented d k (line w) ≡ word (next d k) w
unfolding indented line indented_lines stop
indented-line d k w = simp add-zero

pub inline-line : (d : ℕ) (k : Output) (w : List ℕ) → inline d k (line w) ≡ word k w
unfolding inline line inline_lines indented_lines stop
inline-line d k w = refl

pub indented-none : (d : ℕ) (k : Output) → indented d k no_lines ≡ k
unfolding indented no_lines indented_lines stop
indented-none d k = refl

pub inline-none : (d : ℕ) (k : Output) → inline d k no_lines ≡ k
unfolding inline no_lines inline_lines stop
inline-none d k = refl

pub indented-blank : (d : ℕ) (k : Output) → indented d k (line []) ≡ next d k
indented-blank d k = indented-line d k [] ∙ word-nothing (next d k)

-- a refusal stays

pub indented-stopped : (d : ℕ) (r : Refusal) (p : Page) → indented d (Stopped r) p ≡ Stopped r
unfolding indented
indented-stopped d r p = ap (λ x. stop x p.fault) (indented-lines-stopped d r p.lines) ∙ stop-stopped r p.fault

pub inline-stopped : (d : ℕ) (r : Refusal) (p : Page) → inline d (Stopped r) p ≡ Stopped r
unfolding inline
inline-stopped d r p = ap (λ x. stop x p.fault) (inline-lines-stopped d r p.lines) ∙ stop-stopped r p.fault

-- pages below pages, and pages that go on after pages

pub indented-above : (d : ℕ) (k : Output) (p q : Page) → indented d k (above p q) ≡ indented d (indented d k p) q
unfolding indented above
indented-above d k p q =
    ap (λ x. stop x (first_fault p.fault q.fault)) (indented-lines-above d k p.lines q.lines)
    ∙ (sym (stop-stop (indented_lines d (indented_lines d k p.lines) q.lines) p.fault q.fault)
    ∙ ap (λ x. stop x q.fault) (sym (indented-lines-stop d (indented_lines d k p.lines) p.fault q.lines)))

pub inline-beside : (d : ℕ) (k : Output) (p q : Page) → inline d k (beside p q) ≡ inline d (inline d k p) q
unfolding inline beside
inline-beside d k p q =
    ap (λ x. stop x (first_fault p.fault q.fault)) (inline-lines-beside d k p.lines q.lines)
    ∙ (sym (stop-stop (inline_lines d (inline_lines d k p.lines) q.lines) p.fault q.fault)
    ∙ ap (λ x. stop x q.fault) (sym (inline-lines-stop d (inline_lines d k p.lines) p.fault q.lines)))

pub indented-inner : (d : ℕ) (k : Output) (p : Page) → indented d k (inner p) ≡ indented (d + 1) k p
unfolding indented inner
indented-inner d k p = ap (λ x. stop x p.fault) (indented-lines-inner d k p.lines)

-- texts

pub indented-written : (d : ℕ) (k : Output) (p : Printed) → indented d k (written p) ≡ inline d (next d k) (written p)
unfolding indented inline written
indented-written d k p = ap (λ x. stop x p.fault) (indented-flush d k (written_lines p.text) (Flush-written p.text))

pub indented-lead : (d : ℕ) (k : Output) (p : Printed) → indented d k (lead (written p)) ≡ inline d (next (d + 1) k) (written p)
unfolding indented inline lead written
indented-lead d k p = ap (λ x. stop x p.fault) (lead-flush d k (written_lines p.text) (Flush-written p.text))

pub written-then : (p q : Printed) → written (p ⊕ q) ≡ beside (written p) (written q)
unfolding written beside ◌⊕◌
written-then p q = ap (λ x. record { lines = x; fault = first_fault p.fault q.fault }) (written-append p.text q.text)

pub inline-then : (d : ℕ) (k : Output) (p q : Printed) → inline d k (written (p ⊕ q)) ≡ inline d (inline d k (written p)) (written q)
inline-then d k p q = ap (λ x. inline d k x) (written-then p q) ∙ inline-beside d k (written p) (written q)

pub inline-empty : (d : ℕ) (k : Output) → inline d k (written (plain_text [])) ≡ k
unfolding inline written plain_text written_lines inline_lines indented_lines stop
inline-empty d k = word-nothing k

-- a refused text stops what is written
pub inline-refused : (d : ℕ) (k : Draft) (r : Refusal) (p : Printed) → inline d (Unstopped k) (written (refused r p)) ≡ Stopped r
unfolding inline written refused
inline-refused d k r p =
    sym (inline-lines-stop d (Unstopped k) (Some r) (written_lines p.text))
    ∙ (ap (λ x. inline_lines d x (written_lines p.text)) (stop-some k r) ∙ inline-lines-stopped d r (written_lines p.text))

-- a text, and a page that goes on after it
pub indented-beside : (d : ℕ) (k : Output) (p : Printed) (q : Page) → indented d k (beside (written p) q) ≡ inline d (inline d (next d k) (written p)) q
unfolding indented inline beside written
indented-beside d k p q =
    let e = indented-flush-on d k (written_lines p.text) q.lines (Flush-written p.text)
    in ap (λ x. stop x (first_fault p.fault q.fault)) e
    ∙ (sym (stop-stop (inline_lines d (inline_lines d (next d k) (written_lines p.text)) q.lines) p.fault q.fault)
    ∙ ap (λ x. stop x q.fault) (sym (inline-lines-stop d (inline_lines d (next d k) (written_lines p.text)) p.fault q.lines)))

-- a line, and a page below it
pub inline-above : (d : ℕ) (k : Output) (w : List ℕ) (q : Page) → inline d k (above (line w) q) ≡ indented d (word k w) q
unfolding inline above line indented inline_lines indented_lines
inline-above d k w q = refl

-- a page that begins with a line, on lines of its own
pub indented-line-above : (d : ℕ) (k : Output) (w : List ℕ) (q : Page) → indented d k (above (line w) q) ≡ inline d (next d k) (above (line w) q)
indented-line-above d k w q =
    indented-above d k (line w) q ∙ (ap (λ j. indented d j q) (indented-line d k w) ∙ sym (inline-above d (next d k) w q))

-- nothing below a page is the page
pub inline-above-none : (d : ℕ) (k : Output) (p : Page) → inline d k (above p no_lines) ≡ inline d k p
unfolding inline above no_lines
inline-above-none d k p = rw (append-nil p.lines) (go p.fault)
  where
    go : (f : Option Refusal) → stop (inline_lines d k p.lines) (first_fault f None) ≡ stop (inline_lines d k p.lines) f
    go None = refl
    go (Some r) = refl

-- a text without line breaks is a word

pub plain-word : (d : ℕ) (k : Output) (w : List ℕ) → Unbroken w → inline d k (written (plain_text w)) ≡ word k w
unfolding inline written plain_text inline_lines indented_lines stop
plain-word d k w h = rw (written-unbroken w h) refl

pub inline-word : (d : ℕ) (k : Output) (w : List ℕ) → unbroken w ≡ true → inline d k (written (plain_text w)) ≡ word k w
unfolding inline written plain_text inline_lines indented_lines stop
inline-word d k w h = rw (written-one-line w h) refl

-- one line of a text is written, or of a comment

pub written-step :
    (d : ℕ) (k : Output) (bs w v : List ℕ) → bs ≡ w ++ (10 ∷ v) → Unbroken w →
    inline d k (written (plain_text bs)) ≡ inline d (next d (word k w)) (written (plain_text v))
unfolding inline written plain_text inline_lines stop
written-step d k bs w v e h =
    ap (λ x. inline_lines d k (written_lines x)) e
    ∙ (ap (λ x. inline_lines d k x) (written-break w v h) ∙ indented-flush d (word k w) (written_lines v) (Flush-written v))

pub comment-step :
    (d : ℕ) (k : Output) (bs w v : List ℕ) → bs ≡ w ++ (10 ∷ v) → Unbroken w →
    indented d k (commented (written (plain_text bs))) ≡ indented d (indented d k (commented (line w))) (commented (written (plain_text v)))
unfolding indented commented written plain_text line stop
comment-step d k bs w v e h =
    ap (λ x. indented_lines d k (commented_lines (written_lines x))) e
    ∙ (ap (λ x. indented_lines d k (commented_lines x)) (written-break w v h)
    ∙ (ap (λ x. indented_lines d k x) (commented-lines-above (one_line w) (written_lines v)) ∙ indented-lines-above d k (commented_lines (one_line w)) (commented_lines (written_lines v))))

pub comment-last : (d : ℕ) (k : Output) (w : List ℕ) → Unbroken w → indented d k (commented (written (plain_text w))) ≡ indented d k (commented (line w))
unfolding indented commented written plain_text line stop
comment-last d k w h = ap (λ x. indented_lines d k (commented_lines x)) (written-unbroken w h)

pub commented-line : (w : List ℕ) → commented (line w) ≡ line (note w)
unfolding commented line commented_lines
commented-line w = refl

-- the whole text

-- a file's page ends as its printed text, or at its first refusal
pub whole-page : (p : Page) (k : Draft) → indented 0 (Unstopped unwritten) p ≡ Unstopped k → (p.fault ≡ None) × (whole k ≡ print p)
unfolding indented print stop whole
whole-page p k h = go p.fault h
  where
    go : (f : Option Refusal) → stop (indented_lines 0 (Unstopped unwritten) p.lines) f ≡ Unstopped k → (f ≡ None) × (whole k ≡ print_lines p.lines)
    go None e =
        let (j, f, g) = whole-print unwritten p.lines in
        let i : j ≡ k = cc (f, e) in
        (refl, ap whole (sym i) ∙ g)
    go (Some r) e = absurd (let (j, f, g) = whole-print unwritten p.lines in let b : stop (Unstopped j) (Some r) ≡ Unstopped k = ap (λ x. stop x (Some r)) (sym f) ∙ e in cc (b))

pub whole-fault : (p : Page) (r : Refusal) → indented 0 (Unstopped unwritten) p ≡ Stopped r → p.fault ≡ Some r
unfolding indented stop
whole-fault p r h = go p.fault h
  where
    go : (f : Option Refusal) → stop (indented_lines 0 (Unstopped unwritten) p.lines) f ≡ Stopped r → f ≡ Some r
    go None e = absurd (let (j, f, g) = whole-print unwritten p.lines in let b : Unstopped j ≡ Stopped r = sym f ∙ e in cc (b))
    go (Some s) e = let (j, f, g) = whole-print unwritten p.lines in let b : stop (Unstopped j) (Some s) ≡ Stopped r = ap (λ x. stop x (Some s)) (sym f) ∙ e in cc (b)

-- an expression's text ends as it is, or at its first refusal
pub line-text : (p : Printed) (k : Draft) → inline 0 (next 0 (Unstopped unwritten)) (written p) ≡ Unstopped k → (p.fault ≡ None) × (k.text ≡ p.text)
unfolding inline written next stop
line-text p k h = go p.fault h
  where
    go : (f : Option Refusal) → stop (inline_lines 0 (Unstopped (flat [] true)) (written_lines p.text)) f ≡ Unstopped k → (f ≡ None) × (k.text ≡ p.text)
    go None e =
        let (g, q) = inline-flat [] true p.text in
        let j : flat p.text g ≡ k = cc (q, e) in
        (refl, ap (λ (x : Draft). x.text) (sym j))
    go (Some r) e = absurd (let (g, q) = inline-flat [] true p.text in let b : stop (Unstopped (flat p.text g)) (Some r) ≡ Unstopped k = ap (λ x. stop x (Some r)) (sym q) ∙ e in cc (b))

pub line-fault : (p : Printed) (r : Refusal) → inline 0 (next 0 (Unstopped unwritten)) (written p) ≡ Stopped r → p.fault ≡ Some r
unfolding inline written next stop
line-fault p r h = go p.fault h
  where
    go : (f : Option Refusal) → stop (inline_lines 0 (Unstopped (flat [] true)) (written_lines p.text)) f ≡ Stopped r → f ≡ Some r
    go None e = absurd (let (g, q) = inline-flat [] true p.text in let b : Unstopped (flat p.text g) ≡ Stopped r = sym q ∙ e in cc (b))
    go (Some s) e = let (g, q) = inline-flat [] true p.text in let b : stop (Unstopped (flat p.text g)) (Some s) ≡ Stopped r = ap (λ x. stop x (Some s)) (sym q) ∙ e in cc (b)

pub ruleset comments = (commented-line, indented-line, word-word, word-stopped, next-stopped)
