-- Laws of writing lines.
use Rattle.std.proofs.Common.{◌≡◌, ◌≢◌, ◌<◌, ℕ, suc, ◌+◌, List, [], ◌∷◌, ◌++◌, length, get_or, Bool, true, false, eqb, eqb-true, cond, refl, sym, ◌∙◌, ap, append_assoc, append-nil, add-zero, arith, lit<, Option, Some, None, Bor}
use Rattle.std.specs.Prelude.{◌||◌}
use Rattle.std.specs.List.{list_any}
use Rattle.std.proofs.lemmas.Str.Pattern.{IsSplitOnceResult, split_parts}
use Rattle.vast_print.specs.declared.refusal.Refusal.{Refusal}
use Rattle.vast_print.specs.Printed.{first_fault}
use Rattle.vast_print.specs.Page.{Line, print_lines, indent, one_line, inner_lines, lead_lines, beside_lines, written_lines, note, commented_lines}
use Rattle.vast_print.specs.Draft.{Draft, whole}
use Rattle.vast_print.specs.Output.{Output, Unstopped, Stopped, margin, word, next, stop, indented_lines, inline_lines}
use Rattle.std.proofs.lemmas.Bool.{cond_both}
use Rattle.vast_literal.proofs.ScanLaws.{by_test}

pub word-word : (k : Output) (a b : List ℕ) → word (word k a) b ≡ word k (a ++ b)
unfolding word
word-word (Unstopped k) [] b = refl
word-word (Unstopped k) (c ∷ w) [] = ap (λ v. Unstopped (record { text = k.text ++ (margin k ++ (c ∷ v)); depth = k.depth; fresh = false; begun = k.begun })) (sym (append-nil w))
word-word (Unstopped k) (c ∷ w) (d ∷ v) = simp append_assoc
word-word (Stopped r) a b = refl

pub word-nothing : (k : Output) → word k [] ≡ k
unfolding word
word-nothing (Unstopped k) = refl
word-nothing (Stopped r) = refl

-- a refusal stays

pub word-stopped : (r : Refusal) (w : List ℕ) → word (Stopped r) w ≡ Stopped r
unfolding word
word-stopped r w = refl

pub next-stopped : (d : ℕ) (r : Refusal) → next d (Stopped r) ≡ Stopped r
unfolding next
next-stopped d r = refl

pub stop-stopped : (r : Refusal) (f : Option Refusal) → stop (Stopped r) f ≡ Stopped r
unfolding stop
stop-stopped r None = refl
stop-stopped r (Some s) = refl

pub stop-some : (k : Draft) (r : Refusal) → stop (Unstopped k) (Some r) ≡ Stopped r
unfolding stop
stop-some k r = refl

pub stop-stop : (k : Output) (f g : Option Refusal) → stop (stop k f) g ≡ stop k (first_fault f g)
unfolding stop
stop-stop k None g = refl
stop-stop (Unstopped k) (Some r) None = refl
stop-stop (Unstopped k) (Some r) (Some s) = refl
stop-stop (Stopped r) (Some s) None = refl
stop-stop (Stopped r) (Some s) (Some t) = refl

pub word-stop : (k : Output) (f : Option Refusal) (w : List ℕ) → word (stop k f) w ≡ stop (word k w) f
unfolding word stop
word-stop k None w = refl
word-stop (Unstopped k) (Some r) [] = refl
word-stop (Unstopped k) (Some r) (c ∷ w) = refl
word-stop (Stopped s) (Some r) w = refl

pub next-stop : (d : ℕ) (k : Output) (f : Option Refusal) → next d (stop k f) ≡ stop (next d k) f
unfolding next stop
next-stop d k None = refl
next-stop d (Unstopped k) (Some r) = refl
next-stop d (Stopped s) (Some r) = refl

pub indented-lines-stop : (d : ℕ) (k : Output) (f : Option Refusal) (p : List Line) → indented_lines d (stop k f) p ≡ stop (indented_lines d k p) f
unfolding indented_lines
indented-lines-stop d k f [] = refl
indented-lines-stop d k f (l ∷ p) =
    ap (λ x. indented_lines d (word x l.bytes) p) (next-stop (d + l.depth) k f)
    ∙ (ap (λ x. indented_lines d x p) (word-stop (next (d + l.depth) k) f l.bytes) ∙ indented-lines-stop d (word (next (d + l.depth) k) l.bytes) f p)

pub inline-lines-stop : (d : ℕ) (k : Output) (f : Option Refusal) (p : List Line) → inline_lines d (stop k f) p ≡ stop (inline_lines d k p) f
unfolding inline_lines
inline-lines-stop d k f [] = refl
inline-lines-stop d k f (l ∷ p) = ap (λ x. indented_lines d x p) (word-stop k f l.bytes) ∙ indented-lines-stop d (word k l.bytes) f p

pub indented-lines-stopped : (d : ℕ) (r : Refusal) (p : List Line) → indented_lines d (Stopped r) p ≡ Stopped r
unfolding indented_lines
indented-lines-stopped d r [] = refl
indented-lines-stopped d r (l ∷ p) = rw (next-stopped (d + l.depth) r, word-stopped r l.bytes) (indented-lines-stopped d r p)

pub inline-lines-stopped : (d : ℕ) (r : Refusal) (p : List Line) → inline_lines d (Stopped r) p ≡ Stopped r
unfolding inline_lines
inline-lines-stopped d r [] = refl
inline-lines-stopped d r (l ∷ p) = rw (word-stopped r l.bytes) (indented-lines-stopped d r p)

-- lines below lines, and lines that go on after lines

pub indented-lines-above : (d : ℕ) (k : Output) (p q : List Line) → indented_lines d k (p ++ q) ≡ indented_lines d (indented_lines d k p) q
unfolding indented_lines
indented-lines-above d k [] q = refl
indented-lines-above d k (l ∷ p) q = indented-lines-above d (word (next (d + l.depth) k) l.bytes) p q

pub indented-lines-on : (d : ℕ) (k : Output) (l : Line) (p q : List Line) → indented_lines d k (beside_lines (l ∷ p) q) ≡ inline_lines d (indented_lines d k (l ∷ p)) q
unfolding indented_lines inline_lines beside_lines
indented-lines-on d k l [] [] = refl
indented-lines-on d k l [] (m ∷ q) = ap (λ x. indented_lines d x q) (sym (word-word (next (d + l.depth) k) l.bytes m.bytes))
indented-lines-on d k l (n ∷ p) q = indented-lines-on d (word (next (d + l.depth) k) l.bytes) n p q

pub inline-lines-beside : (d : ℕ) (k : Output) (p q : List Line) → inline_lines d k (beside_lines p q) ≡ inline_lines d (inline_lines d k p) q
unfolding inline_lines beside_lines indented_lines
inline-lines-beside d k [] q = refl
inline-lines-beside d k (l ∷ []) [] = refl
inline-lines-beside d k (l ∷ []) (m ∷ q) = ap (λ x. indented_lines d x q) (sym (word-word k l.bytes m.bytes))
inline-lines-beside d k (l ∷ m ∷ p) q = indented-lines-on d (word k l.bytes) m p q

pub indented-lines-inner : (d : ℕ) (k : Output) (p : List Line) → indented_lines d k (inner_lines p) ≡ indented_lines (d + 1) k p
unfolding indented_lines inner_lines
indented-lines-inner d k [] = refl
indented-lines-inner d k (l ∷ p) =
    let e : d + suc l.depth ≡ d + 1 + l.depth = omega arith
    in indented-lines-inner d (word (next (d + suc l.depth) k) l.bytes) p ∙ ap (λ x. indented_lines (d + 1) (word (next x k) l.bytes) p) e

-- texts with line breaks: their lines stand at no depth of their own

pub data Flush : List Line → Type 0 where
  flush : (w : List ℕ) (p : List Line) → Flush (record { depth = 0; bytes = w } ∷ p)

Flush-beside : (w : List ℕ) (p : List Line) → Flush (beside_lines (one_line w) p)
unfolding beside_lines
Flush-beside w [] = flush w []
Flush-beside w (m ∷ p) = flush (w ++ m.bytes) p

pub Flush-written : (w : List ℕ) → Flush (written_lines w)
unfolding written_lines
Flush-written [] = flush [] []
Flush-written (c ∷ w) = cond_both (eqb c 10) _ _ Flush (λ _. flush [] (written_lines w)) (λ _. Flush-beside (c ∷ []) (written_lines w))

pub indented-flush : (d : ℕ) (k : Output) (p : List Line) → Flush p → indented_lines d k p ≡ inline_lines d (next d k) p
unfolding indented_lines inline_lines
indented-flush d k _ (flush w p) = ap (λ x. indented_lines d (word (next x k) w) p) (add-zero d)

pub lead-flush : (d : ℕ) (k : Output) (p : List Line) → Flush p → indented_lines d k (lead_lines p) ≡ inline_lines d (next (d + 1) k) p
unfolding indented_lines inline_lines lead_lines
lead-flush d k _ (flush w p) = refl

pub indented-flush-on : (d : ℕ) (k : Output) (p q : List Line) → Flush p → indented_lines d k (beside_lines p q) ≡ inline_lines d (inline_lines d (next d k) p) q
indented-flush-on d k _ q (flush w p) =
    indented-lines-on d k (record { depth = 0; bytes = w }) p q ∙ ap (λ x. inline_lines d x q) (indented-flush d k _ (flush w p))

beside-cons : (c : ℕ) (p q : List Line) → Flush p → beside_lines (beside_lines (one_line (c ∷ [])) p) q ≡ beside_lines (one_line (c ∷ [])) (beside_lines p q)
unfolding beside_lines
beside-cons c _ [] (flush w []) = refl
beside-cons c _ (m ∷ q) (flush w []) = refl
beside-cons c _ q (flush w (n ∷ p)) = refl

beside-break : (p q : List Line) → Flush p → beside_lines (one_line [] ++ p) q ≡ one_line [] ++ beside_lines p q
unfolding beside_lines
beside-break _ q (flush w p) = refl

beside-empty : (q : List Line) → Flush q → q ≡ beside_lines (one_line []) q
unfolding beside_lines
beside-empty _ (flush w p) = refl

-- a text after a text goes on after its last line
pub written-append : (a b : List ℕ) → written_lines (a ++ b) ≡ beside_lines (written_lines a) (written_lines b)
unfolding written_lines
written-append [] b = beside-empty (written_lines b) (Flush-written b)
written-append (c ∷ w) b = rw (written-append w b) (by_test (eqb c 10) (λ e. rw e (sym (beside-break (written_lines w) (written_lines b) (Flush-written w))))
    (λ e. rw e (sym (beside-cons c (written_lines w) (written_lines b) (Flush-written w)))))

-- no line break stands in the text
pub record Unbroken (w : List ℕ) : Type 0 where
  pub at : (i : ℕ) → i < length w → get_or w i 0 ≢ 10

unbroken-tail : (c : ℕ) (w : List ℕ) → Unbroken (c ∷ w) → Unbroken w
unbroken-tail c w h = record { at = λ i b. h.at (suc i) (omega arith) }

pub eqb-false : (c : ℕ) → c ≢ 10 → eqb c 10 ≡ false
eqb-false c h = go (eqb c 10) refl
  where
    go : (b : Bool) → eqb c 10 ≡ b → b ≡ false
    go true e = absurd (h (eqb-true c 10 e))
    go false e = refl

unbroken-head : (c : ℕ) (w : List ℕ) → Unbroken (c ∷ w) → eqb c 10 ≡ false
unbroken-head c w h = eqb-false c (h.at 0 (omega arith))

pub written-unbroken : (w : List ℕ) → Unbroken w → written_lines w ≡ one_line w
unfolding written_lines beside_lines
written-unbroken [] h = refl
written-unbroken (c ∷ w) h = rw (unbroken-head c w h) (ap (λ p. beside_lines (one_line (c ∷ [])) p) (written-unbroken w (unbroken-tail c w h)))

-- the same as a test
abbrev pub unbroken : List ℕ → Bool
unbroken [] = true
unbroken (c ∷ w) = cond (eqb c 10) false (unbroken w)

pub no-break : (w : List ℕ) → list_any (λ y. eqb y 10) w ≡ false → unbroken w ≡ true
no-break [] h = refl
no-break (c ∷ w) h = go (eqb c 10) h (λ e. no-break w e)
  where
    go : (b : Bool) → (b || list_any (λ y. eqb y 10) w) ≡ false → (list_any (λ y. eqb y 10) w ≡ false → unbroken w ≡ true) → cond b false (unbroken w) ≡ true
    go true e ih = absurd (cc e)
    go false e ih = ih e

pub written-one-line : (w : List ℕ) → unbroken w ≡ true → written_lines w ≡ one_line w
unfolding written_lines beside_lines
written-one-line [] h = refl
written-one-line (c ∷ w) h = go (eqb c 10) h (λ e. written-one-line w e)
  where
    go :
        (b : Bool) → cond b false (unbroken w) ≡ true → (unbroken w ≡ true → written_lines w ≡ one_line w) →
        cond b (one_line [] ++ written_lines w) (beside_lines (one_line (c ∷ [])) (written_lines w)) ≡ one_line (c ∷ w)
    go true e ih = absurd (cc (e))
    go false e ih = ap (λ p. beside_lines (one_line (c ∷ [])) p) (ih e)

pub written-break : (w v : List ℕ) → Unbroken w → written_lines (w ++ (10 ∷ v)) ≡ one_line w ++ written_lines v
unfolding written_lines beside_lines
written-break [] v h = refl
written-break (c ∷ w) v h = rw (unbroken-head c w h) (ap (λ p. beside_lines (one_line (c ∷ [])) p) (written-break w v (unbroken-tail c w h)))

pub commented-lines-above : (p q : List Line) → commented_lines (p ++ q) ≡ commented_lines p ++ commented_lines q
unfolding commented_lines
commented-lines-above [] q = refl
commented-lines-above (l ∷ p) q = ap (λ x. record { depth = l.depth; bytes = note l.bytes } ∷ x) (commented-lines-above p q)

-- the text up to its first line break is a line
pub cut :
    (bs : List ℕ) (x : Bor (List ℕ) × Bor (List ℕ)) → IsSplitOnceResult 10 bs (Some x) → (bs ≡ x.0.now ++ (10 ∷ x.1.now)) × Unbroken x.0.now
cut bs x h =
    let p : (bs ≡ x.0.now ++ (10 ∷ x.1.now)) × ((i : ℕ) → i < length x.0.now → get_or x.0.now i 0 ≢ 10) = split_parts 10 bs (Some x) h (lit< tt)
    in (p.0, record { at = p.1 })

pub uncut : (bs : List ℕ) → IsSplitOnceResult 10 bs None → Unbroken bs
uncut bs h = record { at = split_parts 10 bs None h (lit< tt) }

-- the whole text

whole-line : (d : ℕ) (k : Draft) (w : List ℕ) → (j : Draft) × (word (next d (Unstopped k)) w ≡ Unstopped j) × (whole j ≡ whole k ++ (indent d w ++ (w ++ (10 ∷ []))))
unfolding whole word next
whole-line d k [] = (record { text = cond k.begun (k.text ++ 10 ∷ []) k.text; depth = d; fresh = true; begun = true }, refl, refl)
whole-line d k (c ∷ w) = (
  record { text = cond k.begun (k.text ++ 10 ∷ []) k.text ++ (margin (record { text = cond k.begun (k.text ++ 10 ∷ []) k.text; depth = d; fresh = true; begun = true }) ++ (c ∷ w)); depth = d; fresh = false; begun = true },
  refl,
  simp append_assoc,
)

-- lines hung on a draft print after it
pub whole-print : (k : Draft) (p : List Line) → (j : Draft) × (indented_lines 0 (Unstopped k) p ≡ Unstopped j) × (whole j ≡ whole k ++ print_lines p)
unfolding indented_lines print_lines
whole-print k [] = (k, refl, sym (append-nil (whole k)))
whole-print k (l ∷ p) =
    let a = whole-line l.depth k l.bytes in
    let b = whole-print a.0 p in
    let e : 0 + l.depth ≡ l.depth = omega arith in
    (b.0, ap (λ x. indented_lines 0 (word (next x (Unstopped k)) l.bytes) p) e ∙ (ap (λ x. indented_lines 0 x p) a.1 ∙ b.1), b.2 ∙ (ap (λ x. x ++ print_lines p) a.2 ∙ simp append_assoc))

-- an output at no depth: its text, and whether its last line is empty
abbrev pub flat : List ℕ → Bool → Draft
flat t f = record { text = t; depth = 0; fresh = f; begun = true }

no-margin : (t : List ℕ) (f : Bool) → margin (flat t f) ≡ []
no-margin t true = refl
no-margin t false = refl

-- at no depth a text is written as it is, its line breaks too
pub inline-flat : (t : List ℕ) (f : Bool) (w : List ℕ) → (g : Bool) × (inline_lines 0 (Unstopped (flat t f)) (written_lines w) ≡ Unstopped (flat (t ++ w) g))
unfolding inline_lines written_lines indented_lines word next
inline-flat t f [] = (f, ap (λ x. Unstopped (flat x f)) (sym (append-nil t)))
inline-flat t f (c ∷ w) = by_test (eqb c 10)
    (λ e. let h = inline-flat (t ++ (10 ∷ [])) true w in
    let c10 : 10 ≡ c = sym (eqb-true c 10 e) in
    let s : (t ++ (10 ∷ [])) ++ w ≡ t ++ (c ∷ w) = append_assoc t (10 ∷ []) w ∙ ap (λ x. t ++ (x ∷ w)) c10 in
    rw e (h.0, indented-flush 0 (Unstopped (flat t f)) (written_lines w) (Flush-written w) ∙ (h.1 ∙ ap (λ x. Unstopped (flat x h.0)) s)))
    (λ e. let h = inline-flat (t ++ (c ∷ [])) false w in
    let s : (t ++ (c ∷ [])) ++ w ≡ t ++ (c ∷ w) = append_assoc t (c ∷ []) w in
    let m : word (Unstopped (flat t f)) (c ∷ []) ≡ Unstopped (flat (t ++ (c ∷ [])) false) = ap (λ x. Unstopped (flat (t ++ (x ++ (c ∷ []))) false)) (no-margin t f) in
    rw e (h.0, inline-lines-beside 0 (Unstopped (flat t f)) (one_line (c ∷ [])) (written_lines w) ∙ (ap (λ x. inline_lines 0 x (written_lines w)) m ∙ (h.1 ∙ ap (λ x. Unstopped (flat x h.0)) s))))
