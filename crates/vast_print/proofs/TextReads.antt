-- Printed texts one after another: what they bring, unless they are refused.
use Rattle.std.proofs.Common.{◌≡◌, ℕ, List, [], ◌∷◌, ◌++◌, Bool, true, false, None, refl, sym, append_assoc, codes}
use Rattle.vast_literal.specs.Tokens.{Token, Mark}
use Rattle.vast_literal.specs.declared.token.Mark.TheVariants.{OpenParen, CloseParen, Colon, Apostrophe}
use Rattle.vast_literal.proofs.ExprTokens.{wrapped_tokens}
use Rattle.vast_literal.proofs.TokenReads.{stops, opens, Free, Divides, Reads}
use Rattle.vast_literal.proofs.Pieces.{free_reads, free_free, reads_end, as_reads, reads_reads, reads_sep, reads_closed, enclosed, open_paren, close_paren, colon_reads, paren, paren_reads, head_wrapped, head_free}
use Rattle.vast_print.specs.Printed.{Printed, plain_text, ◌⊕◌, wrapped}
use Rattle.vast_print.proofs.FaultLaws.{first_none, first_assoc, wrapped_fine}

-- Unless it is refused, the printed text brings the tokens so.
pub record Prints (Brings : List ℕ → List Token → Type 0) (p : Printed) (ts : List Token) : Type 0 where
  pub told : p.fault ≡ None → Brings p.text ts

-- a text that nothing goes on into, or none
pub record Rest (a : List ℕ) (ts : List Token) : Type 0 where
  pub reads : Reads a ts
  pub ends : (rest : List ℕ) → stops rest ≡ true → stops (a ++ rest) ≡ true

-- the same tokens
pub regrouped : {Brings : List ℕ → List Token → Type 0} {p : Printed} {ts us : List Token} → Prints Brings p ts → ts ≡ us → Prints Brings p us
regrouped f e = rw (sym e) f

-- texts are put together from the left, and read from the right
pub printed_assoc : (p q r : Printed) → (p ⊕ q) ⊕ r ≡ p ⊕ (q ⊕ r)
unfolding ◌⊕◌
printed_assoc p q r = rw (append_assoc, first_assoc p.fault q.fault r.fault) refl

pub leftward : {Brings : List ℕ → List Token → Type 0} (p q r : Printed) {ts : List Token} → Prints Brings (p ⊕ (q ⊕ r)) ts → Prints Brings ((p ⊕ q) ⊕ r) ts
leftward p q r f = rw (printed_assoc p q r) f

-- a text as it stands
pub stands : {Brings : List ℕ → List Token → Type 0} (w : List ℕ) {ts : List Token} → Brings w ts → Prints Brings (plain_text w) ts
unfolding plain_text
stands w f = record { told = λ e. f }

pub nothing_reads : Reads [] []
nothing_reads = record { at = λ rest h. refl }

pub nothing : Prints Free (plain_text []) []
nothing = stands _ (record { at = λ rest. refl })

pub rest_empty : Rest [] []
rest_empty = record { reads = nothing_reads; ends = λ rest h. h }

pub rest_none : Prints Rest (plain_text []) []
rest_none = stands _ rest_empty

-- p, which anything may follow, and q after it
pub after : {p q : Printed} {ts us : List Token} → Prints Free p ts → Prints Reads q us → Prints Reads (p ⊕ q) (ts ++ us)
unfolding ◌⊕◌
after f g = record { told = λ e. let (x, y) = first_none _ _ e in free_reads (f.told x) (g.told y) }

pub after_free : {p q : Printed} {ts us : List Token} → Prints Free p ts → Prints Free q us → Prints Free (p ⊕ q) (ts ++ us)
unfolding ◌⊕◌
after_free f g = record { told = λ e. let (x, y) = first_none _ _ e in free_free (f.told x) (g.told y) }

-- p, and a word that ends it
pub ended_by : {p : Printed} {w : List ℕ} {ts us : List Token} → Prints Reads p ts → Divides w us → Prints Free (p ⊕ plain_text w) (ts ++ us)
unfolding ◌⊕◌ plain_text
ended_by f g = record { told = λ e. reads_end (f.told ((first_none _ _ e).0)) g }

pub closed : {p : Printed} {w : List ℕ} {ts us : List Token} → Prints Reads p ts → Divides w us → Prints Reads (p ⊕ plain_text w) (ts ++ us)
closed f g = record { told = λ e. as_reads ((ended_by f g).told e) }

-- p and q, parted by a word
pub parted : {p q : Printed} {w : List ℕ} {ts us vs : List Token} → Prints Reads p ts → Divides w us → Prints Reads q vs → Prints Reads (p ⊕ (plain_text w ⊕ q)) (ts ++ (us ++ vs))
unfolding ◌⊕◌ plain_text
parted f g h = record { told = λ e. let (x, y) = first_none _ _ e in reads_sep (f.told x) g (h.told y) }

-- the same of q that anything may follow
pub parted_free : {p q : Printed} {w : List ℕ} {ts us vs : List Token} → Prints Reads p ts → Divides w us → Prints Free q vs → Prints Free (p ⊕ (plain_text w ⊕ q)) (ts ++ (us ++ vs))
parted_free {p = p} {q = q} {w = w} {ts = ts} {us = us} {vs = vs} f g h = rw (← printed_assoc p (plain_text w) q, ← append_assoc ts us vs) (after_free (ended_by f g) h)

-- p, and q between two words
pub enclosing : {p q : Printed} {o c : List ℕ} {ts os us cs : List Token} → Prints Reads p ts → Divides o os → Prints Reads q us → Divides c cs → Prints Reads (p ⊕ (plain_text o ⊕ (q ⊕ plain_text c))) (ts ++ (os ++ (us ++ cs)))
unfolding ◌⊕◌ plain_text
enclosing {q = q} f g h k = record { told = λ e. let (x, y) = first_none _ _ e in reads_closed (f.told x) g (h.told ((first_none q.fault None y).0)) k }

-- parted by a colon, which the first byte of q makes no longer
pub parted_by_colon : {p q : Printed} {ts us : List Token} → Prints Reads p ts → opens false q.text ≡ true → Prints Reads q us → Prints Reads (p ⊕ (plain_text (codes ":") ⊕ q)) (ts ++ (Mark Colon ∷ us))
unfolding ◌⊕◌ plain_text
parted_by_colon {q = q} f o g = record { told = λ e. let (x, y) = first_none _ _ e in reads_reads (f.told x) (colon_reads q.text o (g.told y)) (λ rest h. refl) }

-- p, and the rest of a list
pub goes_on : {p q : Printed} {ts us : List Token} → Prints Reads p ts → Prints Rest q us → Prints Reads (p ⊕ q) (ts ++ us)
unfolding ◌⊕◌
goes_on f g = record { told = λ e. let (x, y) = first_none _ _ e in let m = g.told y in reads_reads (f.told x) m.reads m.ends }

pub rest_more : {p q : Printed} {o : List ℕ} {os ts us : List Token} → Divides o os → Prints Reads p ts → Prints Rest q us → Prints Rest (plain_text o ⊕ p ⊕ q) (os ++ (ts ++ us))
unfolding ◌⊕◌ plain_text
rest_more {p} {q} {o} f g m = record {
  told = λ e. let (x, y) = first_none _ _ e in let r = m.told y in
      record { reads = rw append_assoc (free_reads f.free (reads_reads (g.told x) r.reads r.ends)); ends = λ rest h. rw (append_assoc, append_assoc) (f.stop (p.text ++ (q.text ++ rest))) };
}

pub in_parentheses : {p : Printed} {ts : List Token} → Prints Reads p ts → Prints Rest (plain_text (codes "(") ⊕ p ⊕ plain_text (codes ")")) (Mark OpenParen ∷ (ts ++ (Mark CloseParen ∷ [])))
unfolding ◌⊕◌ plain_text
in_parentheses {p = p} f = record { told = λ e. let d = enclosed open_paren (f.told ((first_none p.fault None e).0)) close_paren in record { reads = as_reads d.free; ends = λ rest h. d.stop rest } }

wrapped_text : (b : Bool) (p : Printed) → (wrapped b p).text ≡ paren b p.text
unfolding wrapped ◌⊕◌ plain_text
wrapped_text true p = refl
wrapped_text false p = refl

pub bracketed : (b : Bool) {p : Printed} {ts : List Token} → Prints Reads p ts → Prints Reads (wrapped b p) (wrapped_tokens b ts)
bracketed b {p = p} f = record { told = λ e. rw (wrapped_text b p) (paren_reads b (f.told (wrapped_fine b p e))) }

pub head_reads : (b c : Bool) (p : Printed) {ts : List Token} → b ≡ head_wrapped p.text → c ≡ head_wrapped p.text → Reads p.text ts → Free ((wrapped b p).text ++ (39 ∷ 40 ∷ [])) (wrapped_tokens c ts ++ (Mark Apostrophe ∷ Mark OpenParen ∷ []))
head_reads b c p d e f = rw (wrapped_text b p, d, e) (head_free p.text f)
