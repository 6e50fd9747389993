-- One turn of the loop.
use Rattle.std.proofs.Common.{◌≡◌, ◌<◌, List, [], ◌∷◌, ◌++◌, Bool, true, false, refl, sym, map, subst, arith, append_assoc, append-nil}
use Rattle.vast_literal.specs.Tokens.{Token}
use Rattle.vast_expressions.specs.Events.{Event}
use Rattle.vast_expressions.specs.Rows.{Item, Row, Stuck, Goes, Tells, done}
use Rattle.vast_expressions.specs.Internal.Fused.{front}
use Rattle.vast_expressions.specs.Internal.Steps.{DoesIt, DoesAll}
use Rattle.vast_expressions.specs.Internal.Items.{item_view}
use Rattle.vast_expressions.specs.declared.item.Item.{Item as Code}
use Rattle.vast_expressions.specs.Hearing.{HearsAll}
use Rattle.vast_expressions.specs.Internal.Ran.{Ran}
use Rattle.vast_expressions.proofs.Midway.{Midway, work}
use Rattle.vast_expressions.proofs.Determined.{moved}
use Rattle.vast_expressions.proofs.Fused.{Fuses, fuses, led_to, led_from, shorter}

heard_more : {A : Type 0} (hears : A → Event → A → Type 0) (a b c : A) (es : List Event) (e : Event) → HearsAll hears a es b → hears b e c → HearsAll hears a (es ++ e ∷ []) c
heard_more hears a b c [] e p q = (c, subst (λ v. hears v e c) (sym p) q, refl)
heard_more hears a b c (x ∷ es) e (d, p, r) q = (d, p, heard_more hears d b c es e r q)

begins : {A : Type 0} (hears : A → Event → A → Type 0) (is : List Item) (ts : List Token) (a : A) → Midway hears is ts a is ts a
begins hears is ts a = record { heard = []; told = refl; to = λ es fs us r. r; from = λ es fs us r. (es, refl, r) }

pub begins_at : {A : Type 0} (hears : A → Event → A → Type 0) (ts : List Token) (a : A) (i : Code) (stack : List Code) → stack ≡ [] → Midway hears (item_view i ∷ []) ts a (item_view i ∷ map item_view stack) ts a
begins_at hears ts a i stack e = subst (λ v. Midway hears (item_view i ∷ []) ts a (item_view i ∷ map item_view v) ts a) (sym e) (begins hears (item_view i ∷ []) ts a)

ended : {A : Type 0} (hears : A → Event → A → Type 0) (is : List Item) (ts left : List Token) (a b : A) → Midway hears is ts a [] left b → Ran hears is ts a true left b
ended hears is ts left a b m = (m.heard, simp append-nil at (m.to [] [] left done), m.told)

module _ {A : Type 0} (hears : A → Event → A → Type 0) (is : List Item) (ts : List Token) (a : A) where
  stuck : (is' new : List Item) (w : Row) (left rs us : List Token) (b c d : A) → Fuses is' left w → Midway hears is ts a is' left b → DoesIt hears w false new rs b c → Ran hears is ts a false us d
  stuck k new Stuck left rs us b c d f m w = λ es fs vs r. let x = m.from es fs vs r in f x.0 fs vs x.2
  stuck k new (Goes js vs) left rs us b c d f m w = let x = w.0 in absurd (cc x)
  stuck k new (Tells x js vs) left rs us b c d f m w = let y = w.0 in absurd (cc y)

  went_on : (k new : List Item) (w : Row) (left rs : List Token) (b c : A) → Fuses k left w → Midway hears is ts a k left b → DoesIt hears w true new rs b c → Midway hears is ts a new rs c
  went_on k new Stuck left rs b c f m w = absurd (cc w)
  went_on k new (Goes js vs) left rs b c (n, l) m (_, p, q, h) = record {
    heard = m.heard;
    told = subst (λ v. HearsAll hears a m.heard v) h m.told;
    to = λ es fs us r. m.to es fs us (led_to l (moved p q r));
    from = λ es fs us r. let x = m.from es fs us r in let y = led_from l x.2 in let x1 = x.1 in let y1 = y.1 in (y.0, cc (x1, y1), moved (sym p) (sym q) y.2);
  }
  went_on k new (Tells t js vs) left rs b c (n, l) m (_, p, q, h) = record {
    heard = m.heard ++ t ∷ [];
    told = heard_more hears a b c m.heard t m.told h;
    to = λ es fs us r. simp append_assoc (m.to (t ∷ es) fs us (led_to l (moved p q r)));
    from = λ es fs us r. let x = m.from es fs us r in let y = led_from l x.2 in let x1 = x.1 in let y1 = y.1 in (y.0, simp append_assoc (cc (x1, y1)), moved (sym p) (sym q) y.2);
  }

  pub stuck_at : (i : Code) (k new : List Code) (left rs us : List Token) (b c d : A) (s : Bool) → Midway hears is ts a (item_view i ∷ map item_view k) left b →
      DoesAll hears (front (item_view i)) s left k new rs b c → s ≡ false → Ran hears is ts a false us d
  stuck_at i k new left rs us b c d s m w e = stuck (item_view i ∷ map item_view k) (map item_view new) (front (item_view i) left (map item_view k)) left rs us b c d (fuses (item_view i) left (map item_view k)) m
      (subst (λ v. DoesIt hears (front (item_view i) left (map item_view k)) v (map item_view new) rs b c) e w)

  went_at : (i : Code) (k new : List Code) (left rs : List Token) (b c : A) (s : Bool) → Midway hears is ts a (item_view i ∷ map item_view k) left b →
      DoesAll hears (front (item_view i)) s left k new rs b c → s ≡ true → Midway hears is ts a (map item_view new) rs c
  went_at i k new left rs b c s m w e = went_on (item_view i ∷ map item_view k) (map item_view new) (front (item_view i) left (map item_view k)) left rs b c (fuses (item_view i) left (map item_view k)) m
      (subst (λ v. DoesIt hears (front (item_view i) left (map item_view k)) v (map item_view new) rs b c) e w)

  pub goes_on_at : (i j : Code) (k new rest : List Code) (left rs : List Token) (b c : A) (s : Bool) → Midway hears is ts a (item_view i ∷ map item_view k) left b →
      DoesAll hears (front (item_view i)) s left k new rs b c → s ≡ true → new ≡ (j ∷ rest) → Midway hears is ts a (item_view j ∷ map item_view rest) rs c
  goes_on_at i j k new rest left rs b c s m w e f = subst (λ v. Midway hears is ts a (map item_view v) rs c) f (went_at i k new left rs b c s m w e)

  pub ended_at : (i : Code) (k new : List Code) (left rs : List Token) (b c : A) (s : Bool) → Midway hears is ts a (item_view i ∷ map item_view k) left b →
      DoesAll hears (front (item_view i)) s left k new rs b c → s ≡ true → new ≡ [] → Ran hears is ts a true rs c
  ended_at i k new left rs b c s m w e f = ended hears is ts rs a c (subst (λ v. Midway hears is ts a (map item_view v) rs c) f (went_at i k new left rs b c s m w e))

shrinks : {A : Type 0} (hears : A → Event → A → Type 0) (k new : List Item) (w : Row) (left rs : List Token) (b c : A) → Fuses k left w → DoesIt hears w true new rs b c → work new rs < work k left
shrinks hears k new Stuck left rs b c f w = absurd (cc w)
shrinks hears k new (Goes js vs) left rs b c (n, l) (_, p, q, h) = subst (λ v. work v rs < work k left) (sym p) (subst (λ v. work js v < work k left) (sym q) (let t = shorter l in omega arith))
shrinks hears k new (Tells y js vs) left rs b c (n, l) (_, p, q, h) = subst (λ v. work v rs < work k left) (sym p) (subst (λ v. work js v < work k left) (sym q) (let t = shorter l in omega arith))

pub less_at : {A : Type 0} (hears : A → Event → A → Type 0) (i j : Code) (k new rest : List Code) (left rs : List Token) (b c : A) (s : Bool) → DoesAll hears (front (item_view i)) s left k new rs b c → s ≡ true → new ≡ (j ∷ rest) →
    work (item_view j ∷ map item_view rest) rs < work (item_view i ∷ map item_view k) left
less_at hears i j k new rest left rs b c s w e f = subst (λ v. work (map item_view v) rs < work (item_view i ∷ map item_view k) left) f
    (shrinks hears (item_view i ∷ map item_view k) (map item_view new) (front (item_view i) left (map item_view k)) left rs b c (fuses (item_view i) left (map item_view k))
    (subst (λ v. DoesIt hears (front (item_view i) left (map item_view k)) v (map item_view new) rs b c) e w))
