-- What a stack begins with, item by item.
use Rattle.std.proofs.Common.{◌≡◌, ℕ, suc, zero, ◌-◌, ◌<◌, ◌≤◌, List, [], ◌∷◌, length, reverse, take, get_or, true, false, refl, sym, ap, ◌∙◌, ◌⊎◌, inl, inr, ◌↔◌, arith}
use Rattle.std.specs.Int.Bits.{bit_or, or_zero_l, or_zero_r}
use Rattle.std.proofs.Math.Seq.{take-suc, take-length}
use Rattle.vast_rows.specs.declared.grammar.Item.{Item}
use Rattle.vast_rows.specs.declared.grammar.Item.TheVariants.{Token, Rule, Phrase}
use Rattle.vast_rows.specs.Facts.{Fact}
use Rattle.vast_rows.specs.Internal.Firsts.{firsts_in, first_kinds, is_empty, own_kinds}
use Rattle.vast_rows.specs.Internal.Predictive.{may_be_empty}
use Rattle.vast_rows.specs.Kinds.{has}
use Rattle.vast_rows.proofs.Sets.{has_or, or_first, or_second}
use Rattle.vast_rows.proofs.Stacked.{reversed_more}

-- What a list of kinds says of a rule.
pub known_begins : (ks : List ℕ) (r k : ℕ) → r < length ks → k ≡ get_or ks r k → k ≡ firsts_in ks r
known_begins [] r k h e = absurd (let z : ⊥ = omega arith in z)
known_begins (x ∷ ks) zero k h e = e
known_begins (x ∷ ks) (suc r) k h e = known_begins ks r k (omega arith) e

pub unknown_begins : (ks : List ℕ) (r : ℕ) → length ks ≤ r → 0 ≡ firsts_in ks r
unknown_begins [] r h = refl
unknown_begins (x ∷ ks) zero h = absurd (let z : ⊥ = omega arith in z)
unknown_begins (x ∷ ks) (suc r) h = unknown_begins ks r (omega arith)

-- The kinds of a stack, where its first item is empty and where it is not.
kinds_past : (begin : ℕ → ℕ) (facts : ℕ → Fact) (i : Item) (s : List Item) → is_empty facts i ≡ true → first_kinds begin facts (i ∷ s) ≡ bit_or (own_kinds begin i) (first_kinds begin facts s)
kinds_past begin facts (Token k) s e = absurd (cc e)
kinds_past begin facts (Phrase p) s e = absurd (cc e)
kinds_past begin facts (Rule r) s e = rw e refl

kinds_there : (begin : ℕ → ℕ) (facts : ℕ → Fact) (i : Item) (s : List Item) → is_empty facts i ≡ false → first_kinds begin facts (i ∷ s) ≡ own_kinds begin i
kinds_there begin facts (Token k) s e = refl
kinds_there begin facts (Phrase p) s e = refl
kinds_there begin facts (Rule r) s e = rw e (or_zero_r (begin r))

empty_past : (facts : ℕ → Fact) (i : Item) (s : List Item) → is_empty facts i ≡ true → may_be_empty facts (i ∷ s) ≡ may_be_empty facts s
empty_past facts (Token k) s e = absurd (cc e)
empty_past facts (Phrase p) s e = absurd (cc e)
empty_past facts (Rule r) s e = rw e refl

empty_there : (facts : ℕ → Fact) (i : Item) (s : List Item) → is_empty facts i ≡ false → may_be_empty facts (i ∷ s) ≡ false
empty_there facts (Token k) s e = refl
empty_there facts (Phrase p) s e = refl
empty_there facts (Rule r) s e = rw e refl

-- The items of a stack up to a place, from the top.
abbrev pub up_to : List Item → ℕ → List Item
up_to items at = reverse (take at items)

one_more : (items : List Item) (at : ℕ) (d : Item) → 0 < at → at ≤ length items → up_to items at ≡ (get_or items (at - 1) d ∷ up_to items (at - 1))
one_more items zero d h l = absurd (let z : ⊥ = omega (arith, h) in z)
one_more items (suc at) d h l =
    let z : suc at - 1 ≡ at = omega arith in
    rw z (ap reverse (take-suc items at d (omega (arith, l))) ∙ reversed_more (take at items) (get_or items at d))

-- What was found of the items above a place, and what those up to it begin with.
pub record Found (begin : ℕ → ℕ) (facts : ℕ → Fact) (items : List Item) (at kinds : ℕ) (stack : List Item) : Type 0 where
  pub there : at ≤ length items
  pub kinds_are : (k : ℕ) → (has (bit_or kinds (first_kinds begin facts (up_to items at))) k ≡ true) ↔ (has (first_kinds begin facts stack) k ≡ true)
  pub ends_are : may_be_empty facts (up_to items at) ≡ may_be_empty facts stack

or_moves : (x y z k : ℕ) → (has (bit_or (bit_or x y) z) k ≡ true) ↔ (has (bit_or x (bit_or y z)) k ≡ true)
or_moves x y z k = (λ h. there (has_or (bit_or x y) z k h), λ h. back (has_or x (bit_or y z) k h))
  where
    inner : (has x k ≡ true) ⊎ (has y k ≡ true) → has (bit_or x (bit_or y z)) k ≡ true
    inner (inl a) = or_first x (bit_or y z) k a
    inner (inr a) = or_second x (bit_or y z) k (or_first y z k a)

    there : (has (bit_or x y) k ≡ true) ⊎ (has z k ≡ true) → has (bit_or x (bit_or y z)) k ≡ true
    there (inl a) = inner (has_or x y k a)
    there (inr a) = or_second x (bit_or y z) k (or_second y z k a)

    outer : (has y k ≡ true) ⊎ (has z k ≡ true) → has (bit_or (bit_or x y) z) k ≡ true
    outer (inl a) = or_first (bit_or x y) z k (or_second x y k a)
    outer (inr a) = or_second (bit_or x y) z k a

    back : (has x k ≡ true) ⊎ (has (bit_or y z) k ≡ true) → has (bit_or (bit_or x y) z) k ≡ true
    back (inl a) = or_first (bit_or x y) z k (or_first x y k a)
    back (inr a) = outer (has_or y z k a)

module _ (begin : ℕ → ℕ) (facts : ℕ → Fact) (items : List Item) (stack : List Item) where
  pub found_first : reverse items ≡ stack → Found begin facts items (length items) 0 stack
  found_first e =
      let z : up_to items (length items) ≡ stack = ap reverse (take-length items) ∙ e in
      record {
        there = omega arith;
        kinds_are = λ k. rw (z, or_zero_l (first_kinds begin facts stack)) (λ h. h, λ h. h);
        ends_are = ap (may_be_empty facts) z;
      }

  pub found_more : (at kinds : ℕ) (d : Item) → Found begin facts items at kinds stack → 0 < at → is_empty facts (get_or items (at - 1) d) ≡ true →
      Found begin facts items (at - 1) (bit_or kinds (own_kinds begin (get_or items (at - 1) d))) stack
  found_more at kinds d f h e =
      let i = get_or items (at - 1) d in let s = up_to items (at - 1) in
      let o : up_to items at ≡ (i ∷ s) = one_more items at d h f.there in
      let w : first_kinds begin facts (up_to items at) ≡ bit_or (own_kinds begin i) (first_kinds begin facts s) = ap (first_kinds begin facts) o ∙ kinds_past begin facts i s e in
      record {
        there = let l = f.there in omega (arith, l);
        kinds_are = λ k. let g = f.kinds_are k in let m = or_moves kinds (own_kinds begin i) (first_kinds begin facts s) k in (λ x. g.0 (rw w (m.0 x)), λ x. m.1 (rw w at (g.1 x)));
        ends_are = sym (ap (may_be_empty facts) o ∙ empty_past facts i s e) ∙ f.ends_are;
      }

  pub found_there : (at kinds : ℕ) (d : Item) → Found begin facts items at kinds stack → 0 < at → is_empty facts (get_or items (at - 1) d) ≡ false →
      ((k : ℕ) → (has (bit_or kinds (own_kinds begin (get_or items (at - 1) d))) k ≡ true) ↔ (has (first_kinds begin facts stack) k ≡ true)) × (false ≡ may_be_empty facts stack)
  found_there at kinds d f h e =
      let i = get_or items (at - 1) d in let s = up_to items (at - 1) in
      let o : up_to items at ≡ (i ∷ s) = one_more items at d h f.there in
      let w : first_kinds begin facts (up_to items at) ≡ own_kinds begin i = ap (first_kinds begin facts) o ∙ kinds_there begin facts i s e in
      (λ k. let g = f.kinds_are k in (λ x. g.0 (rw w x), λ x. rw w at (g.1 x)), sym (ap (may_be_empty facts) o ∙ empty_there facts i s e) ∙ f.ends_are)

  pub found_all : (at kinds : ℕ) → Found begin facts items at kinds stack → at ≤ 0 →
      ((k : ℕ) → (has kinds k ≡ true) ↔ (has (first_kinds begin facts stack) k ≡ true)) × (true ≡ may_be_empty facts stack)
  found_all zero kinds f h = (λ k. let g = f.kinds_are k in (λ x. g.0 (rw (or_zero_r kinds) x), λ x. rw (or_zero_r kinds) at (g.1 x)), f.ends_are)
  found_all (suc at) kinds f h = absurd (let z : ⊥ = omega (arith, h) in z)
