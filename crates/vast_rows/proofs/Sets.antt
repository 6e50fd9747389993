-- Sets of kinds.
use Rattle.std.proofs.Common.{◌≡◌, ℕ, ◌<◌, ◌/◌, ◌^◌, Bool, true, false, ◌&&◌, min, max, nat_eq, ◌≢◌, ◌⊎◌, inl, inr, Some, refl, sym, ap, ◌∙◌, arith}
use Rattle.std.specs.Int.{bit_at}
use Rattle.std.specs.Int.Bits.{bit_and, bit_or}
use Rattle.std.proofs.lemmas.Bool.{eqb-true, eqb-false, eq-eqb}
use Rattle.std.proofs.lemmas.Nat.{and_assoc, and_comm}
use Rattle.std.proofs.lemmas.Nat.Bits.{bit_at_and, bit_at_or, bit_at-lt, bit_at-zero, bit_at-pow_same, bit_at-pow_other, shr_and_one}
use Rattle.vast_rows.specs.Kinds.{has}
use Rattle.vast_rows.specs.Internal.Sets.{within, none_shared, only}

pub both : (a b : Bool) → (a && b) ≡ true → (a ≡ true) × (b ≡ true)
both true b h = (refl, h)
both false b h = absurd (cc)

pub some_one : {A : Type 0} (a b : A) → Some a ≡ Some b → a ≡ b
some_one a b e = cc

pub has_within : (x y k : ℕ) → within x y ≡ true → has x k ≡ true → has y k ≡ true
has_within x y k w h =
    let a : bit_and x y ≡ x = eqb-true (bit_and x y) x w in
    let b : bit_at x k ≡ 1 = eqb-true (bit_at x k) 1 h in
    let c : bit_at x k ≡ min (bit_at x k) (bit_at y k) = ap (λ (v : ℕ). bit_at v k) (sym a) ∙ bit_at_and x y k in
    let l : bit_at y k < 2 = bit_at-lt y k in
    eq-eqb (bit_at y k) 1 (omega (arith, b, c, l))

pub within_trans : (x y z : ℕ) → within x y ≡ true → within y z ≡ true → within x z ≡ true
within_trans x y z v w =
    let a : bit_and x y ≡ x = eqb-true (bit_and x y) x v in
    let b : bit_and y z ≡ y = eqb-true (bit_and y z) y w in
    eq-eqb (bit_and x z) x (ap (λ (u : ℕ). bit_and u z) (sym a) ∙ (and_assoc z x y ∙ (ap (bit_and x) b ∙ a)))

pub has_only : (j k : ℕ) → j ≡ k → has (only j) k ≡ true
has_only j k e = rw (← e) (eq-eqb (bit_at (only j) j) 1 (bit_at-pow_same j))

pub unshared : (x y k : ℕ) → none_shared x y ≡ true → has x k ≡ true → has y k ≡ true → ⊥
unshared x y k n a b =
    let z : bit_and x y ≡ 0 = eqb-true (bit_and x y) 0 n in
    let c : bit_at x k ≡ 1 = eqb-true (bit_at x k) 1 a in
    let d : bit_at y k ≡ 1 = eqb-true (bit_at y k) 1 b in
    let e : bit_at 0 k ≡ min (bit_at x k) (bit_at y k) = ap (λ (v : ℕ). bit_at v k) (sym z) ∙ bit_at_and x y k in
    let f : bit_at 0 k ≡ 0 = bit_at-zero k in
    omega (arith, c, d, e, f)

-- In either of two sets, and in the set of one.
pub has_or : (x y k : ℕ) → has (bit_or x y) k ≡ true → (has x k ≡ true) ⊎ (has y k ≡ true)
has_or x y k h =
    let a : bit_at (bit_or x y) k ≡ 1 = eqb-true (bit_at (bit_or x y) k) 1 h in
    let b : bit_at (bit_or x y) k ≡ max (bit_at x k) (bit_at y k) = bit_at_or x y k in
    let l : bit_at x k < 2 = bit_at-lt x k in let m : bit_at y k < 2 = bit_at-lt y k in
    go (has x k) refl (sym b ∙ a) l m
  where
    go : (d : Bool) → has x k ≡ d → max (bit_at x k) (bit_at y k) ≡ 1 → bit_at x k < 2 → bit_at y k < 2 → (has x k ≡ true) ⊎ (has y k ≡ true)
    go true e c l m = inl e
    go false e c l m = let n : bit_at x k ≢ 1 = eqb-false (bit_at x k) 1 e in inr (eq-eqb (bit_at y k) 1 (omega (arith, c, l, m, n)))

pub or_first : (x y k : ℕ) → has x k ≡ true → has (bit_or x y) k ≡ true
or_first x y k h =
    let a : bit_at x k ≡ 1 = eqb-true (bit_at x k) 1 h in
    let m : bit_at y k < 2 = bit_at-lt y k in
    eq-eqb (bit_at (bit_or x y) k) 1 (bit_at_or x y k ∙ omega (arith, a, m))

pub or_second : (x y k : ℕ) → has y k ≡ true → has (bit_or x y) k ≡ true
or_second x y k h =
    let a : bit_at y k ≡ 1 = eqb-true (bit_at y k) 1 h in
    let m : bit_at x k < 2 = bit_at-lt x k in
    eq-eqb (bit_at (bit_or x y) k) 1 (bit_at_or x y k ∙ omega (arith, a, m))

pub only_has : (j k : ℕ) → has (only j) k ≡ true → j ≡ k
only_has j k h = go (nat_eq k j) refl
  where
    go : (b : Bool) → nat_eq k j ≡ b → j ≡ k
    go true e = sym (eqb-true k j e)
    go false e =
        let a : bit_at (only j) k ≡ 1 = eqb-true (bit_at (only j) k) 1 h in
        let z : bit_at (only j) k ≡ 0 = bit_at-pow_other j k (eqb-false k j e) in
        absurd (let w : ⊥ = omega (arith, a, z) in w)

pub no_kind : (k : ℕ) → has 0 k ≡ true → ⊥
no_kind k h =
    let a : bit_at 0 k ≡ 1 = eqb-true (bit_at 0 k) 1 h in
    let z : bit_at 0 k ≡ 0 = bit_at-zero k in omega (arith, a, z)

-- What is after the last token.
pub end_within : (x : ℕ) → has x 0 ≡ true → within (only 0) x ≡ true
end_within x h =
    let a : bit_at x 0 ≡ 1 = eqb-true (bit_at x 0) 1 h in
    let n : x / 2 ^ 0 ≡ x = omega arith in
    let b : bit_and x 1 ≡ bit_at x 0 = ap (λ (v : ℕ). bit_and v 1) (sym n) ∙ shr_and_one x 0 in
    eq-eqb (bit_and (only 0) x) (only 0) (and_comm 1 x ∙ (b ∙ a))
