-- Products of numbers from 1 on.
use Rattle.std.proofs.Common.{◌≡◌, zero, suc, ℕ, ◌+◌, ◌*◌, ◌<◌, ◌^◌, ℤ, pos, negsuc, ◌*ℤ◌, ◌≤ℤ◌, FitsSigned, w64, List, [], ◌∷◌, ◌++◌, length, get_or, drop, drop-cons, add-one, All, refl, sym, ap, ◌∙◌, arith}
use Rattle.std.proofs.lemmas.Int.{ints, by_lt_z, fits_signed_from_abs}
use Rattle.std.proofs.Math.IntN.{pos-*ℤ-pos, *ℤ_comm}
use Rattle.std.proofs.Math.Nat.{mul_assoc, mul_comm, suc-mul}
use Rattle.std.specs.Prelude.{Option, Some, None, IfSome}
use Rattle.vast_literal.specs.Tree.{TypeTree, PackedTree, UnpackedTree, Exprs, NoExprs, MoreExprs}
use Rattle.vast_literal.specs.Shape.{literal_value}
use Rattle.vast_core.specs.Types.{EachUsable, AreSizes, TypeWellFormed}
use Rattle.vast_core.specs.Nodes.{Nodes, Dimension, size_in, sizes_in}
use Rattle.vast_core.specs.BitCount.{product, value_or_one, size_values, dimensions_of}
use Rattle.vast_core.proofs.Lists.{All-head, All-tail, All-cons}

pub ≤ℤ_trans : (a b c : ℤ) → a ≤ℤ b → b ≤ℤ c → a ≤ℤ c
≤ℤ_trans a b c h k = omega (arith, ints)

-- A number from 1 on is a successor.
positive : (z : ℤ) → pos 1 ≤ℤ z → (m : ℕ) × (z ≡ pos (suc m))
positive (pos zero) h = absurd (omega (arith, ints))
positive (pos (suc m)) h = (m, refl)
positive (negsuc m) h = absurd (omega (arith, ints))

nat-at-least : (m n : ℕ) → pos (suc n) ≤ℤ pos (suc m * suc n)
nat-at-least m n = rw (suc-mul m (suc n)) (omega (arith, ints))

-- A multiple is no less.
pub at-least : (a b : ℤ) → pos 1 ≤ℤ a → pos 1 ≤ℤ b → b ≤ℤ (a *ℤ b)
at-least a b h k =
    let p = positive a h in
    let q = positive b k in
    rw (p.1, q.1, pos-*ℤ-pos (suc p.0) (suc q.0)) (nat-at-least p.0 q.0)

pub positive-product : (a b : ℤ) → pos 1 ≤ℤ a → pos 1 ≤ℤ b → pos 1 ≤ℤ (a *ℤ b)
positive-product a b h k = let m : b ≤ℤ (a *ℤ b) = at-least a b h k in omega (arith, ints)

nat-regroup : (p t d : ℕ) → p * (t * d) ≡ d * p * t
nat-regroup p t d = mul_comm p (t * d) ∙ (mul_assoc t d p ∙ mul_comm t (d * p))

regroup-pos : (p t d : ℕ) → pos p *ℤ (pos t *ℤ pos d) ≡ (pos d *ℤ pos p) *ℤ pos t
regroup-pos p t d =
    ap (λ (x : ℤ). pos p *ℤ x) (pos-*ℤ-pos t d) ∙ (pos-*ℤ-pos p (t * d) ∙ (ap pos (nat-regroup p t d) ∙ (sym (pos-*ℤ-pos (d * p) t) ∙ ap (λ (x : ℤ). x *ℤ pos t) (sym (pos-*ℤ-pos d p)))))

-- The order of three factors.
pub regroup : (p t d : ℤ) → pos 1 ≤ℤ p → pos 1 ≤ℤ t → pos 1 ≤ℤ d → p *ℤ (t *ℤ d) ≡ (d *ℤ p) *ℤ t
regroup p t d h k l =
    let x = positive p h in
    let y = positive t k in
    let z = positive d l in
    rw (x.1, y.1, z.1) (regroup-pos (suc x.0) (suc y.0) (suc z.0))

-- What 64 bits don't hold.
pub too-large : (a : ℤ) → pos 1 ≤ℤ a → (FitsSigned w64 a → ⊥) → pos (2 ^ 63) ≤ℤ a
too-large a h unfit =
    let p = positive a h in
    rw p.1 (by_lt_z (pos (suc p.0)) (pos (2 ^ 63))
    (λ below. absurd (unfit (rw p.1 (fits_signed_from_abs w64 (pos (suc p.0)) (omega (arith, ints))))))
    (λ above. above))

nat-one-times : (n : ℕ) → 1 * n ≡ n
nat-one-times n = omega arith

pub one-times : (m : ℤ) → pos 1 ≤ℤ m → pos 1 *ℤ m ≡ m
one-times m h =
    let p = positive m h in
    rw p.1 (pos-*ℤ-pos 1 (suc p.0) ∙ ap pos (nat-one-times (suc p.0)))

pub product-positive : (ds : List ℤ) → All (λ d. pos 1 ≤ℤ d) ds → pos 1 ≤ℤ product ds
product-positive [] h = omega (arith, ints)
product-positive (d ∷ ds) h =
    let P : ℤ → Type 0 = λ x. pos 1 ≤ℤ x in
    positive-product d (product ds) (All-head P d ds h) (product-positive ds (All-tail P d ds h))

pub All-drop : {A : Type 0} (P : A → Type 0) (xs : List A) (i : ℕ) → All P xs → All P (drop i xs)
All-drop P xs zero h = h
All-drop P [] (suc i) h = h
All-drop P (x ∷ xs) (suc i) h = All-drop P xs i (All-tail P x xs h)

pub All-append : {A : Type 0} (P : A → Type 0) (xs ys : List A) → All P xs → All P ys → All P (xs ++ ys)
All-append P [] ys h k = k
All-append P (x ∷ xs) ys h k = All-cons P x (xs ++ ys) (All-head P x xs h) (All-append P xs ys (All-tail P x xs h) k)

value-positive : (value : Option ℤ) → IfSome value (λ v. pos 1 ≤ℤ v) → pos 1 ≤ℤ value_or_one value
value-positive None h = omega (arith, ints)
value-positive (Some v) h = h

values-positive : (sizes : Exprs) → EachUsable sizes → All (λ d. pos 1 ≤ℤ d) (size_values sizes)
values-positive NoExprs h = λ k d below. absurd (omega arith)
values-positive (MoreExprs size sizes) h = All-cons (λ d. pos 1 ≤ℤ d) (value_or_one (literal_value size)) (size_values sizes) (value-positive (literal_value size) h.0) (values-positive sizes h.1)

pub sizes-positive : (sizes : Exprs) → AreSizes sizes → All (λ d. pos 1 ≤ℤ d) (size_values sizes)
sizes-positive NoExprs h = absurd h
sizes-positive (MoreExprs size sizes) h = values-positive (MoreExprs size sizes) h

-- The values of an array's dimensions, one by one.
pub values-length : (b : Nodes) (ds : List Dimension) → length (size_values (sizes_in b ds)) ≡ length ds
values-length b [] = refl
values-length b (d ∷ ds) = ap suc (values-length b ds)

pub value-at : (b : Nodes) (ds : List Dimension) (i : ℕ) (d : Dimension) → i < length ds → value_or_one (literal_value (size_in b (get_or ds i d))) ≡ get_or (size_values (sizes_in b ds)) i (pos 0)
value-at b [] i d below = absurd (omega arith)
value-at b (x ∷ ds) zero d below = refl
value-at b (x ∷ ds) (suc i) d below = value-at b ds i d (omega arith)

pub dimensions-positive : (t : TypeTree) → TypeWellFormed t → All (λ d. pos 1 ≤ℤ d) (dimensions_of t)
dimensions-positive (PackedTree element ds) h = All-append (λ d. pos 1 ≤ℤ d) (size_values ds) (dimensions_of element) (sizes-positive ds h.0.1) (dimensions-positive element h.1)
dimensions-positive (UnpackedTree element ds) h = All-append (λ d. pos 1 ≤ℤ d) (size_values ds) (dimensions_of element) (sizes-positive ds h.0) (dimensions-positive element h.1)
dimensions-positive _ h = λ k d below. absurd (omega arith)

-- A product of all numbers of two lists.
pub product-append : (ds es : List ℤ) → All (λ d. pos 1 ≤ℤ d) ds → All (λ d. pos 1 ≤ℤ d) es → product (ds ++ es) ≡ product ds *ℤ product es
product-append [] es h k = sym (one-times (product es) (product-positive es k))
product-append (d ∷ ds) es h k =
    let P : ℤ → Type 0 = λ x. pos 1 ≤ℤ x in
    let tail : All (λ x. pos 1 ≤ℤ x) ds = All-tail P d ds h in
    let p : pos 1 ≤ℤ product ds = product-positive ds tail in
    let q : pos 1 ≤ℤ product es = product-positive es k in
    let one : pos 1 ≤ℤ d = All-head P d ds h in
    ap (λ (x : ℤ). d *ℤ x) (product-append ds es tail k) ∙ (ap (λ (x : ℤ). d *ℤ x) (*ℤ_comm (product ds) (product es)) ∙ (regroup d (product es) (product ds) one q p ∙ ap (λ (x : ℤ). x *ℤ product es) (*ℤ_comm (product ds) d)))

-- A step of the loop over dimensions: what is left times what there is stays the same.
pub step-kept :
    (d total next whole : ℤ) (ds : List ℤ) → pos 1 ≤ℤ d → pos 1 ≤ℤ total → All (λ x. pos 1 ≤ℤ x) ds →
    product (d ∷ ds) *ℤ total ≡ whole → next ≡ total *ℤ d → product ds *ℤ next ≡ whole
step-kept d total next whole ds one some each same is =
    rw is (regroup (product ds) total d (product-positive ds each) some one ∙ same)

pub step-over :
    (d total whole : ℤ) (ds : List ℤ) → pos 1 ≤ℤ d → pos 1 ≤ℤ total → All (λ x. pos 1 ≤ℤ x) ds →
    product (d ∷ ds) *ℤ total ≡ whole → (FitsSigned w64 (total *ℤ d) → ⊥) → pos (2 ^ 63) ≤ℤ whole
step-over d total whole ds one some each same unfit =
    let left : pos 1 ≤ℤ product ds = product-positive ds each in
    let large : pos (2 ^ 63) ≤ℤ (total *ℤ d) = too-large (total *ℤ d) (positive-product total d some one) unfit in
    let more : (total *ℤ d) ≤ℤ (product ds *ℤ (total *ℤ d)) = at-least (product ds) (total *ℤ d) left (positive-product total d some one) in
    let whole-is : product ds *ℤ (total *ℤ d) ≡ whole = step-kept d total (total *ℤ d) whole ds one some each same refl in
    ≤ℤ_trans _ _ _ large (rw whole-is at more)

All-at : (ds : List ℤ) (i : ℕ) (d : ℤ) → i < length ds → All (λ x. pos 1 ≤ℤ x) ds → d ≡ get_or ds i (pos 0) → pos 1 ≤ℤ d
All-at ds i d below each is = rw is (each i (pos 0) below)

drop-at : (ds : List ℤ) (i : ℕ) (d : ℤ) → i < length ds → d ≡ get_or ds i (pos 0) → drop i ds ≡ d ∷ drop (i + 1) ds
drop-at ds i d below is = rw (is, add-one) (drop-cons ds i (pos 0) below)

pub dimension-kept :
    (ds : List ℤ) (i : ℕ) (d total next whole : ℤ) → i < length ds → All (λ x. pos 1 ≤ℤ x) ds → d ≡ get_or ds i (pos 0) → pos 1 ≤ℤ total →
    product (drop i ds) *ℤ total ≡ whole → next ≡ total *ℤ d → (pos 1 ≤ℤ next) × (product (drop (i + 1) ds) *ℤ next ≡ whole)
dimension-kept ds i d total next whole below each at some same is =
    let one : pos 1 ≤ℤ d = All-at ds i d below each at in (
      rw is (positive-product total d some one),
      step-kept d total next whole (drop (i + 1) ds) one some (All-drop (λ x. pos 1 ≤ℤ x) ds (i + 1) each)
          (ap (λ (xs : List ℤ). product xs *ℤ total) (sym (drop-at ds i d below at)) ∙ same) is,
    )

pub dimension-over :
    (ds : List ℤ) (i : ℕ) (d total whole asked : ℤ) → i < length ds → All (λ x. pos 1 ≤ℤ x) ds → d ≡ get_or ds i (pos 0) → pos 1 ≤ℤ total →
    product (drop i ds) *ℤ total ≡ whole → whole ≡ asked → (FitsSigned w64 (total *ℤ d) → ⊥) → pos (2 ^ 63) ≤ℤ asked
dimension-over ds i d total whole asked below each at some same is unfit =
    step-over d total asked (drop (i + 1) ds) (All-at ds i d below each at) some (All-drop (λ x. pos 1 ≤ℤ x) ds (i + 1) each)
    (ap (λ (xs : List ℤ). product xs *ℤ total) (sym (drop-at ds i d below at)) ∙ (same ∙ is)) unfit
