-- Arrays of types, and how counting the bits goes on from an array to its elements.
use Rattle.std.proofs.Common.{◌≡◌, ◌<◌, ◌^◌, ℤ, pos, ◌*ℤ◌, ◌≤ℤ◌, List, [], ◌++◌, Some, All, refl, sym, ap, ◌∙◌}
use Rattle.std.proofs.Math.IntN.{*ℤ_comm}
use Rattle.vast_literal.specs.Tree.{TypeTree, PackedTree, UnpackedTree, NoExpr}
use Rattle.vast_core.specs.Handles.{VastDataType, type_rank}
use Rattle.vast_core.specs.Types.{TypeWellFormed}
use Rattle.vast_literal.specs.Shape.{base_of}
use Rattle.vast_core.specs.Nodes.{Dimension}
use Rattle.vast_core.specs.Bench.{Bench, OwnsType, OwnsDimension, type_of}
use Rattle.vast_core.specs.BitCount.{product, dimensions_of, base_bits, unknown_dimension, bit_count, Exceeds}
use Rattle.vast_core.specs.Internal.BitCount.{IsArrayOf, sizes_of}
use Rattle.vast_core.proofs.Products.{product-positive, product-append, regroup, one-times, at-least, positive-product, ≤ℤ_trans, sizes-positive, dimensions-positive}

pub packed-array :
    (b : Bench) (t e : VastDataType) (ds : List Dimension) → type_of b t ≡ PackedTree (type_of b e) (sizes_of b ds) → OwnsType b e × All (OwnsDimension b) ds → type_rank e < type_rank t → TypeWellFormed (type_of b t) →
    IsArrayOf b t e ds
packed-array b t e ds tree owned older well =
    let w : TypeWellFormed (PackedTree (type_of b e) (sizes_of b ds)) = rw tree at well in
    record { owned = owned.0; sizes = owned.1; older = older; base = rw tree refl; all = rw tree refl; unknown = rw tree refl; each = sizes-positive (sizes_of b ds) w.0.1; rest = dimensions-positive (type_of b e) w.1 }

pub unpacked-array :
    (b : Bench) (t e : VastDataType) (ds : List Dimension) → type_of b t ≡ UnpackedTree (type_of b e) (sizes_of b ds) → OwnsType b e × All (OwnsDimension b) ds → type_rank e < type_rank t → TypeWellFormed (type_of b t) →
    IsArrayOf b t e ds
unpacked-array b t e ds tree owned older well =
    let w : TypeWellFormed (UnpackedTree (type_of b e) (sizes_of b ds)) = rw tree at well in
    record { owned = owned.0; sizes = owned.1; older = older; base = rw tree refl; all = rw tree refl; unknown = rw tree refl; each = sizes-positive (sizes_of b ds) w.0; rest = dimensions-positive (type_of b e) w.1 }

-- What is left times what was counted stays the same.
pub array-step :
    (ds es all : List ℤ) (count total whole : ℤ) → all ≡ ds ++ es → All (λ d. pos 1 ≤ℤ d) ds → All (λ d. pos 1 ≤ℤ d) es → pos 1 ≤ℤ count →
    product all *ℤ count ≡ whole → total ≡ product ds *ℤ count → product es *ℤ total ≡ whole
array-step ds es all count total whole split each rest some same is =
    let p : pos 1 ≤ℤ product ds = product-positive ds each in
    let q : pos 1 ≤ℤ product es = product-positive es rest in
    rw is
    (ap (λ (x : ℤ). product es *ℤ x) (*ℤ_comm (product ds) count)
    ∙ (regroup (product es) count (product ds) q some p
    ∙ (ap (λ (x : ℤ). x *ℤ count) (sym (product-append ds es each rest) ∙ ap product (sym split))
    ∙ same
    )
    )
    )

pub array-over :
    (ds es all : List ℤ) (count whole : ℤ) → all ≡ ds ++ es → All (λ d. pos 1 ≤ℤ d) ds → All (λ d. pos 1 ≤ℤ d) es → pos 1 ≤ℤ count →
    product all *ℤ count ≡ whole → pos (2 ^ 63) ≤ℤ (product ds *ℤ count) → pos (2 ^ 63) ≤ℤ whole
array-over ds es all count whole split each rest some same large =
    let q : pos 1 ≤ℤ product es = product-positive es rest in
    let more : (product ds *ℤ count) ≤ℤ (product es *ℤ (product ds *ℤ count)) = at-least (product es) (product ds *ℤ count) q (positive-product (product ds) count (product-positive ds each) some) in
    ≤ℤ_trans _ _ _ large (rw (array-step ds es all count (product ds *ℤ count) whole split each rest some same refl) at more)

-- At the end nothing is left.
pub array-end : (all : List ℤ) (count whole : ℤ) → pos 1 ≤ℤ count → all ≡ [] → product all *ℤ count ≡ whole → count ≡ whole
array-end all count whole some none same = sym (one-times count some) ∙ (ap (λ (xs : List ℤ). product xs *ℤ count) (sym none) ∙ same)

counted-is : (t : TypeTree) (bits count : ℤ) → unknown_dimension t ≡ NoExpr → base_bits (base_of t) ≡ Some bits → count ≡ product (dimensions_of t) *ℤ bits → bit_count t ≡ Some count
unfolding bit_count
counted-is t bits count known base is = rw (known, base) (ap Some (sym is))

pub counted :
    (t : TypeTree) (all : List ℤ) (bits count : ℤ) → unknown_dimension t ≡ NoExpr → base_bits (base_of t) ≡ Some bits → pos 1 ≤ℤ count → all ≡ [] → product all *ℤ count ≡ product (dimensions_of t) *ℤ bits →
    bit_count t ≡ Some count
counted t all bits count known base some none same = counted-is t bits count known base (array-end all count (product (dimensions_of t) *ℤ bits) some none same)

pub exceeded : (t : TypeTree) (bits whole : ℤ) → unknown_dimension t ≡ NoExpr → base_bits (base_of t) ≡ Some bits → whole ≡ product (dimensions_of t) *ℤ bits → pos (2 ^ 63) ≤ℤ whole → Exceeds (bit_count t)
exceeded t bits whole known base is large = rw (counted-is t bits whole known base is) large
