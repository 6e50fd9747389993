-- How many bits a type has: the product of its dimensions and of the bits of the type within.
use Rattle.std.specs.Prelude.{◌≡◌, ◌≤ℤ◌, ◌*ℤ◌, ◌^◌, pos, ℤ, IsTrue, List, [], ◌∷◌, ◌++◌, Option, Some, None, IsSome}
use Rattle.vast_literal.specs.Tree.{ExprTree, TypeTree, ScalarTree, VectorTree, IntegerTree, IntTree, PackedTree, UnpackedTree, Exprs, NoExprs, MoreExprs, MaybeExpr, SomeExpr, NoExpr}
use Rattle.vast_core.specs.declared.bits.BitCountFault.{BitCountFault}
use Rattle.vast_core.specs.declared.bits.BitCountFault.TheVariants.{Overflow, Symbolic, External, Dimension}
use Rattle.vast_core.specs.declared.bits.WidthFault.{WidthFault}
use Rattle.vast_core.specs.declared.bits.WidthFault.TheVariants.{Symbolic as SymbolicWidth, Undeclared}
use Rattle.vast_core.specs.Types.{width_of}
use Rattle.vast_literal.specs.Shape.{literal_value, base_of, is_external}
use Rattle.vast_core.specs.Bench.{Bench, OwnsExpr, OwnsType, tree_of, type_of}

abbrev pub product : List ℤ → ℤ
product [] = pos 1
product (d ∷ ds) = d *ℤ product ds

-- The values of sizes; one that has none counts as 1.
abbrev pub value_or_one : Option ℤ → ℤ
value_or_one None = pos 1
value_or_one (Some value) = value

abbrev pub size_values : Exprs → List ℤ
size_values NoExprs = []
size_values (MoreExprs size sizes) = value_or_one (literal_value size) ∷ size_values sizes

-- All dimensions of an array and of the arrays in it, from the outermost.
abbrev pub dimensions_of : TypeTree → List ℤ
dimensions_of (PackedTree element dimensions) = size_values dimensions ++ dimensions_of element
dimensions_of (UnpackedTree element dimensions) = size_values dimensions ++ dimensions_of element
dimensions_of _ = []

-- The first size that has no value.
abbrev pub unless_known : Option ℤ → (size : ExprTree) (later : MaybeExpr) → MaybeExpr
unless_known None size later = SomeExpr size
unless_known (Some value) size later = later

abbrev pub unknown_size : Exprs → MaybeExpr
unknown_size NoExprs = NoExpr
unknown_size (MoreExprs size sizes) = unless_known (literal_value size) size (unknown_size sizes)

abbrev pub or_later : (first later : MaybeExpr) → MaybeExpr
or_later NoExpr later = later
or_later (SomeExpr size) later = SomeExpr size

-- The first dimension of an array and of the arrays in it that has no value.
abbrev pub unknown_dimension : TypeTree → MaybeExpr
unknown_dimension (PackedTree element dimensions) = or_later (unknown_size dimensions) (unknown_dimension element)
unknown_dimension (UnpackedTree element dimensions) = or_later (unknown_size dimensions) (unknown_dimension element)
unknown_dimension _ = NoExpr

-- The bits of a type that is no array, where they are known.
abbrev pub base_bits : TypeTree → Option ℤ
base_bits (ScalarTree signed) = Some (pos 1)
base_bits (VectorTree width value signed) = value
base_bits (IntegerTree signed) = Some (pos 32)
base_bits (IntTree signed) = Some (pos 32)
base_bits _ = None

abbrev pub multiple : ℤ → Option ℤ → Option ℤ
multiple p None = None
multiple p (Some bits) = Some (p *ℤ bits)

abbrev pub unless_unknown : (size : MaybeExpr) (count : Option ℤ) → Option ℤ
unless_unknown NoExpr count = count
unless_unknown (SomeExpr size) count = None

-- The product of all dimensions with the base's bits, where all of these are known.
unfoldable pub bit_count : TypeTree → Option ℤ
bit_count t = unless_unknown (unknown_dimension t) (multiple (product (dimensions_of t)) (base_bits (base_of t)))

-- The bits that a type within arrays declares: one, or a vector's where its width has a value.
abbrev pub declared_bits : TypeTree → Option ℤ
declared_bits (ScalarTree signed) = Some (pos 1)
declared_bits (VectorTree width value signed) = value
declared_bits _ = None

abbrev pub width_value : TypeTree → Option ℤ
width_value t = declared_bits (base_of t)

-- There is a number, and it is above all that 64 bits hold.
abbrev pub Exceeds : Option ℤ → Type 0
Exceeds None = ⊥
Exceeds (Some n) = pos (2 ^ 63) ≤ℤ n

-- Why a type has no count: the count is too large; the vector within has the width e, which has no value; the type
-- within is u, which is declared elsewhere; the bits of that are known, but the dimension e has no value.
abbrev pub CountRefused : Bench → TypeTree → BitCountFault → Type 0
CountRefused b t Overflow = Exceeds (bit_count t)
CountRefused b t (Symbolic e) = OwnsExpr b e × (width_of t ≡ SomeExpr (tree_of b e)) × (base_bits (base_of t) ≡ None)
CountRefused b t (External u) = OwnsType b u × (type_of b u ≡ base_of t) × IsTrue (is_external (base_of t))
CountRefused b t (Dimension e) = OwnsExpr b e × (unknown_dimension t ≡ SomeExpr (tree_of b e)) × IsSome (base_bits (base_of t))

-- Why a type has no width: as above, or the type within is neither a scalar nor a vector.
abbrev pub WidthRefused : Bench → TypeTree → WidthFault → Type 0
WidthRefused b t (SymbolicWidth e) = OwnsExpr b e × (width_of t ≡ SomeExpr (tree_of b e)) × (width_value t ≡ None)
WidthRefused b t Undeclared = (width_of t ≡ NoExpr) × (width_value t ≡ None)
