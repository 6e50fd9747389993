-- What becomes of a call that makes a type.
use Rattle.std.specs.Prelude.{ℕ, ℤ, pos, int_le, false, ◌&&◌, List, string_bytes}
use Rattle.vast_literal.specs.Tree.{TypeTree, ScalarTree, IntegerTree, IntTree, ExternalTree, PackageTree, VectorTree, PackedTree, UnpackedTree}
use Rattle.vast_literal.specs.Shape.{literal_value}
use Rattle.vast_core.specs.Types.{is_packable}
use Rattle.vast_core.specs.Bench.{tree_of, trees_of, type_of}
use Rattle.vast_core.specs.Growth.{counts, next_type, with_type}
use Rattle.xlsynth_vast.specs.Conditions.{is_usable_width, are_usable_dimensions}
use Rattle.xlsynth_vast.specs.Equations.{next_bit_vector, with_bit_vector}
use Rattle.vast_script.specs.declared.answer.Answer.TheVariants.{VastDataType}
use Rattle.vast_steps.specs.declared.step.TypeStep.{TypeStep}
use Rattle.vast_steps.specs.declared.step.TypeStep.TheVariants.{MakeScalarType, MakeIntegerType, MakeIntType, MakeExternType, MakeExternPackageType, MakeBitVectorType, MakeBitVectorTypeExpr, MakePackedArrayType, MakeUnpackedArrayType, MakePackedArrayTypeExpr, MakeUnpackedArrayTypeExpr}
use Rattle.vast_script.specs.Outcome.{Call, Made, provided}
use Rattle.vast_script.specs.Kinds.{a_type, an_expr}
use Rattle.vast_script.specs.Arguments.{takes_one, takes_one_and_many}
use Rattle.vast_script.specs.Conditions.{are_dimensions}

-- A type that is made of no other.
abbrev pub make_type : TypeTree → Call
make_type tree b answers = Made (VastDataType (next_type b)) (with_type tree b)

abbrev pub make_packed_array_type : ℕ → List ℤ → Call
make_packed_array_type element dimensions =
    takes_one a_type element
    (λ element b. provided (is_packable (type_of b element) && are_dimensions dimensions) (Made (VastDataType (next_type b)) (with_type (PackedTree (type_of b element) (counts dimensions)) b)))

abbrev pub make_unpacked_array_type : ℕ → List ℤ → Call
make_unpacked_array_type element dimensions =
    takes_one a_type element (λ element b. provided (are_dimensions dimensions) (Made (VastDataType (next_type b)) (with_type (UnpackedTree (type_of b element) (counts dimensions)) b)))

-- The same of dimensions that are expressions.
abbrev pub make_packed_array_type_expr : ℕ → List ℕ → Call
make_packed_array_type_expr element dimensions =
    takes_one_and_many a_type an_expr element dimensions
    (λ element dimensions b. provided (is_packable (type_of b element) && are_usable_dimensions (trees_of b dimensions)) (Made (VastDataType (next_type b)) (with_type (PackedTree (type_of b element) (trees_of b dimensions)) b)))

abbrev pub make_unpacked_array_type_expr : ℕ → List ℕ → Call
make_unpacked_array_type_expr element dimensions =
    takes_one_and_many a_type an_expr element dimensions
    (λ element dimensions b. provided (are_usable_dimensions (trees_of b dimensions)) (Made (VastDataType (next_type b)) (with_type (UnpackedTree (type_of b element) (trees_of b dimensions)) b)))

-- What becomes of a step of a type, one clause each.
abbrev pub type_call : TypeStep → Call
type_call MakeScalarType = make_type (ScalarTree false)
type_call (MakeIntegerType signed) = make_type (IntegerTree signed)
type_call (MakeIntType signed) = make_type (IntTree signed)
type_call (MakeExternType name) = make_type (ExternalTree (string_bytes name))
type_call (MakeExternPackageType package_name name) = make_type (PackageTree (string_bytes package_name) (string_bytes name))
type_call (MakeBitVectorType bits signed) = λ b answers. provided (int_le (pos 1) bits) (Made (VastDataType (next_bit_vector bits b)) (with_bit_vector bits signed b))
type_call (MakeBitVectorTypeExpr width signed) = takes_one an_expr width
    (λ width b. provided (is_usable_width (tree_of b width)) (Made (VastDataType (next_type b)) (with_type (VectorTree (tree_of b width) (literal_value (tree_of b width)) signed) b)))
type_call (MakePackedArrayType element dimensions) = make_packed_array_type element dimensions.items
type_call (MakeUnpackedArrayType element dimensions) = make_unpacked_array_type element dimensions.items
type_call (MakePackedArrayTypeExpr element dimensions) = make_packed_array_type_expr element dimensions.items
type_call (MakeUnpackedArrayTypeExpr element dimensions) = make_unpacked_array_type_expr element dimensions.items
