-- What calls that make types keep.
use Rattle.std.specs.Prelude.{ℕ, ℤ, pos, int_le, false, ◌&&◌, List, string_bytes}
use Rattle.vast_literal.specs.Tree.{TypeTree, ScalarTree, IntegerTree, IntTree, ExternalTree, PackageTree, VectorTree, PackedTree, UnpackedTree}
use Rattle.vast_literal.specs.Shape.{literal_value}
use Rattle.vast_core.specs.Types.{is_packable}
use Rattle.vast_core.specs.Bench.{tree_of, trees_of, type_of}
use Rattle.vast_core.specs.Growth.{counts, next_type, with_type}
use Rattle.xlsynth_vast.specs.Conditions.{is_usable_width, are_usable_dimensions}
use Rattle.xlsynth_vast.specs.Equations.{next_bit_vector, with_bit_vector}
use Rattle.vast_script.specs.declared.answer.Answer.TheVariants.{VastDataType}
use Rattle.vast_steps.specs.declared.step.TypeStep.{TypeStep}
use Rattle.vast_steps.specs.declared.step.TypeStep.TheVariants.{MakeScalarType, MakeIntegerType, MakeIntType, MakeExternType, MakeExternPackageType, MakeBitVectorType, MakeBitVectorTypeExpr, MakePackedArrayType, MakeUnpackedArrayType, MakePackedArrayTypeExpr, MakeUnpackedArrayTypeExpr}
use Rattle.vast_script.specs.Outcome.{Made, provided}
use Rattle.vast_script.specs.Kinds.{a_type, an_expr}
use Rattle.vast_script.specs.Arguments.{one, one_and_many}
use Rattle.vast_script.specs.Conditions.{are_dimensions}
use Rattle.xlsynth_vast.proofs.Kept.{keeps-root}
use Rattle.vast_script.proofs.KeptOutcomes.{CallKeeps, given-keeps, provided-keeps}
use Rattle.xlsynth_vast.proofs.KeptWords.{bit_vector-kept}
use Rattle.vast_script.specs.Types.{make_type, make_packed_array_type, make_unpacked_array_type, make_packed_array_type_expr, make_unpacked_array_type_expr, type_call}

make_type-keeps : (tree : TypeTree) → CallKeeps (make_type tree)
make_type-keeps tree b answers = keeps-root b _

make_packed_array_type-keeps : (element : ℕ) (dimensions : List ℤ) → CallKeeps (make_packed_array_type element dimensions)
make_packed_array_type-keeps element dimensions b answers = given-keeps b (one a_type b answers element) (λ element. provided (is_packable (type_of b element) && are_dimensions dimensions) (Made (VastDataType (next_type b)) (with_type (PackedTree (type_of b element) (counts dimensions)) b))) (λ element. provided-keeps b (is_packable (type_of b element) && are_dimensions dimensions) (Made (VastDataType (next_type b)) (with_type (PackedTree (type_of b element) (counts dimensions)) b)) (keeps-root b _))

make_unpacked_array_type-keeps : (element : ℕ) (dimensions : List ℤ) → CallKeeps (make_unpacked_array_type element dimensions)
make_unpacked_array_type-keeps element dimensions b answers = given-keeps b (one a_type b answers element) (λ element. provided (are_dimensions dimensions) (Made (VastDataType (next_type b)) (with_type (UnpackedTree (type_of b element) (counts dimensions)) b))) (λ element. provided-keeps b (are_dimensions dimensions) (Made (VastDataType (next_type b)) (with_type (UnpackedTree (type_of b element) (counts dimensions)) b)) (keeps-root b _))

make_packed_array_type_expr-keeps : (element : ℕ) (dimensions : List ℕ) → CallKeeps (make_packed_array_type_expr element dimensions)
make_packed_array_type_expr-keeps element dimensions b answers = given-keeps b (one_and_many a_type an_expr b answers element dimensions) (λ (element, dimensions). provided (is_packable (type_of b element) && are_usable_dimensions (trees_of b dimensions)) (Made (VastDataType (next_type b)) (with_type (PackedTree (type_of b element) (trees_of b dimensions)) b))) (λ (element, dimensions). provided-keeps b (is_packable (type_of b element) && are_usable_dimensions (trees_of b dimensions)) (Made (VastDataType (next_type b)) (with_type (PackedTree (type_of b element) (trees_of b dimensions)) b)) (keeps-root b _))

make_unpacked_array_type_expr-keeps : (element : ℕ) (dimensions : List ℕ) → CallKeeps (make_unpacked_array_type_expr element dimensions)
make_unpacked_array_type_expr-keeps element dimensions b answers = given-keeps b (one_and_many a_type an_expr b answers element dimensions) (λ (element, dimensions). provided (are_usable_dimensions (trees_of b dimensions)) (Made (VastDataType (next_type b)) (with_type (UnpackedTree (type_of b element) (trees_of b dimensions)) b))) (λ (element, dimensions). provided-keeps b (are_usable_dimensions (trees_of b dimensions)) (Made (VastDataType (next_type b)) (with_type (UnpackedTree (type_of b element) (trees_of b dimensions)) b)) (keeps-root b _))

pub type-keeps : (step : TypeStep) → CallKeeps (type_call step)
type-keeps MakeScalarType = make_type-keeps (ScalarTree false)
type-keeps (MakeIntegerType signed) = make_type-keeps (IntegerTree signed)
type-keeps (MakeIntType signed) = make_type-keeps (IntTree signed)
type-keeps (MakeExternType name) = make_type-keeps (ExternalTree (string_bytes name))
type-keeps (MakeExternPackageType package_name name) = make_type-keeps (PackageTree (string_bytes package_name) (string_bytes name))
type-keeps (MakeBitVectorType bits signed) = λ b answers. provided-keeps b (int_le (pos 1) bits) (Made (VastDataType (next_bit_vector bits b)) (with_bit_vector bits signed b)) (bit_vector-kept bits signed b)
type-keeps (MakeBitVectorTypeExpr width signed) = λ b answers. given-keeps b (one an_expr b answers width) (λ width. provided (is_usable_width (tree_of b width)) (Made (VastDataType (next_type b)) (with_type (VectorTree (tree_of b width) (literal_value (tree_of b width)) signed) b))) (λ width. provided-keeps b (is_usable_width (tree_of b width)) (Made (VastDataType (next_type b)) (with_type (VectorTree (tree_of b width) (literal_value (tree_of b width)) signed) b)) (keeps-root b _))
type-keeps (MakePackedArrayType element dimensions) = make_packed_array_type-keeps element dimensions.items
type-keeps (MakeUnpackedArrayType element dimensions) = make_unpacked_array_type-keeps element dimensions.items
type-keeps (MakePackedArrayTypeExpr element dimensions) = make_packed_array_type_expr-keeps element dimensions.items
type-keeps (MakeUnpackedArrayTypeExpr element dimensions) = make_unpacked_array_type_expr-keeps element dimensions.items
