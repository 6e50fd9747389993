-- What calls that make other expressions keep.
use Rattle.std.specs.Prelude.{ℕ, ℤ, pos, int_le, ◌&&◌, List, Some, None, codes, string_bytes}
use Rattle.vast_literal.specs.Tree.{ExprTree, NameTree, LiteralTree, Untyped, CallTree, ConcatTree, IndexTree, MacroTree, MemberOfTree, NegEdgeTree, NoExpr, PartSelectTree, PatternTree, PosEdgeTree, SliceTree, SomeArguments, SomeExpr, TernaryTree, TypeCastTree, WidthCastTree}
use Rattle.vast_literal.specs.Pattern.{pattern}
use Rattle.vast_core.specs.Types.{is_castable}
use Rattle.vast_core.specs.Bench.{type_of, tree_of, trees_of}
use Rattle.vast_core.specs.Growth.{next_expr, with_expr, decimal_literal, next_node, next_fixed_index, with_fixed_index, next_fixed_slice, with_fixed_slice, next_fixed_replication, with_fixed_replication}
use Rattle.xlsynth_vast.specs.Literals.{literal_in, pattern_literal, string_literal, selector_text}
use Rattle.vast_script.specs.declared.answer.Answer.TheVariants.{Expr, IndexableExpr, Slice, Index, MacroRef}
use Rattle.vast_steps.specs.declared.step.ExpressionStep.{ExpressionStep}
use Rattle.vast_steps.specs.declared.step.ExpressionStep.TheVariants.{MakeLiteral, MakeBinaryPattern, MakeUnsizedDecimalLiteral, MakeStringLiteral, MakeUnsizedOneLiteral, MakeUnsizedZeroLiteral, MakeUnsizedXLiteral, MakeName, MakeIndexableExpression, MakeSlice, MakeIndex, MakeSliceExpr, MakeIndexExpr, MakeIndexedPartSelect, MakeFunctionCall, MakeConcat, MakeReplicatedConcat, MakeReplicatedConcatI64, MakeArrayAssignmentPattern, MakeTernary, MakeWidthCast, MakeTypeCast, MakePosEdge, MakeNegEdge, MakeMacroRef, MakeMacroRefWithArgs, MakeMember}
use Rattle.vast_script.specs.Outcome.{Made, provided}
use Rattle.vast_script.specs.Kinds.{an_expr, an_indexable, a_type}
use Rattle.vast_script.specs.Arguments.{one, two, three, many, one_and_many}
use Rattle.vast_script.specs.Conditions.{is_named}
use Rattle.xlsynth_vast.proofs.Kept.{keeps-root, keeps-same}
use Rattle.vast_script.proofs.KeptOutcomes.{CallKeeps, given-keeps, provided-keeps, allowed-keeps}
use Rattle.xlsynth_vast.proofs.KeptWords.{fixed_index-kept, fixed_replication-kept, fixed_slice-kept}
use Rattle.vast_script.specs.Expressions.{make_binary_pattern, make_leaf, make_function_call, make_concat, make_replicated_concat, make_replicated_concat_i64, make_array_assignment_pattern, make_macro_ref_with_args, expression_call}

make_binary_pattern-keeps : (bits : List ℕ) → CallKeeps (make_binary_pattern bits)
make_binary_pattern-keeps bits b answers = allowed-keeps b (pattern bits) (λ text. Made (Expr (next_expr b)) (with_expr (pattern_literal text) b)) (λ text. keeps-root b _)

make_leaf-keeps : (tree : ExprTree) → CallKeeps (make_leaf tree)
make_leaf-keeps tree b answers = keeps-root b _

make_function_call-keeps : (name : List ℕ) (arguments : List ℕ) → CallKeeps (make_function_call name arguments)
make_function_call-keeps name arguments b answers = given-keeps b (many an_expr b answers arguments) (λ arguments. provided (is_named name) (Made (Expr (next_expr b)) (with_expr (CallTree name (trees_of b arguments)) b))) (λ arguments. provided-keeps b (is_named name) (Made (Expr (next_expr b)) (with_expr (CallTree name (trees_of b arguments)) b)) (keeps-root b _))

make_concat-keeps : (parts : List ℕ) → CallKeeps (make_concat parts)
make_concat-keeps parts b answers = given-keeps b (many an_expr b answers parts) (λ parts. Made (Expr (next_expr b)) (with_expr (ConcatTree NoExpr (trees_of b parts)) b)) (λ parts. keeps-root b _)

make_replicated_concat-keeps : (count : ℕ) (parts : List ℕ) → CallKeeps (make_replicated_concat count parts)
make_replicated_concat-keeps count parts b answers = given-keeps b (one_and_many an_expr an_expr b answers count parts) (λ (count, parts). Made (Expr (next_expr b)) (with_expr (ConcatTree (SomeExpr (tree_of b count)) (trees_of b parts)) b)) (λ (count, parts). keeps-root b _)

make_replicated_concat_i64-keeps : (count : ℤ) (parts : List ℕ) → CallKeeps (make_replicated_concat_i64 count parts)
make_replicated_concat_i64-keeps count parts b answers = given-keeps b (many an_expr b answers parts) (λ parts. Made (Expr (next_fixed_replication count b)) (with_fixed_replication count parts b)) (λ parts. fixed_replication-kept count parts b)

make_array_assignment_pattern-keeps : (parts : List ℕ) → CallKeeps (make_array_assignment_pattern parts)
make_array_assignment_pattern-keeps parts b answers = given-keeps b (many an_expr b answers parts) (λ parts. Made (Expr (next_expr b)) (with_expr (PatternTree (trees_of b parts)) b)) (λ parts. keeps-root b _)

make_macro_ref_with_args-keeps : (name : List ℕ) (arguments : List ℕ) → CallKeeps (make_macro_ref_with_args name arguments)
make_macro_ref_with_args-keeps name arguments b answers = given-keeps b (many an_expr b answers arguments) (λ arguments. Made (MacroRef (record { id = next_node b })) (with_expr (MacroTree name (SomeArguments (trees_of b arguments))) b)) (λ arguments. keeps-root b _)

pub expression-keeps : (step : ExpressionStep) → CallKeeps (expression_call step)
expression-keeps (MakeLiteral text format) = λ b answers. allowed-keeps b (literal_in format (string_bytes text)) (λ tree. Made (Expr (next_expr b)) (with_expr tree b)) (λ tree. keeps-root b _)
expression-keeps (MakeBinaryPattern bits) = make_binary_pattern-keeps (string_bytes bits)
expression-keeps (MakeUnsizedDecimalLiteral value) = make_leaf-keeps (decimal_literal value)
expression-keeps (MakeStringLiteral value) = make_leaf-keeps (string_literal (string_bytes value))
expression-keeps MakeUnsizedOneLiteral = make_leaf-keeps (LiteralTree (codes "'1") (Some (pos 1)))
expression-keeps MakeUnsizedZeroLiteral = make_leaf-keeps (LiteralTree (codes "'0") (Some (pos 0)))
expression-keeps MakeUnsizedXLiteral = make_leaf-keeps (LiteralTree (codes "'X") None)
expression-keeps (MakeName name) = make_leaf-keeps (NameTree (string_bytes name) Untyped)
expression-keeps (MakeIndexableExpression e) = λ b answers. given-keeps b (one an_expr b answers e) (λ e. Made (IndexableExpr (record { id = e.id })) b) (λ e. keeps-same b)
expression-keeps (MakeSlice subject high low) = λ b answers. given-keeps b (one an_indexable b answers subject) (λ subject. provided (int_le (pos 0) high && int_le (pos 0) low) (Made (Slice (next_fixed_slice (selector_text high) high (selector_text low) low b)) (with_fixed_slice subject (selector_text high) high (selector_text low) low b))) (λ subject. provided-keeps b (int_le (pos 0) high && int_le (pos 0) low) (Made (Slice (next_fixed_slice (selector_text high) high (selector_text low) low b)) (with_fixed_slice subject (selector_text high) high (selector_text low) low b)) (fixed_slice-kept subject (selector_text high) high (selector_text low) low b))
expression-keeps (MakeIndex subject index) = λ b answers. given-keeps b (one an_indexable b answers subject) (λ subject. provided (int_le (pos 0) index) (Made (Index (next_fixed_index (selector_text index) index b)) (with_fixed_index subject (selector_text index) index b))) (λ subject. provided-keeps b (int_le (pos 0) index) (Made (Index (next_fixed_index (selector_text index) index b)) (with_fixed_index subject (selector_text index) index b)) (fixed_index-kept subject (selector_text index) index b))
expression-keeps (MakeSliceExpr subject high low) = λ b answers. given-keeps b (three an_indexable an_expr an_expr b answers subject high low) (λ (subject, high, low). Made (Slice (record { id = next_node b })) (with_expr (SliceTree (tree_of b (record { id = subject.id })) (tree_of b high) (tree_of b low)) b)) (λ (subject, high, low). keeps-root b _)
expression-keeps (MakeIndexExpr subject index) = λ b answers. given-keeps b (two an_indexable an_expr b answers subject index) (λ (subject, index). Made (Index (record { id = next_node b })) (with_expr (IndexTree (tree_of b (record { id = subject.id })) (tree_of b index)) b)) (λ (subject, index). keeps-root b _)
expression-keeps (MakeIndexedPartSelect subject start width) = λ b answers. given-keeps b (two an_indexable an_expr b answers subject start) (λ (subject, start). provided (int_le (pos 1) width) (Made (Expr (next_expr b)) (with_expr (PartSelectTree (tree_of b (record { id = subject.id })) (tree_of b start) width) b))) (λ (subject, start). provided-keeps b (int_le (pos 1) width) (Made (Expr (next_expr b)) (with_expr (PartSelectTree (tree_of b (record { id = subject.id })) (tree_of b start) width) b)) (keeps-root b _))
expression-keeps (MakeFunctionCall name arguments) = make_function_call-keeps (string_bytes name) arguments.items
expression-keeps (MakeConcat parts) = make_concat-keeps parts.items
expression-keeps (MakeReplicatedConcat count parts) = make_replicated_concat-keeps count parts.items
expression-keeps (MakeReplicatedConcatI64 count parts) = make_replicated_concat_i64-keeps count parts.items
expression-keeps (MakeArrayAssignmentPattern parts) = make_array_assignment_pattern-keeps parts.items
expression-keeps (MakeTernary condition consequent alternate) = λ b answers. given-keeps b (three an_expr an_expr an_expr b answers condition consequent alternate) (λ (condition, consequent, alternate). Made (Expr (next_expr b)) (with_expr (TernaryTree (tree_of b condition) (tree_of b consequent) (tree_of b alternate)) b)) (λ (condition, consequent, alternate). keeps-root b _)
expression-keeps (MakeWidthCast width value) = λ b answers. given-keeps b (two an_expr an_expr b answers width value) (λ (width, value). Made (Expr (next_expr b)) (with_expr (WidthCastTree (tree_of b width) (tree_of b value)) b)) (λ (width, value). keeps-root b _)
expression-keeps (MakeTypeCast type value) = λ b answers. given-keeps b (two a_type an_expr b answers type value) (λ (type, value). provided (is_castable (type_of b type)) (Made (Expr (next_expr b)) (with_expr (TypeCastTree (type_of b type) (tree_of b value)) b))) (λ (type, value). provided-keeps b (is_castable (type_of b type)) (Made (Expr (next_expr b)) (with_expr (TypeCastTree (type_of b type) (tree_of b value)) b)) (keeps-root b _))
expression-keeps (MakePosEdge e) = λ b answers. given-keeps b (one an_expr b answers e) (λ e. Made (Expr (next_expr b)) (with_expr (PosEdgeTree (tree_of b e)) b)) (λ e. keeps-root b _)
expression-keeps (MakeNegEdge e) = λ b answers. given-keeps b (one an_expr b answers e) (λ e. Made (Expr (next_expr b)) (with_expr (NegEdgeTree (tree_of b e)) b)) (λ e. keeps-root b _)
expression-keeps (MakeMacroRef name) = λ b answers. keeps-root b _
expression-keeps (MakeMacroRefWithArgs name arguments) = make_macro_ref_with_args-keeps (string_bytes name) arguments.items
expression-keeps (MakeMember value field) = λ b answers. given-keeps b (one an_expr b answers value) (λ value. Made (Expr (next_expr b)) (with_expr (MemberOfTree (tree_of b value) (string_bytes field)) b)) (λ value. keeps-root b _)
