-- What becomes of a call that makes any other expression.
use Rattle.std.specs.Prelude.{ℕ, ℤ, pos, int_le, ◌&&◌, List, Some, None, codes, string_bytes}
use Rattle.vast_literal.specs.Tree.{ExprTree, NameTree, LiteralTree, Untyped, CallTree, ConcatTree, IndexTree, MacroTree, MemberOfTree, NegEdgeTree, NoArguments, NoExpr, PartSelectTree, PatternTree, PosEdgeTree, SliceTree, SomeArguments, SomeExpr, TernaryTree, TypeCastTree, WidthCastTree}
use Rattle.vast_literal.specs.Pattern.{pattern}
use Rattle.vast_core.specs.Types.{is_castable}
use Rattle.vast_core.specs.Bench.{type_of, tree_of, trees_of}
use Rattle.vast_core.specs.Growth.{next_expr, with_expr, decimal_literal, next_node, next_fixed_index, with_fixed_index, next_fixed_slice, with_fixed_slice, next_fixed_replication, with_fixed_replication}
use Rattle.xlsynth_vast.specs.Literals.{literal_in, pattern_literal, string_literal, selector_text}
use Rattle.vast_script.specs.declared.answer.Answer.TheVariants.{Expr, IndexableExpr, Slice, Index, MacroRef}
use Rattle.vast_steps.specs.declared.step.ExpressionStep.{ExpressionStep}
use Rattle.vast_steps.specs.declared.step.ExpressionStep.TheVariants.{MakeLiteral, MakeBinaryPattern, MakeUnsizedDecimalLiteral, MakeStringLiteral, MakeUnsizedOneLiteral, MakeUnsizedZeroLiteral, MakeUnsizedXLiteral, MakeName, MakeIndexableExpression, MakeSlice, MakeIndex, MakeSliceExpr, MakeIndexExpr, MakeIndexedPartSelect, MakeFunctionCall, MakeConcat, MakeReplicatedConcat, MakeReplicatedConcatI64, MakeArrayAssignmentPattern, MakeTernary, MakeWidthCast, MakeTypeCast, MakePosEdge, MakeNegEdge, MakeMacroRef, MakeMacroRefWithArgs, MakeMember}
use Rattle.vast_script.specs.Outcome.{Call, Made, provided, allowed, makes}
use Rattle.vast_script.specs.Kinds.{an_expr, an_indexable, a_type}
use Rattle.vast_script.specs.Arguments.{takes_one, takes_two, takes_three, takes_many, takes_one_and_many}
use Rattle.vast_script.specs.Conditions.{is_named}

abbrev pub make_binary_pattern : List ℕ → Call
make_binary_pattern bits b answers = allowed (pattern bits) (λ text. Made (Expr (next_expr b)) (with_expr (pattern_literal text) b))

-- An expression that is made of no other.
abbrev pub make_leaf : ExprTree → Call
make_leaf tree b answers = Made (Expr (next_expr b)) (with_expr tree b)

abbrev pub make_function_call : List ℕ → List ℕ → Call
make_function_call name arguments = takes_many an_expr arguments (λ arguments b. provided (is_named name) (Made (Expr (next_expr b)) (with_expr (CallTree name (trees_of b arguments)) b)))

abbrev pub make_concat : List ℕ → Call
make_concat parts = takes_many an_expr parts (λ parts. makes Expr next_expr (λ b. with_expr (ConcatTree NoExpr (trees_of b parts)) b))

abbrev pub make_replicated_concat : ℕ → List ℕ → Call
make_replicated_concat count parts = takes_one_and_many an_expr an_expr count parts (λ count parts. makes Expr next_expr (λ b. with_expr (ConcatTree (SomeExpr (tree_of b count)) (trees_of b parts)) b))

abbrev pub make_replicated_concat_i64 : ℤ → List ℕ → Call
make_replicated_concat_i64 count parts = takes_many an_expr parts (λ parts. makes Expr (next_fixed_replication count) (with_fixed_replication count parts))

abbrev pub make_array_assignment_pattern : List ℕ → Call
make_array_assignment_pattern parts = takes_many an_expr parts (λ parts. makes Expr next_expr (λ b. with_expr (PatternTree (trees_of b parts)) b))

abbrev pub make_macro_ref_with_args : List ℕ → List ℕ → Call
make_macro_ref_with_args name arguments = takes_many an_expr arguments (λ arguments. makes MacroRef (λ b. record { id = next_node b }) (λ b. with_expr (MacroTree name (SomeArguments (trees_of b arguments))) b))

-- What becomes of a step of an expression, one clause each.
abbrev pub expression_call : ExpressionStep → Call
expression_call (MakeLiteral text format) = λ b answers. allowed (literal_in format (string_bytes text)) (λ tree. Made (Expr (next_expr b)) (with_expr tree b))
expression_call (MakeBinaryPattern bits) = make_binary_pattern (string_bytes bits)
expression_call (MakeUnsizedDecimalLiteral value) = make_leaf (decimal_literal value)
expression_call (MakeStringLiteral value) = make_leaf (string_literal (string_bytes value))
expression_call MakeUnsizedOneLiteral = make_leaf (LiteralTree (codes "'1") (Some (pos 1)))
expression_call MakeUnsizedZeroLiteral = make_leaf (LiteralTree (codes "'0") (Some (pos 0)))
expression_call MakeUnsizedXLiteral = make_leaf (LiteralTree (codes "'X") None)
expression_call (MakeName name) = make_leaf (NameTree (string_bytes name) Untyped)
expression_call (MakeIndexableExpression e) = takes_one an_expr e (λ e b. Made (IndexableExpr (record { id = e.id })) b)
expression_call (MakeSlice subject high low) = takes_one an_indexable subject
    (λ subject b. provided (int_le (pos 0) high && int_le (pos 0) low) (Made (Slice (next_fixed_slice (selector_text high) high (selector_text low) low b)) (with_fixed_slice subject (selector_text high) high (selector_text low) low b)))
expression_call (MakeIndex subject index) = takes_one an_indexable subject
    (λ subject b. provided (int_le (pos 0) index) (Made (Index (next_fixed_index (selector_text index) index b)) (with_fixed_index subject (selector_text index) index b)))
expression_call (MakeSliceExpr subject high low) = takes_three an_indexable an_expr an_expr subject high low
    (λ subject high low. makes Slice (λ b. record { id = next_node b }) (λ b. with_expr (SliceTree (tree_of b (record { id = subject.id })) (tree_of b high) (tree_of b low)) b))
expression_call (MakeIndexExpr subject index) = takes_two an_indexable an_expr subject index (λ subject index. makes Index (λ b. record { id = next_node b }) (λ b. with_expr (IndexTree (tree_of b (record { id = subject.id })) (tree_of b index)) b))
expression_call (MakeIndexedPartSelect subject start width) = takes_two an_indexable an_expr subject start
    (λ subject start b. provided (int_le (pos 1) width) (Made (Expr (next_expr b)) (with_expr (PartSelectTree (tree_of b (record { id = subject.id })) (tree_of b start) width) b)))
expression_call (MakeFunctionCall name arguments) = make_function_call (string_bytes name) arguments.items
expression_call (MakeConcat parts) = make_concat parts.items
expression_call (MakeReplicatedConcat count parts) = make_replicated_concat count parts.items
expression_call (MakeReplicatedConcatI64 count parts) = make_replicated_concat_i64 count parts.items
expression_call (MakeArrayAssignmentPattern parts) = make_array_assignment_pattern parts.items
expression_call (MakeTernary condition consequent alternate) = takes_three an_expr an_expr an_expr condition consequent alternate
    (λ condition consequent alternate. makes Expr next_expr (λ b. with_expr (TernaryTree (tree_of b condition) (tree_of b consequent) (tree_of b alternate)) b))
expression_call (MakeWidthCast width value) = takes_two an_expr an_expr width value (λ width value. makes Expr next_expr (λ b. with_expr (WidthCastTree (tree_of b width) (tree_of b value)) b))
expression_call (MakeTypeCast type value) = takes_two a_type an_expr type value
    (λ type value b. provided (is_castable (type_of b type)) (Made (Expr (next_expr b)) (with_expr (TypeCastTree (type_of b type) (tree_of b value)) b)))
expression_call (MakePosEdge e) = takes_one an_expr e (λ e. makes Expr next_expr (λ b. with_expr (PosEdgeTree (tree_of b e)) b))
expression_call (MakeNegEdge e) = takes_one an_expr e (λ e. makes Expr next_expr (λ b. with_expr (NegEdgeTree (tree_of b e)) b))
expression_call (MakeMacroRef name) = λ b answers. Made (MacroRef (record { id = next_node b })) (with_expr (MacroTree (string_bytes name) NoArguments) b)
expression_call (MakeMacroRefWithArgs name arguments) = make_macro_ref_with_args (string_bytes name) arguments.items
expression_call (MakeMember value field) = takes_one an_expr value (λ value. makes Expr next_expr (λ b. with_expr (MemberOfTree (tree_of b value) (string_bytes field)) b))
