-- What a file holds after a call that makes an expression of an operator, and what a select is taken from.
use Rattle.vast_literal.specs.Tree.{UnaryTree, BinaryTree, ExprTree}
use Rattle.vast_literal.specs.declared.operator.UnaryOperator.{UnaryOperator as UnaryOp}
use Rattle.vast_literal.specs.declared.operator.BinaryOperator.{BinaryOperator as BinaryOp}
use Rattle.vast_core.specs.declared.handle.Expr.{Expr}
use Rattle.vast_core.specs.declared.handle.IndexableExpr.{IndexableExpr}
use Rattle.vast_core.specs.Bench.{Bench, tree_of}
use Rattle.vast_core.specs.Growth.{with_expr}

-- an operator before its operand
abbrev pub with_unary : UnaryOp → Expr → Bench → Bench
with_unary operator operand b = with_expr (UnaryTree operator (tree_of b operand)) b

-- an operator between its operands
abbrev pub with_binary : BinaryOp → Expr → Expr → Bench → Bench
with_binary operator left right b = with_expr (BinaryTree operator (tree_of b left) (tree_of b right)) b

-- what is selected from
abbrev pub subject_of : Bench → IndexableExpr → ExprTree
subject_of b subject = tree_of b (record { id = subject.id })
