-- The operators as they are written: their tokens' texts.
use Rattle.std.specs.Prelude.{ℕ, List, ◌++◌, codes}
use Rattle.vast_literal.specs.Tokens.{op_text}
use Rattle.vast_literal.specs.NormalExpr.{unary_operator_token, binary_operator_token}
use Rattle.vast_literal.specs.declared.operator.UnaryOperator.{UnaryOperator as UnaryOp}
use Rattle.vast_literal.specs.declared.operator.BinaryOperator.{BinaryOperator as BinaryOp}

abbrev pub unary_operator_text : UnaryOp → List ℕ
unary_operator_text operator = op_text (unary_operator_token operator)

-- the operator between its spaces
abbrev pub binary_operator_text : BinaryOp → List ℕ
binary_operator_text operator = codes " " ++ op_text (binary_operator_token operator) ++ codes " "
