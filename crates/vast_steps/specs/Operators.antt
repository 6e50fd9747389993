-- What a step of an operator makes its expression of.
use Rattle.std.specs.Prelude.{ℕ}
use Rattle.vast_literal.specs.declared.operator.UnaryOperator.{UnaryOperator as UnaryOp}
use Rattle.vast_literal.specs.declared.operator.BinaryOperator.{BinaryOperator as BinaryOp}
use Rattle.vast_literal.specs.declared.operator.UnaryOperator.TheVariants.{BitwiseNot as BitwiseNotOp, Negate as NegateOp, LogicalNot as LogicalNotOp, AndReduce as AndReduceOp, OrReduce as OrReduceOp, XorReduce as XorReduceOp}
use Rattle.vast_literal.specs.declared.operator.BinaryOperator.TheVariants.{Add as AddOp, Sub as SubOp, Mul as MulOp, Div as DivOp, Mod as ModOp, Power as PowerOp, BitwiseAnd as BitwiseAndOp, BitwiseOr as BitwiseOrOp, BitwiseXor as BitwiseXorOp, Shll as ShllOp, Shra as ShraOp, Shrl as ShrlOp, Ne as NeOp, CaseNe as CaseNeOp, Eq as EqOp, CaseEq as CaseEqOp, Ge as GeOp, Gt as GtOp, Le as LeOp, Lt as LtOp, LogicalAnd as LogicalAndOp, LogicalOr as LogicalOrOp, NeX as NeXOp, EqX as EqXOp}
use Rattle.vast_steps.specs.declared.step.OperatorStep.{OperatorStep}
use Rattle.vast_steps.specs.declared.step.OperatorStep.TheVariants.{MakeNot, MakeBitwiseNot, MakeNegate, MakeLogicalNot, MakeAndReduce, MakeOrReduce, MakeXorReduce, MakeAdd, MakeSub, MakeMul, MakeDiv, MakeMod, MakePower, MakeBitwiseAnd, MakeBitwiseOr, MakeBitwiseXor, MakeShll, MakeShra, MakeShrl, MakeNe, MakeCaseNe, MakeEq, MakeCaseEq, MakeGe, MakeGt, MakeLe, MakeLt, MakeLogicalAnd, MakeLogicalOr, MakeNeX, MakeEqX}

-- An operator before its operand, or between its two.
pub data Operation : Type 0 where
  Before : UnaryOp → (operand : ℕ) → Operation
  Between : BinaryOp → (left right : ℕ) → Operation

-- What a step makes an expression of.
abbrev pub operation : OperatorStep → Operation
operation (MakeNot e) = Before BitwiseNotOp e
operation (MakeBitwiseNot e) = Before BitwiseNotOp e
operation (MakeNegate e) = Before NegateOp e
operation (MakeLogicalNot e) = Before LogicalNotOp e
operation (MakeAndReduce e) = Before AndReduceOp e
operation (MakeOrReduce e) = Before OrReduceOp e
operation (MakeXorReduce e) = Before XorReduceOp e
operation (MakeAdd l r) = Between AddOp l r
operation (MakeSub l r) = Between SubOp l r
operation (MakeMul l r) = Between MulOp l r
operation (MakeDiv l r) = Between DivOp l r
operation (MakeMod l r) = Between ModOp l r
operation (MakePower l r) = Between PowerOp l r
operation (MakeBitwiseAnd l r) = Between BitwiseAndOp l r
operation (MakeBitwiseOr l r) = Between BitwiseOrOp l r
operation (MakeBitwiseXor l r) = Between BitwiseXorOp l r
operation (MakeShll l r) = Between ShllOp l r
operation (MakeShra l r) = Between ShraOp l r
operation (MakeShrl l r) = Between ShrlOp l r
operation (MakeNe l r) = Between NeOp l r
operation (MakeCaseNe l r) = Between CaseNeOp l r
operation (MakeEq l r) = Between EqOp l r
operation (MakeCaseEq l r) = Between CaseEqOp l r
operation (MakeGe l r) = Between GeOp l r
operation (MakeGt l r) = Between GtOp l r
operation (MakeLe l r) = Between LeOp l r
operation (MakeLt l r) = Between LtOp l r
operation (MakeLogicalAnd l r) = Between LogicalAndOp l r
operation (MakeLogicalOr l r) = Between LogicalOrOp l r
operation (MakeNeX l r) = Between NeXOp l r
operation (MakeEqX l r) = Between EqXOp l r
