use Rattle.vast_literal.specs.declared.operator.BinaryOperator.TheVariants.{BitwiseOr as BitwiseOrOp}
use Rattle.xlsynth_vast.proofs.helpers.reductions.bitwise_reduced.Given as goal

-- The operator that joins.
abbrev pub ghost-join_all : goal.ghost-join_all
ghost-join_all a = BitwiseOrOp
