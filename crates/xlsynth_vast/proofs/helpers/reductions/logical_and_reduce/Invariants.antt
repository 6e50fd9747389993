use Rattle.vast_literal.specs.declared.operator.BinaryOperator.TheVariants.{LogicalAnd as LogicalAndOp}
use Rattle.xlsynth_vast.proofs.helpers.reductions.logical_and_reduce.Given as goal

abbrev pub ghost-logical_reduced : goal.ghost-logical_reduced
ghost-logical_reduced a = LogicalAndOp
