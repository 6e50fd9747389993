use Rattle.vast_literal.specs.declared.operator.BinaryOperator.TheVariants.{LogicalOr as LogicalOrOp}
use Rattle.xlsynth_vast.proofs.helpers.reductions.logical_or_reduce.Given as goal

abbrev pub ghost-logical_reduced : goal.ghost-logical_reduced
ghost-logical_reduced a = LogicalOrOp
