use Rattle.vast_read.proofs.StatementRelease.{arm_left}
use Rattle.vast_read.specs.Internal.StatementRelease.{statement_left}
use Rattle.vast_read.proofs.tree.statement.shed_arms.Goals as goal

pub returns-in-Some : goal.returns-in-Some
returns-in-Some c = arm_left c.args.arms c.in-Some.arms c.in-Some.arm c.args.last c.into_block.result (statement_left c.ahead.result.0 c.ahead.result.1) c.in-Some.ensures c.into_block.ensures c.ahead.ensures
