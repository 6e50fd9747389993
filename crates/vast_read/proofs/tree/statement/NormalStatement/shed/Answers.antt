use Rattle.vast_read.proofs.StatementRelease.{case_left}
use Rattle.vast_read.specs.Internal.StatementRelease.{statement_left}
use Rattle.vast_read.proofs.tree.statement.NormalStatement.shed.Goals as goal

pub returns-in-Some-before : goal.returns-in-Some-before
returns-in-Some-before c = case_left c.args.self c.in-Case.is_unique c.in-Case.word c.in-Case.selector c.in-Case.arms c.in-Some-before.before c.in-Some.before c.in-Some.arm c.into_block-in-Some-before.result (statement_left c.ahead.result.0 c.ahead.result.1) c.in-Case.is c.in-Some-before.is c.in-Some.ensures c.into_block-in-Some-before.ensures c.ahead.ensures
