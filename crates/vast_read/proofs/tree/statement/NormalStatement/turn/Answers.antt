use Rattle.vast_read.proofs.StatementRelease.{turned_alone, turned_ahead}
use Rattle.vast_read.specs.Internal.StatementRelease.{statement_left}
use Rattle.vast_read.proofs.tree.statement.NormalStatement.turn.Goals as goal

pub returns-in-None : goal.returns-in-None
returns-in-None c = turned_alone c.args.self c.in-Choice.arms c.in-Choice.last c.args.block c.in-Choice.is c.in-None.is

pub returns-in-Some : goal.returns-in-Some
returns-in-Some c = turned_ahead c.args.self c.in-Choice.arms c.in-Choice.last c.in-Some.last c.args.block (statement_left c.ahead.result.0 c.ahead.result.1) c.in-Choice.is c.in-Some.is c.ahead.ensures
