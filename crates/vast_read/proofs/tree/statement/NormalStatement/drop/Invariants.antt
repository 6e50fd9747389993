use Rattle.vast_read.specs.Internal.StatementRelease.{statement_left}
use Rattle.vast_read.proofs.tree.statement.NormalStatement.drop.Given as goal

abbrev pub decreases-loop-waiting : goal.decreases-loop-waiting
decreases-loop-waiting l = statement_left l.self l.waiting
