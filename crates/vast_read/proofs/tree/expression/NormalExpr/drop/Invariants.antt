use Rattle.vast_read.specs.Internal.Release.{rounds_left}
use Rattle.vast_read.proofs.tree.expression.NormalExpr.drop.Given as goal

abbrev pub decreases-loop-waiting : goal.decreases-loop-waiting
decreases-loop-waiting l = rounds_left l.self l.waiting
