use Rattle.vast_read.specs.Internal.StatementRelease.{statement_rounds}
use Rattle.vast_read.proofs.Release.{item_taken}
use Rattle.vast_read.proofs.tree.statement.taken.Goals as goal

pub returns : goal.returns
returns c = item_taken statement_rounds c.args.block c.split_last.result c.split_last.ensures
