use Rattle.vast_read.proofs.Release.{list_left}
use Rattle.vast_read.proofs.tree.parts.shed_list.Goals as goal

pub returns-in-Some-before : goal.returns-in-Some-before
returns-in-Some-before c = list_left c.args.parts c.in-Some-before.before c.in-Some.before c.in-Some.last c.in-Some-before.is c.in-Some.ensures
