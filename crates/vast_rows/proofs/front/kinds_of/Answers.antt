use Rattle.vast_rows.proofs.Nexts.{known_begins, unknown_begins}
use Rattle.vast_rows.proofs.front.kinds_of.Goals as goal

pub returns-in-Some : goal.returns-in-Some
returns-in-Some c = let l = c.in-Some.ensures.lookup in rw c.in-Rule.is (known_begins c.args.table.now.firsts.now c.in-Rule.rule c.in-Some.kinds.now l.3.0 l.1)

pub returns-in-None : goal.returns-in-None
returns-in-None c = let l = c.in-None.ensures.lookup in rw c.in-Rule.is (unknown_begins c.args.table.now.firsts.now c.in-Rule.rule l.3)
