use Rattle.vast_rows.specs.Facts.{fact_in, facts_view}
use Rattle.vast_rows.specs.Internal.Firsts.{firsts_in}
use Rattle.vast_rows.proofs.Nexts.{Found}
use Rattle.vast_rows.proofs.front.next_of.Given as goal

abbrev pub invariant-items : goal.invariant-items
invariant-items l = Found (firsts_in l.table.firsts.now) (fact_in (facts_view l.table.facts.now)) l.items l.at l.kinds l.stack

abbrev pub decreases-items : goal.decreases-items
decreases-items l = l.at
