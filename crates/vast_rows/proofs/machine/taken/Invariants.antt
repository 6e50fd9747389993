use Rattle.std.proofs.Common.{◌-◌, length}
use Rattle.vast_rows.specs.Facts.{fact_in, facts_view}
use Rattle.vast_rows.proofs.Taken.{GoesOn}
use Rattle.vast_rows.proofs.machine.taken.Given as goal

abbrev pub invariant-rows : goal.invariant-rows
invariant-rows l = GoesOn (fact_in (facts_view l.table.facts.now)) l.table.items.now l.table.rows.now l.rule l.kind l.at

abbrev pub decreases-rows : goal.decreases-rows
decreases-rows l = length l.table.rows.now - l.at
