use Rattle.std.proofs.Common.{length}
use Rattle.vast_rows.specs.Facts.{fact_in, facts_view}
use Rattle.vast_rows.specs.Rows.{rows_view}
use Rattle.vast_rows.proofs.Standing.{Standing}
use Rattle.vast_rows.proofs.front.front.Given as goal

abbrev pub invariant-tokens : goal.invariant-tokens
invariant-tokens g l = Standing (rows_view l.table.items.now l.table.rows.now) (fact_in (facts_view l.table.facts.now)) l.fn.start (g.S.Source.left l.fn.source) (g.S.Source.left l.source) l.stack l.more

abbrev pub decreases-tokens : goal.decreases-tokens
decreases-tokens g l = length (g.S.Source.left l.source)
