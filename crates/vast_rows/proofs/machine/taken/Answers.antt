use Rattle.std.proofs.Common.{sym, ◌∙◌}
use Rattle.vast_rows.specs.Facts.{fact_in, facts_view}
use Rattle.vast_rows.proofs.Taken.{is_taken}
use Rattle.vast_rows.proofs.machine.taken.Goals as goal

pub returns-then-is_in : goal.returns-then-is_in
returns-then-is_in c = is_taken (fact_in (facts_view c.args.table.now.facts.now)) c.args.table.now.items.now c.args.table.now.rows.now c.args.rule c.args.kind c.rows.at _ c.items_between.result.now
    c.rows.invariant c.rows-test.true c.if-row-rule.false (sym c.is_in.ensures ∙ c.if-is_in.true) c.items_between.ensures
