use Rattle.std.proofs.Common.{sym, ◌∙◌}
use Rattle.vast_rows.specs.Facts.{fact_in, facts_view}
use Rattle.vast_rows.specs.Internal.Firsts.{firsts_in}
use Rattle.vast_rows.proofs.Nexts.{found_first, found_more, found_there, found_all}
use Rattle.vast_rows.proofs.front.next_of.Goals as goal

pub items-init : goal.items-init
items-init c = found_first (firsts_in c.args.table.now.firsts.now) (fact_in (facts_view c.args.table.now.facts.now)) c.items-items.result.now c.args.stack.now c.items-items.ensures

pub items-preserved : goal.items-preserved
items-preserved c = rw c.kinds_of-kinds.ensures (found_more (firsts_in c.args.table.now.firsts.now) (fact_in (facts_view c.args.table.now.facts.now)) c.items-items.result.now c.args.stack.now c.items.at c.items.kinds _
    c.items.invariant c.items-test.true (sym c.may_be_empty.ensures ∙ c.if-not-may_be_empty.false))

pub returns-then-not-may_be_empty : goal.returns-then-not-may_be_empty
returns-then-not-may_be_empty c =
    let f = found_there (firsts_in c.args.table.now.firsts.now) (fact_in (facts_view c.args.table.now.facts.now)) c.items-items.result.now c.args.stack.now c.items.at c.items.kinds _
    c.items.invariant c.items-test.true (sym c.may_be_empty.ensures ∙ c.if-not-may_be_empty.true) in
    record { kinds = rw c.kinds_of-kinds.ensures f.0; ends = f.1 }

pub returns : goal.returns
returns c =
    let f = found_all (firsts_in c.args.table.now.firsts.now) (fact_in (facts_view c.args.table.now.facts.now)) c.items-items.result.now c.args.stack.now c.items.at c.items.kinds c.items.invariant c.items-test.false in
    record { kinds = f.0; ends = f.1 }
