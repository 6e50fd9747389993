use Rattle.std.proofs.Common.{◌∷◌, ap, ◌∙◌}
use Rattle.vast_rows.specs.declared.grammar.Item.{Item}
use Rattle.vast_rows.specs.declared.grammar.Item.TheVariants as item
use Rattle.vast_rows.specs.Facts.{fact_in, facts_view}
use Rattle.vast_rows.specs.Rows.{rows_view}
use Rattle.vast_rows.proofs.Leads.{leads_items}
use Rattle.vast_rows.proofs.Turns.{stays, due_now, due_nothing, opens, refuses}
use Rattle.vast_rows.proofs.machine.open.Goals as goal

pub rules-init : goal.rules-init
rules-init g c rest e = stays (rows_view c.args.table.now.items.now c.args.table.now.rows.now) (fact_in (facts_view c.args.table.now.facts.now)) rest c.args.stack.now c.args.sink.now

pub returns-in-None : goal.returns-in-None
returns-in-None g c rest e = due_nothing (rows_view c.args.table.now.items.now c.args.table.now.rows.now) (fact_in (facts_view c.args.table.now.facts.now)) rest c.args.stack.now c.rules.stack c.args.sink.now c.rules.sink
    (c.rules.invariant rest e) c.in-None.ensures.0

pub returns-in-Some-Token : goal.returns-in-Some-Token
returns-in-Some-Token g c rest e = due_now (rows_view c.args.table.now.items.now c.args.table.now.rows.now) (fact_in (facts_view c.args.table.now.facts.now)) rest c.args.stack.now c.rules.stack c.pop.new.self (item.Token c.in-Some-Token.due) c.args.sink.now c.rules.sink
    (c.rules.invariant rest e) (c.in-Some-Token.ensures ∙ ap (λ (v : Item). v ∷ c.pop.new.self) c.in-Some-Token.field-0-is)

pub returns-in-Some-Phrase : goal.returns-in-Some-Phrase
returns-in-Some-Phrase g c rest e = due_now (rows_view c.args.table.now.items.now c.args.table.now.rows.now) (fact_in (facts_view c.args.table.now.facts.now)) rest c.args.stack.now c.rules.stack c.pop.new.self (item.Phrase c.in-Some-Phrase.phrase) c.args.sink.now c.rules.sink
    (c.rules.invariant rest e) (c.in-Some-Phrase.ensures ∙ ap (λ (v : Item). v ∷ c.pop.new.self) c.in-Some-Phrase.field-0-is)

pub returns-in-None-taken : goal.returns-in-None-taken
returns-in-None-taken g c rest e = refuses (rows_view c.args.table.now.items.now c.args.table.now.rows.now) (fact_in (facts_view c.args.table.now.facts.now)) rest c.args.stack.now c.rules.stack c.pop.new.self c.args.sink.now c.rules.sink c.in-Some-Rule.rule c.args.kind
    c.args.table.now.checked (c.rules.invariant rest e) (c.in-Some-Rule.ensures ∙ ap (λ (v : Item). v ∷ c.pop.new.self) c.in-Some-Rule.field-0-is) e c.in-None-taken.ensures

pub rules-smaller : goal.rules-smaller
rules-smaller g c = leads_items (rows_view c.args.table.now.items.now c.args.table.now.rows.now) (fact_in (facts_view c.args.table.now.facts.now)) c.rules.stack c.in-Some-Rule.rule c.args.kind c.in-Some.row.number c.in-Some.row.items.now c.pop.new.self c.push_all.new.self c.in-Some.row.action
    c.args.table.now.checked (c.in-Some-Rule.ensures ∙ ap (λ (v : Item). v ∷ c.pop.new.self) c.in-Some-Rule.field-0-is) c.in-Some.ensures c.in_ok-push_all-in-Some.ensures

pub rules-preserved : goal.rules-preserved
rules-preserved g c rest e = opens (rows_view c.args.table.now.items.now c.args.table.now.rows.now) (fact_in (facts_view c.args.table.now.facts.now)) rest c.args.stack.now c.rules.stack c.pop.new.self c.in-Some.row.items.now c.push_all.new.self c.args.sink.now c.rules.sink c.tell.new.sink
    c.in-Some-Rule.rule c.args.kind c.in-Some.row.number c.in-Some.row.action
    c.args.table.now.checked g.met.K.Sink.joined (c.rules.invariant rest e) (c.in-Some-Rule.ensures ∙ ap (λ (v : Item). v ∷ c.pop.new.self) c.in-Some-Rule.field-0-is) e c.in-Some.ensures c.in_ok-push_all-in-Some.ensures c.in_ok-tell-in-Some.ensures
