use Rattle.std.proofs.Common.{sym, ap, ◌∙◌}
use Rattle.vast_rows.specs.declared.machine.Due.TheVariants as due
use Rattle.vast_rows.specs.Facts.{fact_in, facts_view}
use Rattle.vast_rows.specs.Kinds.{number}
use Rattle.vast_rows.specs.Numbers.{rule_number}
use Rattle.vast_rows.specs.Internal.Sources.{HasNone, HasRead}
use Rattle.vast_rows.specs.Rows.{rows_view}
use Rattle.vast_rows.proofs.Turns.{led, begins_so, unspelled, refuses_token, eats, eats_one, refuses_phrase, reads, ends}
use Rattle.vast_rows.proofs.machine.read.Goals as goal

pub tokens-init : goal.tokens-init
tokens-init g c = rw (c.in_ok-push.ensures.ok, c.new-stack.ensures, c.number.ensures) (begins_so (rows_view c.args.table.now.items.now c.args.table.now.rows.now) (fact_in (facts_view c.args.table.now.facts.now)) (rule_number c.args.start) (g.S.Source.left c.args.source.now) c.args.sink.now
    c.requires (g.met.K.Sink.nothing c.args.sink.now))

pub returns-in-Wrong : goal.returns-in-Wrong
returns-in-Wrong g c = unspelled (rows_view c.args.table.now.items.now c.args.table.now.rows.now) (rule_number c.args.start) (g.S.Source.left c.args.source.now)
    (led (rows_view c.args.table.now.items.now c.args.table.now.rows.now) (fact_in (facts_view c.args.table.now.facts.now)) (g.S.Source.left c.tokens.source) c.tokens.stack c.tokens.sink c.open.new.stack c.open.new.sink c.in_ok-open.field-0 due.Wrong (c.in_ok-open.ensures (g.S.Source.left c.tokens.source) (c.number-kind.ensures.number ∙ ap number c.kind.ensures)) c.in-Wrong.is
    (rule_number c.args.start) (g.S.Source.left c.args.source.now) c.args.sink.now c.tokens.invariant)

pub returns-in-Nothing : goal.returns-in-Nothing
returns-in-Nothing g c = rw (c.number-kind.ensures.number, c.kind.ensures) (ends (rows_view c.args.table.now.items.now c.args.table.now.rows.now) (fact_in (facts_view c.args.table.now.facts.now)) (rule_number c.args.start) (g.S.Source.left c.args.source.now) (g.S.Source.left c.tokens.source) c.args.sink.now c.open.new.sink
    (led (rows_view c.args.table.now.items.now c.args.table.now.rows.now) (fact_in (facts_view c.args.table.now.facts.now)) (g.S.Source.left c.tokens.source) c.tokens.stack c.tokens.sink c.open.new.stack c.open.new.sink c.in_ok-open.field-0 due.Nothing (c.in_ok-open.ensures (g.S.Source.left c.tokens.source) (c.number-kind.ensures.number ∙ ap number c.kind.ensures)) c.in-Nothing.is
    (rule_number c.args.start) (g.S.Source.left c.args.source.now) c.args.sink.now c.tokens.invariant))

pub returns-then-kind-due : goal.returns-then-kind-due
returns-then-kind-due g c = refuses_token (rows_view c.args.table.now.items.now c.args.table.now.rows.now) (fact_in (facts_view c.args.table.now.facts.now)) (rule_number c.args.start) (g.S.Source.left c.args.source.now) (g.S.Source.left c.tokens.source) c.open.new.stack c.in-Token.due c.args.sink.now c.open.new.sink
    (led (rows_view c.args.table.now.items.now c.args.table.now.rows.now) (fact_in (facts_view c.args.table.now.facts.now)) (g.S.Source.left c.tokens.source) c.tokens.stack c.tokens.sink c.open.new.stack c.open.new.sink c.in_ok-open.field-0 (due.Token c.in-Token.due) (c.in_ok-open.ensures (g.S.Source.left c.tokens.source) (c.number-kind.ensures.number ∙ ap number c.kind.ensures)) c.in-Token.is
    (rule_number c.args.start) (g.S.Source.left c.args.source.now) c.args.sink.now c.tokens.invariant)
    (λ e. c.if-kind-due.true ((c.number-kind.ensures.number ∙ ap number c.kind.ensures) ∙ e))

pub tokens-smaller-in-Continue-branch-4 : goal.tokens-smaller-in-Continue-branch-4
tokens-smaller-in-Continue-branch-4 g c = eats_one (rows_view c.args.table.now.items.now c.args.table.now.rows.now) (fact_in (facts_view c.args.table.now.facts.now)) (rule_number c.args.start) (g.S.Source.left c.args.source.now) (g.S.Source.left c.tokens.source) _ c.open.new.stack c.in-Token.due c.args.sink.now c.open.new.sink
    (led (rows_view c.args.table.now.items.now c.args.table.now.rows.now) (fact_in (facts_view c.args.table.now.facts.now)) (g.S.Source.left c.tokens.source) c.tokens.stack c.tokens.sink c.open.new.stack c.open.new.sink c.in_ok-open.field-0 (due.Token c.in-Token.due) (c.in_ok-open.ensures (g.S.Source.left c.tokens.source) (c.number-kind.ensures.number ∙ ap number c.kind.ensures)) c.in-Token.is
    (rule_number c.args.start) (g.S.Source.left c.args.source.now) c.args.sink.now c.tokens.invariant)
    (sym (c.number-kind.ensures.number ∙ ap number c.kind.ensures) ∙ c.if-kind-due.false) c.in_ok-take-in-Token.ensures.left

pub tokens-preserved-in-Continue-branch-4 : goal.tokens-preserved-in-Continue-branch-4
tokens-preserved-in-Continue-branch-4 g c = eats (rows_view c.args.table.now.items.now c.args.table.now.rows.now) (fact_in (facts_view c.args.table.now.facts.now)) (rule_number c.args.start) (g.S.Source.left c.args.source.now) (g.S.Source.left c.tokens.source) _ c.open.new.stack c.in-Token.due c.args.sink.now c.open.new.sink c.take.new.sink g.met.K.Sink.joined
    (led (rows_view c.args.table.now.items.now c.args.table.now.rows.now) (fact_in (facts_view c.args.table.now.facts.now)) (g.S.Source.left c.tokens.source) c.tokens.stack c.tokens.sink c.open.new.stack c.open.new.sink c.in_ok-open.field-0 (due.Token c.in-Token.due) (c.in_ok-open.ensures (g.S.Source.left c.tokens.source) (c.number-kind.ensures.number ∙ ap number c.kind.ensures)) c.in-Token.is
    (rule_number c.args.start) (g.S.Source.left c.args.source.now) c.args.sink.now c.tokens.invariant)
    (sym (c.number-kind.ensures.number ∙ ap number c.kind.ensures) ∙ c.if-kind-due.false) c.in_ok-take-in-Token.ensures.left c.in_ok-take-in-Token.ensures.told

pub returns-in-None : goal.returns-in-None
returns-in-None g c =
    let h : HasNone c.in-Phrase.phrase (g.S.Source.left c.tokens.source) = rw c.in-None.is at c.in_ok-phrase-in-Phrase.ensures in
    refuses_phrase (rows_view c.args.table.now.items.now c.args.table.now.rows.now) (fact_in (facts_view c.args.table.now.facts.now)) (rule_number c.args.start) (g.S.Source.left c.args.source.now) (g.S.Source.left c.tokens.source) c.open.new.stack c.in-Phrase.phrase c.args.sink.now c.open.new.sink
    c.args.table.now.checked
    (led (rows_view c.args.table.now.items.now c.args.table.now.rows.now) (fact_in (facts_view c.args.table.now.facts.now)) (g.S.Source.left c.tokens.source) c.tokens.stack c.tokens.sink c.open.new.stack c.open.new.sink c.in_ok-open.field-0 (due.Phrase c.in-Phrase.phrase) (c.in_ok-open.ensures (g.S.Source.left c.tokens.source) (c.number-kind.ensures.number ∙ ap number c.kind.ensures)) c.in-Phrase.is
    (rule_number c.args.start) (g.S.Source.left c.args.source.now) c.args.sink.now c.tokens.invariant)
    h

pub tokens-preserved : goal.tokens-preserved
tokens-preserved g c =
    let h : HasRead c.in-Phrase.phrase (g.S.Source.left c.tokens.source) (g.S.Source.denotes c.in-Some.made) (g.S.Source.left c.phrase.new.self) = rw c.in-Some.is at c.in_ok-phrase-in-Phrase.ensures in
    reads (rows_view c.args.table.now.items.now c.args.table.now.rows.now) (fact_in (facts_view c.args.table.now.facts.now)) (rule_number c.args.start) (g.S.Source.left c.args.source.now) (g.S.Source.left c.tokens.source) (g.S.Source.left c.phrase.new.self) c.open.new.stack c.in-Phrase.phrase (g.S.Source.denotes c.in-Some.made) c.args.sink.now c.open.new.sink c.reads.new.self
    c.args.table.now.checked g.met.K.Sink.joined
    (led (rows_view c.args.table.now.items.now c.args.table.now.rows.now) (fact_in (facts_view c.args.table.now.facts.now)) (g.S.Source.left c.tokens.source) c.tokens.stack c.tokens.sink c.open.new.stack c.open.new.sink c.in_ok-open.field-0 (due.Phrase c.in-Phrase.phrase) (c.in_ok-open.ensures (g.S.Source.left c.tokens.source) (c.number-kind.ensures.number ∙ ap number c.kind.ensures)) c.in-Phrase.is
    (rule_number c.args.start) (g.S.Source.left c.args.source.now) c.args.sink.now c.tokens.invariant)
    h c.in_ok-reads-in-Some.ensures
