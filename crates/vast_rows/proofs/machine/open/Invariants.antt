use Rattle.std.proofs.Common.{◌≡◌, List}
use Rattle.vast_literal.specs.Tokens.{Token}
use Rattle.vast_rows.specs.Facts.{fact_in, facts_view}
use Rattle.vast_rows.specs.Internal.Predictive.{lead}
use Rattle.vast_rows.specs.Internal.Sources.{head_kind}
use Rattle.vast_rows.specs.Rows.{rows_view}
use Rattle.vast_rows.proofs.Turns.{Onward}
use Rattle.vast_rows.proofs.machine.open.Given as goal

abbrev pub invariant-rules : goal.invariant-rules
invariant-rules g l = (rest : List Token) → l.kind ≡ head_kind rest → Onward g.K.Sink.after (rows_view l.table.items.now l.table.rows.now) (fact_in (facts_view l.table.facts.now)) rest l.fn.stack l.fn.sink l.stack l.sink

abbrev pub decreases-rules : goal.decreases-rules
decreases-rules g l = lead (fact_in (facts_view l.table.facts.now)) l.stack
