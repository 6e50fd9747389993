use Rattle.vast_rows.specs.Facts.{fact_in, facts_view}
use Rattle.vast_rows.specs.Rows.{rows_view}
use Rattle.vast_rows.proofs.OneTelling.{tells_once}
use Rattle.vast_rows.proofs.laws.telling_is_one.Goals as goal

pub returns : goal.returns
returns c = tells_once (rows_view c.args.table.now.items.now c.args.table.now.rows.now) (fact_in (facts_view c.args.table.now.facts.now)) c.args.table.now.checked
