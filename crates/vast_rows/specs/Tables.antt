-- The rows of a table, and what it knows of its rules.
use Rattle.std.specs.Prelude.{ℕ, List}
use Rattle.vast_rows.specs.declared.grammar.Table.{Table}
use Rattle.vast_rows.specs.Facts.{Fact, fact_in, facts_view}
use Rattle.vast_rows.specs.Rows.{Row, rows_view}

abbrev pub rows_of : Table → List Row
rows_of table = rows_view table.items.now table.rows.now

abbrev pub facts_of : Table → ℕ → Fact
facts_of table = fact_in (facts_view table.facts.now)
