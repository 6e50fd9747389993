-- Rows as values of their own.
use Rattle.std.specs.Prelude.{ℕ, ◌-◌, List, Option, map, take, drop}
use Rattle.vast_rows.specs.declared.action.Action.{Action}
use Rattle.vast_rows.specs.declared.grammar.Item.{Item}
use Rattle.vast_rows.specs.declared.grammar.Row as code

-- One way to spell a rule: its items, and what the row makes of what they make. The kinds of token at which it is taken the machine
-- alone looks at.
pub record Row : Type 0 where
  pub rule : ℕ
  pub items : List Item
  pub action : Option Action
  pub looks : ℕ

-- What stands from one place up to another.
abbrev pub span_of : {X : Type 0} → List X → (from end : ℕ) → List X
span_of xs from end = take (end - from) (drop from xs)

abbrev pub row_view : List Item → code.Row → Row
row_view items r = record { rule = r.rule; items = span_of items r.items r.items_end; action = r.action; looks = r.looks }

abbrev pub rows_view : List Item → List code.Row → List Row
rows_view items rows = map (row_view items) rows

-- The rows without what the machine looks at.
abbrev pub bare_row : Row → Row
bare_row row = record { rule = row.rule; items = row.items; action = row.action; looks = 0 }

abbrev pub bare : List Row → List Row
bare rows = map bare_row rows
