use Rattle.std.proofs.Common.{arith}
use Rattle.vast_rows.specs.Internal.Headers.{IsAt}
use Rattle.vast_rows.specs.Internal.Reaches.{SpellsRule}
use Rattle.vast_rows.specs.Rows.{rows_view}
use Rattle.vast_rows.proofs.PhraseStarts.{an_operand}
use Rattle.vast_rows.proofs.Reached.{to_bound, from_bound, all_alike}
use Rattle.vast_rows.proofs.reach.reach_bound.Goals as goal

pub reach_by-requires-clause-spells : goal.reach_by-requires-clause-spells
reach_by-requires-clause-spells g c = (_, from_bound (rows_view c.expressions.result.items.now c.expressions.result.rows.now) c.expressions.ensures.page _ (an_operand 8 (omega arith)))

pub returns : goal.returns
returns g c = all_alike (SpellsRule (rows_view c.expressions.result.items.now c.expressions.result.rows.now) 19) (IsAt 8) (to_bound (rows_view c.expressions.result.items.now c.expressions.result.rows.now) c.expressions.ensures.page) (from_bound (rows_view c.expressions.result.items.now c.expressions.result.rows.now) c.expressions.ensures.page) _ _ _ c.reach_by.ensures
