use Rattle.vast_rows.specs.declared.grammar.Phrase.TheVariants.{Expression}
use Rattle.vast_rows.specs.Internal.Sources.{SpellsPhrase}
use Rattle.vast_rows.specs.Internal.Reaches.{SpellsRule}
use Rattle.vast_rows.specs.Rows.{rows_view}
use Rattle.vast_rows.proofs.PhraseStarts.{one_phrase}
use Rattle.vast_rows.proofs.Reached.{to_expression, from_expression, all_alike}
use Rattle.vast_rows.proofs.reach.reach_expression.Goals as goal

pub reach_by-requires-clause-spells : goal.reach_by-requires-clause-spells
reach_by-requires-clause-spells g c = let p = one_phrase Expression in (p.0, from_expression (rows_view c.expressions.result.items.now c.expressions.result.rows.now) c.expressions.ensures.page p.0 p.1)

pub returns : goal.returns
returns g c = all_alike (SpellsRule (rows_view c.expressions.result.items.now c.expressions.result.rows.now) 0) (SpellsPhrase Expression) (to_expression (rows_view c.expressions.result.items.now c.expressions.result.rows.now) c.expressions.ensures.page) (from_expression (rows_view c.expressions.result.items.now c.expressions.result.rows.now) c.expressions.ensures.page) _ _ _ c.reach_by.ensures
