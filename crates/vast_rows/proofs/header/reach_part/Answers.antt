use Rattle.std.proofs.Common.{option_map}
use Rattle.vast_rows.proofs.HeaderTurns.{token_leads, closing_leads, one_leads, variable_leads, expression_leads, bound_leads, for_ok}
use Rattle.vast_rows.proofs.header.reach_part.Goals as goal

pub returns-in-Token : goal.returns-in-Token
returns-in-Token g c = rw (c.in-Token.is, c.reached.ensures) (token_leads _ _ _ _ _ _ c.eat.ensures)

pub returns-in-Closing : goal.returns-in-Closing
returns-in-Closing g c = rw (c.in-Closing.is, c.reached-in-Closing.ensures) (closing_leads _ _ _ _ _ c.eat-in-Closing.ensures)

pub returns-in-Variable : goal.returns-in-Variable
returns-in-Variable g c = rw (c.in-Variable.is, c.reached-in-Variable.ensures, c.eat_variable.ensures.named) (variable_leads _ _ _ _ _ c.eat_variable.ensures.read)

pub returns-in-One : goal.returns-in-One
returns-in-One g c = rw (c.in-One.is, c.reached-in-One.ensures) (one_leads _ _ _ _ _ c.eat_one.ensures)

pub returns-in-Expression : goal.returns-in-Expression
returns-in-Expression g c = rw c.in-Expression.is (for_ok c.reach_expression.result (λ r d. expression_leads _ _ _ _ r d) c.reach_expression.ensures)

pub returns-in-Condition : goal.returns-in-Condition
returns-in-Condition g c = rw c.in-Condition.is c.reach_condition.ensures

pub returns-in-Comparison : goal.returns-in-Comparison
returns-in-Comparison g c = rw c.in-Comparison.is (for_ok c.reach_comparison.result (λ r d. d (option_map g.S.Source.text c.args.variable.now)) c.reach_comparison.ensures)

pub returns-in-Bound : goal.returns-in-Bound
returns-in-Bound g c = rw c.in-Bound.is (for_ok c.reach_bound.result (λ r d. bound_leads _ _ _ _ r d) c.reach_bound.ensures)
