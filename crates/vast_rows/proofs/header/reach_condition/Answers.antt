use Rattle.std.proofs.Common.{◌∙◌}
use Rattle.vast_rows.proofs.HeaderTurns.{condition_opens, condition_named, condition_refused}
use Rattle.vast_rows.proofs.header.reach_condition.Goals as goal

pub returns-then-eat : goal.returns-then-eat
returns-then-eat g c = condition_opens _ _ _ _ _ _ c.in_ok-push.ensures.ok c.in_ok-push-2.ensures.ok (rw c.if-eat.true at c.eat.ensures)

pub returns-then-eat_variable : goal.returns-then-eat_variable
returns-then-eat_variable g c =
    let none = rw c.if-eat.false at c.eat.ensures in
    condition_named _ _ _ _ _ _ c.in_ok-push-3.ensures.ok (rw (c.if-eat_variable.true, none.0) at c.eat_variable.ensures.read) (rw (c.if-eat_variable.true, none.0) at c.eat_variable.ensures.named)

pub returns : goal.returns
returns g c =
    let none = rw c.if-eat.false at c.eat.ensures in
    let no_name = rw c.if-eat_variable.false at c.eat_variable.ensures.read in
    (no_name.0 ∙ none.0, condition_refused _ _ _ none.1 (rw none.0 at no_name.1))
