use Rattle.vast_rows.proofs.HeaderTurns.{comparison_less, comparison_closes}
use Rattle.vast_rows.proofs.header.reach_comparison.Goals as goal

pub returns-then-eat : goal.returns-then-eat
returns-then-eat g c = λ v. comparison_less v _ _ _ _ c.in_ok-push.ensures.ok (rw c.if-eat.true at c.eat.ensures)

pub returns-then-eat-2 : goal.returns-then-eat-2
returns-then-eat-2 g c = λ v. comparison_closes v _ _ _ _ _ _ (rw c.if-is_closing_due.true at c.is_closing_due.ensures) c.pop.ensures c.in_ok-push-2.ensures.ok
    (rw (c.if-eat-2.true, (rw c.if-eat.false at c.eat.ensures).0) at c.eat-then-is_closing_due.ensures)
