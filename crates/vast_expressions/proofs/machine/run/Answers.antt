use Rattle.vast_expressions.proofs.Loop.{begins_at, stuck_at, ended_at, goes_on_at, less_at}
use Rattle.vast_expressions.proofs.machine.run.Goals as goal

pub returns-then-not-branch : goal.returns-then-not-branch
returns-then-not-branch g c = stuck_at _ _ _ _ _ _ _ _ _ (g.R.Source.left c.row.new.source) _ _ c.row.new.sink _ c.turns.invariant c.in_ok-row.ensures c.if-not-branch.true

pub returns-in-None : goal.returns-in-None
returns-in-None g c = ended_at _ _ _ _ _ _ _ _ _ _ _ _ c.turns.invariant c.in_ok-row.ensures c.if-not-branch.false c.in-None.ensures.0

pub turns-preserved : goal.turns-preserved
turns-preserved g c = goes_on_at _ _ _ _ _ _ _ _ _ _ _ _ _ _ c.turns.invariant c.in_ok-row.ensures c.if-not-branch.false c.in-Some.ensures

pub turns-smaller : goal.turns-smaller
turns-smaller g c = less_at _ _ _ _ _ _ _ _ _ _ _ c.in_ok-row.ensures c.if-not-branch.false c.in-Some.ensures

pub turns-init : goal.turns-init
turns-init g c = begins_at _ _ _ _ _ c.new-stack.ensures
