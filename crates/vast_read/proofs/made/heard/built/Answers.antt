use Rattle.vast_read.proofs.Making.{begins_built, goes_on_built, ends_built}
use Rattle.vast_read.proofs.made.heard.built.Goals as goal

pub events-init : goal.events-init
events-init c = rw c.new-values.ensures (begins_built c.args.events)

pub events-preserved : goal.events-preserved
events-preserved c = goes_on_built c.args.events c.events.events c.pop.new.self c.in-Some.event c.events.values c.happens.new.values c.events.invariant c.in-Some.ensures c.in_ok-happens.ensures

pub returns : goal.returns
returns c = λ t e. ends_built c.args.events c.events.events c.events.values t c.events.invariant c.in_default.ensures.0 e
