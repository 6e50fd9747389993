use Rattle.std.proofs.Common.{length}
use Rattle.vast_read.proofs.Making.{Building}
use Rattle.vast_read.proofs.made.heard.built.Given as goal

abbrev pub invariant-events : goal.invariant-events
invariant-events l = Building l.fn.events l.events l.values

abbrev pub decreases-events : goal.decreases-events
decreases-events l = length l.events
