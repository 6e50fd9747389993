use Rattle.std.proofs.Common.{refl}
use Rattle.vast_designs.specs.DesignCalls.{passthrough_calls}
use Rattle.vast_designs.proofs.wires.passthrough_steps.Goals as goal

pub returns : goal.returns
unfolding passthrough_calls
returns c = rw (c.in_ok-steps.ensures.items, c.in_ok-from_str.ensures.ok, c.in_ok-from_str-2.ensures.ok, c.in_ok-from_str-3.ensures.ok) refl
