use Rattle.vast_designs.proofs.DesignTexts.{passthrough_printed}
use Rattle.vast_designs.proofs.wires.passthrough.Goals as goal

pub returns : goal.returns
returns c = rw (c.deref.ensures.value, c.in_ok-steps.ensures, passthrough_printed) at c.design_text.ensures
