use Rattle.vast_designs.proofs.DesignTexts.{cases_printed}
use Rattle.vast_designs.proofs.encoder.cases.Goals as goal

pub returns : goal.returns
returns c = rw (c.deref.ensures.value, c.in_ok-steps.ensures, cases_printed) at c.design_text.ensures
