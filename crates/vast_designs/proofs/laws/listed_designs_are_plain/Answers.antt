use Rattle.vast_designs.proofs.DesignTexts.{passthrough_plain, cases_plain}
use Rattle.vast_designs.proofs.laws.listed_designs_are_plain.Goals as goal

pub returns : goal.returns
returns c = record { passthrough = passthrough_plain; cases = cases_plain }
