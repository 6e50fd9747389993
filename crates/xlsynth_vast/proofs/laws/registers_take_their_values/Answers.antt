use Rattle.xlsynth_vast.proofs.RegisterValues.{registers-take-their-values}
use Rattle.xlsynth_vast.proofs.laws.registers_take_their_values.Goals as goal

pub returns : goal.returns
returns c = registers-take-their-values
