use Rattle.xlsynth_vast.proofs.Hoisted.{hoisting-again}
use Rattle.xlsynth_vast.proofs.laws.hoisting_again.Goals as goal

pub returns : goal.returns
returns c = hoisting-again
