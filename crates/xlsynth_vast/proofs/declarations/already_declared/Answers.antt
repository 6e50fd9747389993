use Rattle.xlsynth_vast.specs.Declarations.{already_declared}
use Rattle.xlsynth_vast.proofs.declarations.already_declared.Goals as goal

pub returns : goal.returns
unfolding already_declared
returns c = rw (← c.in_ok-list.ensures) c.format.ensures.ok
