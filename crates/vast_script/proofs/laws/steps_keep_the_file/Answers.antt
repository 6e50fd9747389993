use Rattle.vast_script.proofs.KeptSteps.{steps_keep}
use Rattle.vast_script.proofs.laws.steps_keep_the_file.Goals as goal

pub returns : goal.returns
returns c = steps_keep
