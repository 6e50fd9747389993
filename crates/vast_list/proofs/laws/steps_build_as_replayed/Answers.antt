use Rattle.vast_list.proofs.Built.{steps-run}
use Rattle.vast_list.proofs.laws.steps_build_as_replayed.Goals as goal

pub returns : goal.returns
returns c = λ dialect lines read steps h e. steps-run dialect lines read steps h e
