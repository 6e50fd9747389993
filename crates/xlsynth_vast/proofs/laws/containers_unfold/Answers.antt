use Rattle.vast_core.proofs.Nests.{family-at}
use Rattle.xlsynth_vast.proofs.laws.containers_unfold.Goals as goal

pub returns : goal.returns
returns c = λ i. family-at c.args.file.now i (rw c.file.view_is at c.file_is_sound.ensures.records.nests)
