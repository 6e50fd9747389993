use Rattle.xlsynth_vast.proofs.Presence.{nothing_is_missing}
use Rattle.xlsynth_vast.proofs.laws.nothing_is_missing.Goals as goal

pub returns : goal.returns
returns c = nothing_is_missing c.args.file.now (rw c.file.view_is at c.file_is_sound.ensures.records)
