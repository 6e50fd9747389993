use Rattle.xlsynth_vast.proofs.ModuleNames.{module-names-are-distinct}
use Rattle.xlsynth_vast.proofs.laws.module_names_are_distinct.Goals as goal

pub returns : goal.returns
returns c = module-names-are-distinct c.args.file.now c.args.owner (rw c.file.view_is at c.file_is_sound.ensures.names)
