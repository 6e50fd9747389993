use Rattle.vast_core.specs.Records.{module_record}
use Rattle.xlsynth_vast.proofs.Tests.{free_there}
use Rattle.xlsynth_vast.proofs.file.VastFile.name_is_free.Goals as goal

pub returns-clause-test : goal.returns-clause-test
returns-clause-test c =
    free_there c.args.self.now c.args.owner (module_record c.module-module.result.now) c.args.name.now _ (rw c.self.view_is at c.module-module.ensures.there) c.name_is_free.ensures
