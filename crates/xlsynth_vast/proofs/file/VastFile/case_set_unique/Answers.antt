use Rattle.vast_core.specs.View.{bench}
use Rattle.xlsynth_vast.proofs.Kept.{kept-from}
use Rattle.xlsynth_vast.proofs.KeptWords.{case_unique-kept}
use Rattle.xlsynth_vast.proofs.file.VastFile.case_set_unique.Goals as goal

pub returns-clause-kept : goal.returns-clause-kept
returns-clause-kept c = kept-from _ (bench c.self.inside.ast) _ _ c.case_set_unique.ensures c.self.view_is (case_unique-kept c.args.case c.args.unique _)
