use Rattle.xlsynth_vast.proofs.Kept.{kept_by}
use Rattle.xlsynth_vast.proofs.KeptWords.{statement-kept}
use Rattle.xlsynth_vast.proofs.file.VastFile.block_add_inline_text.Goals as goal

pub returns-clause-kept : goal.returns-clause-kept
returns-clause-kept c = kept_by _ _ _ _ _ _ c.append_statement.ensures c.self.view_is (statement-kept c.args.block _ _)
