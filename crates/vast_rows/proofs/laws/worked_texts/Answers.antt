use Rattle.vast_rows.proofs.Worked.{worked_texts as worked}
use Rattle.vast_rows.proofs.laws.worked_texts.Goals as goal

pub returns : goal.returns
returns c = worked
