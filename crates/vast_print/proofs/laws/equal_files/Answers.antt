use Rattle.vast_print.proofs.Derivations.{equal-files}
use Rattle.vast_print.proofs.laws.equal_files.Goals as goal

pub returns : goal.returns
returns c = equal-files
