use Rattle.vast_print.proofs.Derivations.{printed-file}
use Rattle.vast_print.proofs.laws.printed_files.Goals as goal

pub returns : goal.returns
returns c = printed-file
