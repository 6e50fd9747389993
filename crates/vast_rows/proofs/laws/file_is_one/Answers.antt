use Rattle.vast_rows.proofs.Bridge.{one_file}
use Rattle.vast_rows.proofs.laws.file_is_one.Goals as goal

pub returns : goal.returns
returns c = one_file
