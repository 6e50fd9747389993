use Rattle.vast_lint.proofs.Noted as noted
use Rattle.vast_lint.proofs.laws.end_tells_unmended.Goals as goal

pub returns : goal.returns
returns c = noted.end_tells_unmended
