use Rattle.vast_print.proofs.Derivations.{equal-texts}
use Rattle.vast_print.proofs.laws.equal_texts.Goals as goal

pub returns : goal.returns
returns c = equal-texts
