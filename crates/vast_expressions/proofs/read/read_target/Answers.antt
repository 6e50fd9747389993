use Rattle.vast_expressions.specs.Phrases.{target}
use Rattle.vast_expressions.proofs.Phrases.{all_read}
use Rattle.vast_expressions.proofs.read.read_target.Goals as goal

pub returns : goal.returns
returns g c = all_read _ _ _ _ _ _ _ _ target c.run.ensures
