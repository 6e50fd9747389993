use Rattle.vast_expressions.specs.Phrases.{whole}
use Rattle.vast_expressions.proofs.Phrases.{all_read}
use Rattle.vast_expressions.proofs.read.read_expression.Goals as goal

pub returns : goal.returns
returns g c = all_read _ _ _ _ _ _ _ _ whole c.run.ensures
