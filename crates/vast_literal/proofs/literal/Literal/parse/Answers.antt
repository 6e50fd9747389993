use Rattle.vast_literal.proofs.Denoted.{denoted_if_ok}
use Rattle.vast_literal.proofs.Accepted.{accepts}
use Rattle.vast_literal.proofs.literal.Literal.parse.Goals as goal

pub returns-clause-denoted : goal.returns-clause-denoted
returns-clause-denoted c = denoted_if_ok c.args.text.now c.read_literal.result c.read_literal.ensures

pub returns-clause-accepted : goal.returns-clause-accepted
returns-clause-accepted c = accepts c.args.text.now c.read_literal.result c.read_literal.ensures
