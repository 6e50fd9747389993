use Rattle.vast_literal.proofs.Parts.{untyped, typed}
use Rattle.vast_literal.proofs.literal.parts.split_typed.Goals as goal

pub returns-in_default : goal.returns-in_default
returns-in_default c = untyped c.args.text.now c.in_default.ensures.cases

pub returns : goal.returns
returns c = let h = c.in-Some.ensures.cases in typed c.args.text.now c.in-Some.rest.now h.0 h.1 h.2 c.split_once.result c.split_once.ensures.cases
