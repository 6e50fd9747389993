use Rattle.vast_print.proofs.Derivations.{printed-derives}
use Rattle.vast_print.proofs.laws.printed_expressions.Goals as goal

pub returns : goal.returns
returns c = printed-derives
