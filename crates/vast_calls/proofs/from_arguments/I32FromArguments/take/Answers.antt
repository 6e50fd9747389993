use Rattle.vast_calls.proofs.Words.{integer_read}
use Rattle.vast_calls.proofs.from_arguments.I32FromArguments.take.Goals as goal

pub returns : goal.returns
returns c = integer_read _ _ _ _ _ _ c.in_ok-left.ensures c.narrow.ensures c.map_err.ensures.cases
