use Rattle.vast_calls.proofs.Words.{reads_piece}
use Rattle.vast_calls.proofs.from_arguments.CountFromArguments.take.Goals as goal

pub returns-in-Ok : goal.returns-in-Ok
returns-in-Ok c = reads_piece _ _ _ _ c.in_ok-left.ensures c.in-Ok.ensures
