use Rattle.vast_calls.proofs.Words.{reads_two}
use Rattle.vast_calls.proofs.helpers.ResetNumbersFromArguments.take.Goals as goal

pub returns : goal.returns
returns c = reads_two _ _ _ _ _ _ _ c.in_ok-open.ensures c.in_ok-signal.ensures c.in_ok-active_low.ensures c.in_ok-close.ensures
