use Rattle.vast_calls.proofs.Words.{reads_four}
use Rattle.vast_calls.proofs.helpers.RegisterNumbersFromArguments.take.Goals as goal

pub returns : goal.returns
returns c =
    reads_four _ _ _ _ _ _ _ _ _ _ _ c.in_ok-open.ensures c.in_ok-reg.ensures c.in_ok-next.ensures c.in_ok-reset_value.ensures c.in_ok-enable.ensures c.in_ok-close.ensures
