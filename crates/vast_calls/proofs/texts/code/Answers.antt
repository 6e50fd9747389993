use Rattle.vast_calls.proofs.Quoted.{pair_front}
use Rattle.vast_calls.proofs.texts.code.Goals as goal

pub returns-in-Some-paired : goal.returns-in-Some-paired
returns-in-Some-paired c =
    pair_front _ _ _ _ _ _ _ c.in_ok-first.ensures c.in-Some-strip_prefix.ensures.cases c.in_ok-second-in-Some-strip_prefix.ensures c.in-Some-paired.ensures.0 c.in-Some-paired.ensures.1
    c.in-Some-paired.ensures.2
