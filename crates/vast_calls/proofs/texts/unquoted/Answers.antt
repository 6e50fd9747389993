use Rattle.vast_calls.proofs.Quoted.{plain_front}
use Rattle.vast_calls.proofs.texts.unquoted.Goals as goal

pub returns-in_ok-from_str-in-Some : goal.returns-in_ok-from_str-in-Some
returns-in_ok-from_str-in-Some c = plain_front _ _ _ _ c.in-Some.ensures.cases c.if-not-contains.ensures.cases c.in_ok-from_str-in-Some.ensures.ok
