use Rattle.vast_calls.proofs.JsonLaws.{whole, text_read}
use Rattle.vast_calls.proofs.json.push_json_text.Goals as goal

pub returns : goal.returns
returns c = (whole _ _ _ _ _ c.loop-character.invariant c.in-None.ensures.steps.0.0 c.in_ok-push-2.ensures.bytes, text_read _)
