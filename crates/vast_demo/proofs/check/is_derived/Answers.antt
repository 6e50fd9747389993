use Rattle.vast_demo.proofs.Checking.{decided_answer}
use Rattle.vast_demo.proofs.check.is_derived.Goals as goal

pub returns : goal.returns
returns c = decided_answer c.args.text.now c.is_derived.result c.is_derived.ensures
