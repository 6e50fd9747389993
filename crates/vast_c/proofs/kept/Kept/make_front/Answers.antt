use Rattle.std.proofs.Common.{Ok, ap}
use Rattle.vast_c.proofs.PackedSteps.{gave_if_ok}
use Rattle.vast_c.proofs.kept.Kept.make_front.Goals as goal

pub returns-in-Ok-None-clause-given : goal.returns-in-Ok-None-clause-given
returns-in-Ok-None-clause-given c =
    gave_if_ok c.args.self.now.session c.made_step.new.self c.make_call.new.self.session c.args.bytes.now c.make_call.result (c.in-Ok-None.ensures.same (ap (λ x. Ok x) c.in-Ok-None.field-0-is))
    c.make_call.ensures.given
