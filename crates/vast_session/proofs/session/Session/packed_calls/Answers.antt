use Rattle.vast_session.proofs.PackedSessions.{runs_more}
use Rattle.vast_session.proofs.session.Session.packed_calls.Goals as goal

pub loop-rest-preserved-in-Ok : goal.loop-rest-preserved-in-Ok
loop-rest-preserved-in-Ok c =
    runs_more c.args.self.now c.loop-rest.self c.packed.new.self c.args.calls.now c.loop-rest.rest.now c.in-Ok.behind.now c.in-Ok.field-0-0 c.loop-rest.invariant c.in-Ok.ensures.takes

pub loop-rest-preserved-in-Ok-2 : goal.loop-rest-preserved-in-Ok-2
loop-rest-preserved-in-Ok-2 c =
    runs_more c.args.self.now c.loop-rest.self c.packed.new.self c.args.calls.now c.loop-rest.rest.now c.in-Ok.behind.now c.in-Ok.field-0-0 c.loop-rest.invariant c.in-Ok.ensures.takes

pub loop-rest-preserved-in-Ok-3 : goal.loop-rest-preserved-in-Ok-3
loop-rest-preserved-in-Ok-3 c =
    runs_more c.args.self.now c.loop-rest.self c.packed.new.self c.args.calls.now c.loop-rest.rest.now c.in-Ok.behind.now c.in-Ok.field-0-0 c.loop-rest.invariant c.in-Ok.ensures.takes

pub loop-rest-preserved-in-Ok-4 : goal.loop-rest-preserved-in-Ok-4
loop-rest-preserved-in-Ok-4 c =
    runs_more c.args.self.now c.loop-rest.self c.packed.new.self c.args.calls.now c.loop-rest.rest.now c.in-Ok.behind.now c.in-Ok.field-0-0 c.loop-rest.invariant c.in-Ok.ensures.takes
