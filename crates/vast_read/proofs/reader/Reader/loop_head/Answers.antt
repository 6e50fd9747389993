use Rattle.vast_read.proofs.LoopHeads.{stepless}
use Rattle.vast_read.proofs.reader.Reader.loop_head.Goals as goal

pub returns-else-eat_step : goal.returns-else-eat_step
returns-else-eat_step g c = stepless g.B.Build.denotes _ _ _ _ _ _ _ _ _ c.in-Some.ensures c.in_ok-start.ensures c.in-Some-2.is c.in_ok-end.ensures c.in-Some-3.is c.if-eat_step.ensures
