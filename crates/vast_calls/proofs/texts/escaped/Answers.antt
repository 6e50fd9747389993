use Rattle.std.proofs.Common.{rules}
use Rattle.vast_calls.proofs.Quoted.{so_far_front}
use Rattle.vast_calls.proofs.texts.escaped.Goals as goal

pub loop-preserved : goal.loop-preserved
loop-preserved c =
    (search rules, so_far_front _ _ _ _ _ _ _ _ c.loop.invariant.1 c.in-Some.ensures c.in-Some.c-test.1 c.in_ok-c-in-Some.ensures c.in_ok-push-in-Some.ensures.bytes)
