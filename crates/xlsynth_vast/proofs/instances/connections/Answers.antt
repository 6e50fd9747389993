use Rattle.std.proofs.Common.{ℕ, List, Bor, option_copied, refl, arith}
use Rattle.xlsynth_vast.proofs.Connected.{one_more}
use Rattle.xlsynth_vast.proofs.instances.connections.Goals as goal

pub loop-i-preserved : goal.loop-i-preserved
loop-i-preserved c = (
  rw c.in_ok-push.ensures.items (one_more (λ (n : Bor (List ℕ)). n.now) option_copied _ _ _ _ _ _ _ _ _ (omega arith) (omega arith) refl refl c.loop-i.invariant.0 (rw c.copied.ensures at c.in_ok-connection.ensures)),
  refl,
)
