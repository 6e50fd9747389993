use Rattle.std.proofs.Common.{ℕ, List, Some, Bor, refl, arith}
use Rattle.vast_core.specs.declared.handle.Expr.{Expr}
use Rattle.xlsynth_vast.proofs.Connected.{one_more}
use Rattle.xlsynth_vast.proofs.instances.parameters.Goals as goal

pub loop-i-preserved : goal.loop-i-preserved
loop-i-preserved c = (
  rw c.in_ok-push.ensures.items (one_more (λ (n : Bor (List ℕ)). n.now) (λ (e : Bor Expr). Some e.now) _ _ _ _ _ _ _ _ _ (omega arith) (omega arith) refl refl c.loop-i.invariant.0 c.in_ok-connection.ensures),
  refl,
)
