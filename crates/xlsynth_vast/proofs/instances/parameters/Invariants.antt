use Rattle.std.proofs.Common.{◌≡◌, ℕ, List, Some, map, take, length, Bor}
use Rattle.vast_core.specs.declared.handle.Expr.{Expr}
use Rattle.xlsynth_vast.specs.Instances.{connected}
use Rattle.xlsynth_vast.proofs.instances.parameters.Given as goal

abbrev pub invariant-loop-i : goal.invariant-loop-i
invariant-loop-i l = (l.made.items ≡ connected (map (λ (n : Bor (List ℕ)). n.now) (take l.i l.names)) (map (λ (e : Bor Expr). Some e.now) (take l.i l.values))) × (l.i-end ≡ length l.names)
