use Rattle.std.proofs.Common.{◌≡◌, ℕ, List, map, take, length, Bor, option_copied}
use Rattle.xlsynth_vast.specs.Instances.{connected}
use Rattle.xlsynth_vast.proofs.instances.connections.Given as goal

abbrev pub invariant-loop-i : goal.invariant-loop-i
invariant-loop-i l = (l.made.items ≡ connected (map (λ (n : Bor (List ℕ)). n.now) (take l.i l.names)) (map option_copied (take l.i l.values))) × (l.i-end ≡ length l.names)
