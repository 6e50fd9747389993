use Rattle.std.proofs.Common.{◌≡◌, map, take}
use Rattle.vast_core.specs.Records.{in_byte_order}
use Rattle.xlsynth_vast.proofs.declarations.in_byte_order.Given as goal

abbrev pub invariant-loop-index : goal.invariant-loop-index
invariant-loop-index l = map (λ name. name.now) l.sorted.keys ≡ in_byte_order (take l.index l.names)
