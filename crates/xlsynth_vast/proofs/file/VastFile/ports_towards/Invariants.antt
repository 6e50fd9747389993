use Rattle.std.proofs.Common.{◌≡◌, filter, take}
use Rattle.xlsynth_vast.specs.Inspections.{is_direction, direction_at}
use Rattle.xlsynth_vast.proofs.file.VastFile.ports_towards.Given as goal

abbrev pub invariant-loop-port : goal.invariant-loop-port
invariant-loop-port l = l.ports.items ≡ filter (λ p. is_direction l.direction (direction_at l.self p)) (take l.port-index l.port-items)
