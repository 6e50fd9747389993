use Rattle.vast_core.specs.Bench.{OwnsPort}
use Rattle.xlsynth_vast.proofs.Inspected.{owned_part}
use Rattle.xlsynth_vast.proofs.file.VastFile.ports_towards.Goals as goal

pub returns-clause-owned : goal.returns-clause-owned
returns-clause-owned c =
    owned_part (OwnsPort c.args.self.now) _ _ _ _ c.module.result.now.ports.items c.loop-port.invariant c.deref-port-items.ensures.value (rw c.self.view_is at c.module.ensures.ports)
