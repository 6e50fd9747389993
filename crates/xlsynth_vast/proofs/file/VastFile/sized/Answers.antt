use Rattle.vast_core.specs.Bench.{OwnsExpr}
use Rattle.xlsynth_vast.proofs.Dimensions.{sizes-in, sizes-hold}
use Rattle.xlsynth_vast.proofs.file.VastFile.sized.Goals as goal

pub returns-clause-sizes : goal.returns-clause-sizes
returns-clause-sizes c = rw c.in_ok-made.ensures (sizes-in c.args.self.now.nodes c.args.dimensions.now)

pub returns-clause-owned : goal.returns-clause-owned
returns-clause-owned c = rw c.in_ok-made.ensures (sizes-hold (OwnsExpr c.args.self.now) c.args.dimensions.now c.requires)
