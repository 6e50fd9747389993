use Rattle.vast_core.specs.Bench.{OwnsExpr}
use Rattle.xlsynth_vast.proofs.Dimensions.{counts-in, counts-hold}
use Rattle.xlsynth_vast.proofs.file.VastFile.counted.Goals as goal

pub returns-clause-sizes : goal.returns-clause-sizes
returns-clause-sizes c = rw c.in_ok-made.ensures (counts-in c.args.self.now.nodes c.args.dimensions.now)

pub returns-clause-owned : goal.returns-clause-owned
returns-clause-owned c = rw c.in_ok-made.ensures (counts-hold (OwnsExpr c.args.self.now) c.args.dimensions.now)
