use Rattle.std.proofs.Common.{ap}
use Rattle.vast_read.specs.Internal.Values.{denoted}
use Rattle.vast_read.specs.View.{view}
use Rattle.vast_read.proofs.Trees.{grown_read}
use Rattle.vast_read.proofs.build.trees.TreesBuild.read.Goals as goal

pub returns-then-branch : goal.returns-then-branch
returns-then-branch c = grown_read (λ a. denoted a.values) _ _ _ _ _ (λ x. view x.value) _ _ c.in_ok-read_told.ensures c.if-branch.true (ap denoted c.new-growing.ensures) c.tree.ensures
