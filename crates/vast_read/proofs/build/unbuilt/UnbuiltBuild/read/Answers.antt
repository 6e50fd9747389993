use Rattle.std.proofs.Common.{ap, ◌∙◌}
use Rattle.vast_read.specs.Internal.Values.{told}
use Rattle.vast_read.proofs.Trees.{told_nothing, told_read}
use Rattle.vast_read.proofs.build.unbuilt.UnbuiltBuild.read.Goals as goal

pub returns-then-branch : goal.returns-then-branch
returns-then-branch c = told_read (λ a. told a.told.value) _ _ _ _ _ _ c.in_ok-read_told.ensures c.if-branch.true (ap told c.of.ensures ∙ told_nothing)
