use Rattle.vast_read.specs.View.{view}
use Rattle.vast_read.proofs.Conditions.{reads_bound}
use Rattle.vast_read.proofs.build.trees.TreesBuild.bound.Goals as goal

pub returns-in-Some : goal.returns-in-Some
returns-in-Some c = reads_bound (λ x. view x.value) _ _ _ (λ x. view x.value) _ c.in-Some.condition _ c.in_ok-read.ensures c.in-Some.is (rw c.into_inner.ensures at c.bound.ensures)
