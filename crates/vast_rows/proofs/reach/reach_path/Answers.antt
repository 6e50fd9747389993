use Rattle.std.proofs.Common.{refl}
use Rattle.vast_rows.proofs.Reached.{path_read, no_path}
use Rattle.vast_rows.proofs.reach.reach_path.Goals as goal

pub returns-then-is_path : goal.returns-then-is_path
returns-then-is_path g c = path_read _ _ (rw c.if-is_path.true at c.is_path.ensures) c.take.ensures.left

pub returns-else-is_path : goal.returns-else-is_path
returns-else-is_path g c = (refl, no_path _ (rw c.if-is_path.false at c.is_path.ensures))
