use Rattle.std.proofs.Common.{arith}
use Rattle.std.proofs.lemmas.Grind.{common_steps}
use Rattle.vast_check.proofs.same.compare.Goals as goal

-- Neither file is told as unread, so the worse of the two isn't.
pub returns-in-Ok-Underived-clause-told : goal.returns-in-Ok-Underived-clause-told
returns-in-Ok-Underived-clause-told g c = grind (arith, common_steps)
