use Rattle.std.proofs.Common.{refl}
use Rattle.vast_check.proofs.program.answer_input.Goals as goal

-- Nothing was written.
pub returns-in-Err-clause-unread : goal.returns-in-Err-clause-unread
returns-in-Err-clause-unread g c = λ _. refl
