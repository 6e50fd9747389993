-- What calls of operators keep.
use Rattle.vast_core.specs.Growth.{next_expr}
use Rattle.xlsynth_vast.specs.Expressions.{with_unary, with_binary}
use Rattle.vast_script.specs.declared.answer.Answer.TheVariants.{Expr}
use Rattle.vast_script.specs.Outcome.{Made}
use Rattle.vast_script.specs.Kinds.{an_expr}
use Rattle.vast_script.specs.Arguments.{one, two}
use Rattle.xlsynth_vast.proofs.Kept.{keeps-root}
use Rattle.vast_script.proofs.KeptOutcomes.{CallKeeps, given-keeps}
use Rattle.vast_script.specs.Operators.{operation_call}
use Rattle.vast_steps.specs.Operators.{Operation, Before, Between}

pub operation-keeps : (made : Operation) → CallKeeps (operation_call made)
operation-keeps (Before operator e) b answers = given-keeps b (one an_expr b answers e) (λ e. Made (Expr (next_expr b)) (with_unary operator e b)) (λ e. keeps-root b _)
operation-keeps (Between operator l r) b answers = given-keeps b (two an_expr an_expr b answers l r) (λ (l, r). Made (Expr (next_expr b)) (with_binary operator l r b)) (λ (l, r). keeps-root b _)
