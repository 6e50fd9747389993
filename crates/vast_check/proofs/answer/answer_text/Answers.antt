use Rattle.std.proofs.Common.{List, ℕ, Bool, subst}
use Rattle.std.specs.Bool.{MatchBool}
use Rattle.vast_literal.specs.FileGrammar.{DerivesFile}
use Rattle.vast_literal.specs.NormalFile.{NormalFile}
use Rattle.vast_check.proofs.answer.answer_text.Goals as goal

abbrev Decides : List ℕ → Bool → Type 0
Decides text b = MatchBool b ((t : NormalFile) × DerivesFile text t) ((t : NormalFile) → DerivesFile text t → ⊥)

pub returns : goal.returns
returns c = λ derived. (subst (Decides c.args.text.now) c.if-branch.false c.in_ok-is_derived.ensures) derived.1.0 derived.1.1
