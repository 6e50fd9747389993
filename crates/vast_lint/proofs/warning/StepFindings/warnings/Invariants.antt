use Rattle.std.proofs.Common.{◌≡◌, All}
use Rattle.vast_lint.proofs.warning.StepFindings.warnings.Given as goal

abbrev pub invariant-loop-finding : goal.invariant-loop-finding
invariant-loop-finding l = All (λ w. w.number ≡ l.number) l.made.items
