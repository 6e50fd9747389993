use Rattle.vast_core.specs.Handles.{rank}
use Rattle.vast_print.proofs.levels.+is_bare_expr.Given as goal

abbrev pub decreases-is_bare_expr : goal.decreases-is_bare_expr
decreases-is_bare_expr l = rank l.e
