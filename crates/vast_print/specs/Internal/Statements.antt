-- Beside `specs/Statements.antt`: what private contracts and proofs say, and no public one.
use Rattle.std.specs.Prelude.{codes, cond}
use Rattle.vast_literal.specs.Tree.{MaybeExpr}
use Rattle.vast_literal.specs.declared.kind.CaseKind.{CaseKind as CaseWord}
use Rattle.vast_literal.specs.Tree.{Statements}
use Rattle.vast_literal.specs.Shape.{is_bare_arm}
use Rattle.vast_print.specs.Printed.{plain_text, ◌⊕◌}
use Rattle.vast_print.specs.Page.{Page, beside, written}
use Rattle.vast_print.specs.Statements.{label_text, statements_page, block_page}

-- what stands after an arm's label
unfoldable pub arm_body_page : CaseWord → Statements → Page
arm_body_page word b = cond (is_bare_arm word b) (statements_page b) (block_page b)

unfoldable pub arm_page : CaseWord → MaybeExpr → Statements → Page
arm_page word label b = beside (written (label_text label ⊕ plain_text (codes ": "))) (arm_body_page word b)
