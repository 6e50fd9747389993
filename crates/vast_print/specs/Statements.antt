-- The pages of statements.
use Rattle.std.specs.Prelude.{ℕ, Bool, List, [], codes, cond, Option, Some, None, if◌then◌else◌}
use Rattle.vast_literal.specs.Tree.{ExprTree, MaybeExpr, NoExpr, SomeExpr}
use Rattle.vast_literal.specs.declared.kind.AssignmentForm.{AssignmentForm as AssignForm}
use Rattle.vast_literal.specs.declared.kind.AssignmentForm.TheVariants.{Nonblocking, Continuous}
use Rattle.vast_literal.specs.declared.kind.CaseKind.{CaseKind as CaseWord}
use Rattle.vast_literal.specs.declared.kind.CaseKind.TheVariants.{Case as CaseExact, CaseZ, CaseX}
use Rattle.vast_literal.specs.declared.operator.BinaryOperator.TheVariants.{Lt as LtOp}
use Rattle.vast_literal.specs.Tree.{StatementTree, AssignTree, TaskTree, CommentTree, BlankTree, InlineTree, ConditionalTree, CaseTree, ForTree, Statements, NoStatements, MoreStatements, Alternates, NoElse, ElseIf, Else, CaseArms, NoCaseArms, CaseArm}
use Rattle.vast_literal.specs.Shape.{is_bare_arm, name_alone, right_child_wraps}
use Rattle.vast_print.specs.Printed.{Printed, plain_text, ◌⊕◌, wrapped}
use Rattle.vast_print.specs.Text.{expr_text}
use Rattle.vast_print.specs.Page.{Page, no_lines, line, inner, above, beside, written, commented}

abbrev pub assign_opening : AssignForm → List ℕ
assign_opening Continuous = codes "assign "
assign_opening _ = []

abbrev pub assignment_operator : AssignForm → List ℕ
assignment_operator Nonblocking = codes " <= "
assignment_operator _ = codes " = "

abbrev pub assign_text : AssignForm → (left right : Printed) → Printed
assign_text form left right = plain_text (assign_opening form) ⊕ left ⊕ plain_text (assignment_operator form) ⊕ right ⊕ plain_text (codes ";")

abbrev pub case_word : CaseWord → List ℕ
case_word CaseExact = codes "case ("
case_word CaseZ = codes "casez ("
case_word CaseX = codes "casex ("

abbrev pub unique_word : Bool → List ℕ
unique_word unique = if unique then codes "unique " else []

abbrev pub label_text : MaybeExpr → Printed
label_text NoExpr = plain_text (codes "default")
label_text (SomeExpr e) = expr_text e

-- a call as a statement
abbrev pub called_text : Option (List ℕ) → ExprTree → Printed
called_text None call = expr_text call
called_text (Some name) call = plain_text name

abbrev pub task_text : ExprTree → Printed
task_text call = called_text (name_alone call) call ⊕ plain_text (codes ";")

-- what a loop's variable starts from, and how far it runs by one; the end stands as the right child of the comparison
unfoldable pub counting_text : (i : List ℕ) (start end : ExprTree) → Printed
counting_text i start end =
    plain_text i ⊕ plain_text (codes " = ") ⊕ expr_text start
    ⊕ plain_text (codes "; ") ⊕ plain_text i ⊕ plain_text (codes " < ") ⊕ wrapped (right_child_wraps LtOp end) (expr_text end)
    ⊕ plain_text (codes "; ") ⊕ plain_text i ⊕ plain_text (codes " = ") ⊕ plain_text i ⊕ plain_text (codes " + 1) ")

-- `begin` and `end` round the lines, which stand deeper
unfoldable pub begin_end : Page → Page
begin_end p = above (line (codes "begin")) (above (inner p) (line (codes "end")))

unfoldable mutual
  pub statement_page : StatementTree → Page
  statement_page (AssignTree form l r) = written (assign_text form (expr_text l) (expr_text r))
  statement_page (TaskTree call) = written (task_text call)
  statement_page (CommentTree text) = commented (written (plain_text text))
  statement_page BlankTree = line []
  statement_page (InlineTree text) = written (plain_text text)
  statement_page (ConditionalTree c b rest) =
      beside (written (plain_text (codes "if (") ⊕ expr_text c ⊕ plain_text (codes ") "))) (beside (block_page b) (alternates_page rest))
  statement_page (CaseTree unique word e arms) =
      above (written (plain_text (unique_word unique) ⊕ plain_text (case_word word) ⊕ expr_text e ⊕ plain_text (codes ")")))
      (above (inner (arms_page word arms)) (line (codes "endcase")))
  statement_page (ForTree i start end b) = beside (written (plain_text (codes "for (int ") ⊕ counting_text i start end)) (block_page b)

  pub statements_page : Statements → Page
  statements_page NoStatements = no_lines
  statements_page (MoreStatements s ss) = above (statement_page s) (statements_page ss)

  pub block_page : Statements → Page
  block_page NoStatements = line (codes "begin end")
  block_page (MoreStatements s ss) = begin_end (above (statement_page s) (statements_page ss))

  -- what follows a conditional's first block, after its `end`
  pub alternates_page : Alternates → Page
  alternates_page NoElse = no_lines
  alternates_page (ElseIf c b rest) =
      beside (written (plain_text (codes " else if (") ⊕ expr_text c ⊕ plain_text (codes ") "))) (beside (block_page b) (alternates_page rest))
  alternates_page (Else b) = beside (line (codes " else ")) (block_page b)

  pub arms_page : CaseWord → CaseArms → Page
  arms_page word NoCaseArms = no_lines
  arms_page word (CaseArm label b arms) =
      above (beside (written (label_text label ⊕ plain_text (codes ": "))) (cond (is_bare_arm word b) (statements_page b) (block_page b)))
      (arms_page word arms)
