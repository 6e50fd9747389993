-- Laws of writing statements, one for each case.
use Rattle.std.proofs.Common.{◌≡◌, ℕ, ◌+◌, Bool, true, false, List, [], refl, sym, ◌∙◌, codes}
use Rattle.vast_literal.specs.Tree.{ExprTree, MaybeExpr, StatementTree, AssignTree, TaskTree, CommentTree, BlankTree, InlineTree, ConditionalTree, CaseTree, ForTree, Statements, NoStatements, MoreStatements, Alternates, NoElse, ElseIf, Else, CaseArms, NoCaseArms, CaseArm}
use Rattle.vast_literal.specs.declared.kind.AssignmentForm.{AssignmentForm as AssignForm}
use Rattle.vast_literal.specs.declared.kind.AssignmentForm.TheVariants.{Blocking, Nonblocking, Continuous}
use Rattle.vast_literal.specs.declared.kind.CaseKind.{CaseKind as CaseWord}
use Rattle.vast_literal.specs.declared.kind.CaseKind.TheVariants.{Case as CaseExact, CaseZ, CaseX}
use Rattle.vast_literal.specs.declared.operator.BinaryOperator.TheVariants.{Lt as LtOp}
use Rattle.vast_literal.specs.Shape.{is_bare_arm, name_alone, right_child_wraps}
use Rattle.vast_print.specs.Printed.{plain_text, ◌⊕◌, wrapped}
use Rattle.vast_print.specs.Page.{line, inner, above, written, commented}
use Rattle.vast_print.specs.Output.{Output, word, next, indented, inline}
use Rattle.vast_print.specs.Text.{expr_text}
use Rattle.vast_print.specs.Statements.{assign_opening, assignment_operator, called_text, case_word, unique_word, label_text, counting_text, begin_end, statement_page, statements_page, block_page, alternates_page, arms_page}
use Rattle.vast_print.specs.Internal.Words.{int_opening, step_word}
use Rattle.vast_print.specs.Internal.Statements.{arm_body_page, arm_page}
use Rattle.vast_print.proofs.OutputLaws.{indented-line, inline-line, indented-none, inline-none, indented-blank, indented-above, inline-above, inline-beside, indented-beside, indented-line-above, indented-inner, indented-written, inline-then, inline-word}

inline-opening : (d : ℕ) (k : Output) (form : AssignForm) → inline d k (written (plain_text (assign_opening form))) ≡ word k (assign_opening form)
inline-opening d k Blocking = inline-word d k [] refl
inline-opening d k Nonblocking = inline-word d k [] refl
inline-opening d k Continuous = inline-word d k (codes "assign ") refl

inline-sign : (d : ℕ) (k : Output) (form : AssignForm) → inline d k (written (plain_text (assignment_operator form))) ≡ word k (assignment_operator form)
inline-sign d k Blocking = inline-word d k (codes " = ") refl
inline-sign d k Nonblocking = inline-word d k (codes " <= ") refl
inline-sign d k Continuous = inline-word d k (codes " = ") refl

pub indented-assign : (d : ℕ) (k : Output) (form : AssignForm) (l r : ExprTree) →
    indented d k (statement_page (AssignTree form l r))
    ≡ word (inline d (word (inline d (word (next d k) (assign_opening form)) (written (expr_text l))) (assignment_operator form)) (written (expr_text r))) (codes ";")
unfolding statement_page
indented-assign d k form l r = indented-written d k _ ∙ simp (inline-then, inline-opening, inline-sign, inline-word)

pub inline-assign : (d : ℕ) (k : Output) (form : AssignForm) (l r : ExprTree) →
    inline d k (statement_page (AssignTree form l r))
    ≡ word (inline d (word (inline d (word k (assign_opening form)) (written (expr_text l))) (assignment_operator form)) (written (expr_text r))) (codes ";")
unfolding statement_page
inline-assign d k form l r = simp (inline-then, inline-opening, inline-sign, inline-word)

pub indented-task : (d : ℕ) (k : Output) (call : ExprTree) → indented d k (statement_page (TaskTree call)) ≡ word (inline d (next d k) (written (called_text (name_alone call) call))) (codes ";")
unfolding statement_page
indented-task d k call = indented-written d k _ ∙ simp (inline-then, inline-word)

pub indented-comment : (d : ℕ) (k : Output) (text : List ℕ) → indented d k (statement_page (CommentTree text)) ≡ indented d k (commented (written (plain_text text)))
unfolding statement_page
indented-comment d k text = refl

pub indented-blank-statement : (d : ℕ) (k : Output) → indented d k (statement_page BlankTree) ≡ next d k
unfolding statement_page
indented-blank-statement d k = indented-blank d k

pub indented-inline : (d : ℕ) (k : Output) (text : List ℕ) → indented d k (statement_page (InlineTree text)) ≡ inline d (next d k) (written (plain_text text))
unfolding statement_page
indented-inline d k text = indented-written d k (plain_text text)

-- conditionals

pub indented-conditional : (d : ℕ) (k : Output) (c : ExprTree) (b : Statements) (rest : Alternates) →
    indented d k (statement_page (ConditionalTree c b rest))
    ≡ inline d (inline d (word (inline d (word (next d k) (codes "if (")) (written (expr_text c))) (codes ") ")) (block_page b)) (alternates_page rest)
unfolding statement_page block_page alternates_page
indented-conditional d k c b rest = indented-beside d k _ _ ∙ simp (inline-beside, inline-then, inline-word)

pub inline-no-else : (d : ℕ) (k : Output) → inline d k (alternates_page NoElse) ≡ k
unfolding alternates_page
inline-no-else d k = inline-none d k

pub inline-else-if-arm : (d : ℕ) (k : Output) (c : ExprTree) (b : Statements) (rest : Alternates) →
    inline d k (alternates_page (ElseIf c b rest))
    ≡ inline d (inline d (word (inline d (word k (codes " else if (")) (written (expr_text c))) (codes ") ")) (block_page b)) (alternates_page rest)
unfolding alternates_page block_page
inline-else-if-arm d k c b rest = simp (inline-beside, inline-then, inline-word)

pub inline-else : (d : ℕ) (k : Output) (b : Statements) → inline d k (alternates_page (Else b)) ≡ inline d (word k (codes " else ")) (block_page b)
unfolding alternates_page block_page
inline-else d k b = simp (inline-beside, inline-line)

-- blocks

pub inline-block-none : (d : ℕ) (k : Output) → inline d k (block_page NoStatements) ≡ word k (codes "begin end")
unfolding block_page
inline-block-none d k = inline-line d k (codes "begin end")

pub inline-block : (d : ℕ) (k : Output) (s : StatementTree) (ss : Statements) →
    inline d k (block_page (MoreStatements s ss)) ≡ word (next d (indented (d + 1) (word k (codes "begin")) (statements_page (MoreStatements s ss)))) (codes "end")
unfolding block_page statements_page statement_page begin_end
inline-block d k s ss = inline-above d k (codes "begin") _ ∙ simp (indented-above, indented-inner, indented-line)

-- a block on a line of its own
pub indented-block : (d : ℕ) (k : Output) (b : Statements) → indented d k (block_page b) ≡ inline d (next d k) (block_page b)
unfolding block_page begin_end statements_page statement_page
indented-block d k NoStatements = indented-line d k (codes "begin end") ∙ sym (inline-line d (next d k) (codes "begin end"))
indented-block d k (MoreStatements s ss) = indented-line-above d k (codes "begin") (above (inner (statements_page (MoreStatements s ss))) (line (codes "end")))

-- cases

inline-unique-word : (d : ℕ) (k : Output) (unique : Bool) → inline d k (written (plain_text (unique_word unique))) ≡ word k (unique_word unique)
inline-unique-word d k true = inline-word d k (codes "unique ") refl
inline-unique-word d k false = inline-word d k [] refl

inline-case-word : (d : ℕ) (k : Output) (w : CaseWord) → inline d k (written (plain_text (case_word w))) ≡ word k (case_word w)
inline-case-word d k CaseExact = inline-word d k (codes "case (") refl
inline-case-word d k CaseZ = inline-word d k (codes "casez (") refl
inline-case-word d k CaseX = inline-word d k (codes "casex (") refl

pub indented-case : (d : ℕ) (k : Output) (unique : Bool) (w : CaseWord) (e : ExprTree) (arms : CaseArms) →
    indented d k (statement_page (CaseTree unique w e arms))
    ≡ word (next d (indented (d + 1) (word (inline d (word (word (next d k) (unique_word unique)) (case_word w)) (written (expr_text e))) (codes ")")) (arms_page w arms))) (codes "endcase")
unfolding statement_page arms_page
indented-case d k unique w e arms = simp (indented-above, indented-written, inline-then, inline-unique-word, inline-case-word, inline-word, indented-inner, indented-line)

pub indented-arms-none : (d : ℕ) (k : Output) (w : CaseWord) → indented d k (arms_page w NoCaseArms) ≡ k
unfolding arms_page
indented-arms-none d k w = indented-none d k

pub indented-arms : (d : ℕ) (k : Output) (w : CaseWord) (label : MaybeExpr) (b : Statements) (arms : CaseArms) →
    indented d k (arms_page w (CaseArm label b arms)) ≡ indented d (indented d k (arm_page w label b)) (arms_page w arms)
unfolding arms_page arm_page arm_body_page statements_page block_page
indented-arms d k w label b arms = indented-above d k (arm_page w label b) (arms_page w arms)

pub indented-arm : (d : ℕ) (k : Output) (w : CaseWord) (label : MaybeExpr) (b : Statements) →
    indented d k (arm_page w label b) ≡ inline d (inline d (next d k) (written (label_text label ⊕ plain_text (codes ": ")))) (arm_body_page w b)
unfolding arm_page
indented-arm d k w label b = indented-beside d k (label_text label ⊕ plain_text (codes ": ")) (arm_body_page w b)

pub inline-arm-block : (d : ℕ) (k : Output) (w : CaseWord) (b : Statements) → is_bare_arm w b ≡ false → inline d k (arm_body_page w b) ≡ inline d k (block_page b)
unfolding arm_body_page
inline-arm-block d k w b h = rw h refl

-- loops

pub indented-for : (d : ℕ) (k : Output) (i : List ℕ) (start end : ExprTree) (b : Statements) →
    indented d k (statement_page (ForTree i start end b)) ≡ inline d (inline d (word (next d k) int_opening) (written (counting_text i start end))) (block_page b)
unfolding statement_page block_page int_opening
indented-for d k i start end b = indented-beside d k _ _ ∙ simp (inline-then, inline-word)

pub inline-counting : (d : ℕ) (k : Output) (i : List ℕ) (start end : ExprTree) →
    inline d k (written (counting_text i start end))
    ≡ word (inline d (word (inline d (word (inline d (word (inline d (word (inline d (word (inline d k (written (plain_text i))) (codes " = ")) (written (expr_text start))) (codes "; "))
    (written (plain_text i))) (codes " < ")) (written (wrapped (right_child_wraps LtOp end) (expr_text end)))) (codes "; ")) (written (plain_text i))) (codes " = ")) (written (plain_text i))) step_word
unfolding counting_text step_word
inline-counting d k i start end = simp (inline-then, inline-word)
