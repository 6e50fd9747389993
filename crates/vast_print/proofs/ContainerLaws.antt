-- Laws of writing the containers, functions and always blocks of the arena, and what they hold.
use Rattle.std.proofs.Common.{◌≡◌, ◌<◌, ℕ, zero, suc, ◌+◌, Bool, true, false, List, [], ◌∷◌, length, refl, sym, ◌∙◌, codes, arith, Option, Some, None, slice_get, All}
use Rattle.vast_literal.specs.Tree.{ExprTree, CallTree, NoExpr, SomeExpr, NoStatements, MoreStatements, StatementTree, AssignTree, AssignMember}
use Rattle.vast_literal.specs.declared.kind.VastFileType.{VastFileType as Dialect}
use Rattle.vast_literal.specs.declared.kind.AssignmentForm.TheVariants.{Blocking, Nonblocking, Continuous}
use Rattle.vast_literal.specs.declared.kind.CaseKind.{CaseKind as CaseWord}
use Rattle.vast_literal.specs.declared.kind.CaseKind.TheVariants.{Case as CaseExact, CaseZ, CaseX}
use Rattle.vast_literal.specs.Shape.{is_bare_arm, is_one_assignment, is_one_casez, name_alone}
use Rattle.vast_core.specs.declared.handle.Expr.{Expr}
use Rattle.vast_core.specs.declared.handle.VastStatement.{VastStatement}
use Rattle.vast_core.specs.declared.node.Assignment.{Assignment}
use Rattle.vast_core.specs.declared.node.Statement.{Statement}
use Rattle.vast_core.specs.Sound.{StatementSound}
use Rattle.vast_core.proofs.Lists.{below-of}
use Rattle.vast_core.specs.Bench.{Bench, OwnsStatement, tree_of, trees_of}
use Rattle.vast_core.specs.Nests.{NestRecord, BlockRecord}
use Rattle.vast_core.specs.declared.node.Statement.TheVariants.{Assignment as AssignStatement, Continuous as ContinuousStatement, Conditional as ConditionalStatement, Case as CasesStatement}
use Rattle.vast_core.specs.FileTree.{Family, BlockFamily, family, unfolded, families, conditional_statement, case_statement, conditional_member, form_of, assigned_tree, continuous_tree, statement_in, statements_tree}
use Rattle.vast_print.specs.Internal.Bodies.{assignment_of, bare_assignment}
use Rattle.vast_print.specs.Printed.{plain_text, ◌⊕◌}
use Rattle.vast_print.specs.Page.{written}
use Rattle.vast_print.specs.Output.{Output, word, next, indented, inline}
use Rattle.vast_print.specs.Text.{expr_text}
use Rattle.vast_print.specs.Statements.{assignment_operator, called_text, label_text, statement_page, statements_page, block_page}
use Rattle.vast_print.specs.Internal.Statements.{arm_body_page}
use Rattle.vast_print.specs.Members.{member_page}
use Rattle.vast_print.proofs.Lines.{word-nothing, word-word}
use Rattle.vast_print.proofs.OutputLaws.{inline-word, indented-blank, indented-written, inline-line, inline-then, inline-above-none}
use Rattle.vast_print.proofs.StatementLaws.{indented-for, inline-counting, indented-assign, inline-assign, indented-task, indented-arm, indented-comment, indented-blank-statement, indented-inline, indented-conditional, indented-case, inline-no-else, inline-else, inline-block-none, inline-block, inline-arm-block, inline-else-if-arm, indented-arms, indented-arms-none}
use Rattle.vast_print.proofs.ListLaws.{indented-no-statements, indented-statements, indented-no-locals, indented-locals}
use Rattle.vast_print.proofs.SeparatedLaws.{inline-no-inputs, inline-inputs, inline-no-events, inline-events}
use Rattle.vast_print.proofs.MemberLaws.{indented-always, inline-always-events, inline-always-alone, indented-declaration, indented-comment-member, indented-blank-member, indented-import-member, indented-typedef-member, indented-inline-member, indented-macro, indented-local, indented-function, indented-function-member, indented-body-block, indented-body-casez, indented-loop, inline-loop, inline-label-text, inline-no-label, inline-input-text}
use Rattle.vast_print.proofs.ArenaLaws.{stops, declarations, listed}
use Rattle.vast_print.proofs.Left.{left}

-- assignments

pub inline-assigned : (d : ℕ) (k : Output) (nonblocking : Bool) (l r : ExprTree) →
    inline d k (statement_page (AssignTree (form_of nonblocking) l r))
    ≡ word (inline d (word (inline d k (written (expr_text l))) (assignment_operator (form_of nonblocking))) (written (expr_text r))) (codes ";")
inline-assigned d k true l r = rw (word-nothing k) at (inline-assign d k Nonblocking l r)
inline-assigned d k false l r = rw (word-nothing k) at (inline-assign d k Blocking l r)

pub indented-assigned : (b : Bench) (d : ℕ) (k : Output) (o : Option Assignment) → indented d k (statement_page (assigned_tree b o)) ≡ inline d (next d k) (statement_page (assigned_tree b o))
unfolding statement_page
indented-assigned b d k None = indented-blank d k ∙ sym (inline-line d (next d k) [] ∙ word-nothing (next d k))
indented-assigned b d k (Some a) = indented-written d k _

-- an assignment of a module is one of a block
pub indented-assign-same : (d : ℕ) (k : Output) (dialect : Dialect) (l r : ExprTree) → indented d k (member_page dialect (AssignMember l r)) ≡ indented d k (statement_page (AssignTree Continuous l r))
unfolding member_page statement_page
indented-assign-same d k dialect l r = refl

pub ruleset assignments = (indented-assign, stops)

pub ruleset tasks = (indented-task, stops)

-- calls without arguments and with some

pub called-alone : (call : ExprTree) (name : List ℕ) → name_alone call ≡ Some name → called_text (name_alone call) call ≡ plain_text name
called-alone call name h = rw h refl

pub called-whole : (call : ExprTree) → name_alone call ≡ None → called_text (name_alone call) call ≡ expr_text call
called-whole call h = rw h refl

pub alone-named : (b : Bench) (name : List ℕ) (arguments : List Expr) → length arguments ≡ 0 → name_alone (CallTree name (trees_of b arguments)) ≡ Some name
alone-named b name [] h = refl
alone-named b name (x ∷ xs) h = absurd (omega arith)

pub not-alone : (b : Bench) (name : List ℕ) (arguments : List Expr) → (length arguments ≡ 0 → ⊥) → name_alone (CallTree name (trees_of b arguments)) ≡ None
not-alone b name [] h = absurd (h refl)
not-alone b name (x ∷ xs) h = refl

pub ruleset alone = (alone-named, not-alone, called-alone, called-whole, stops)

-- blocks

pub inline-block-empty : (b : Bench) (d : ℕ) (k : Output) (xs : List Statement) → length xs ≡ 0 → inline d k (block_page (statements_tree b xs)) ≡ word k (codes "begin end")
inline-block-empty b d k [] h = inline-block-none d k
inline-block-empty b d k (x ∷ xs) h = absurd (omega arith)

pub inline-block-full : (b : Bench) (d : ℕ) (k : Output) (xs : List Statement) → 0 < length xs →
    inline d k (block_page (statements_tree b xs)) ≡ word (next d (indented (d + 1) (word k (codes "begin")) (statements_page (statements_tree b xs)))) (codes "end")
inline-block-full b d k [] h = absurd (omega arith)
inline-block-full b d k (x ∷ xs) h = inline-block d k (statement_in b (families b) x) (statements_tree b xs)

pub ruleset blocks = (inline-block-empty, inline-block-full, stops)

pub ruleset statements = (indented-assigned, indented-comment, indented-blank-statement, indented-inline, stops)

-- what is left of a block
pub ruleset below = (indented-no-statements, indented-statements, left, stops)

-- conditionals

pub ruleset conditionals = (indented-conditional, inline-else-if-arm, inline-no-else, inline-else, left, stops)

-- cases

pub inline-label : (d : ℕ) (k : Output) (e : ExprTree) → inline d k (written (label_text (SomeExpr e) ⊕ plain_text (codes ": "))) ≡ word (inline d k (written (expr_text e))) (codes ": ")
inline-label d k e = simp (inline-then, inline-word)

pub inline-default : (d : ℕ) (k : Output) → inline d k (written (label_text NoExpr ⊕ plain_text (codes ": "))) ≡ word k (codes "default: ")
inline-default d k = simp (inline-then, inline-word, word-word)

pub ruleset labels = (inline-label, inline-default, stops)

-- arms of one assignment

there-at : {A : Type 0} (xs : List A) (i : ℕ) → i < length xs → (x : A) × (slice_get xs i ≡ Some x)
there-at [] i h = absurd (omega arith)
there-at (y ∷ xs) zero h = (y, refl)
there-at (y ∷ xs) (suc i) h = there-at xs i (omega arith)

assigned-there : (b : Bench) (s : VastStatement) → OwnsStatement b s → (a : Assignment) × (slice_get b.assignments s.id.index ≡ Some a)
assigned-there b s h = there-at b.assignments s.id.index (below-of s.id.index (length b.assignments) h.of_kind)

inline-bare : (d : ℕ) (k : Output) (nonblocking : Bool) (l r : ExprTree) →
    inline d k (arm_body_page CaseZ (MoreStatements (AssignTree (form_of nonblocking) l r) NoStatements)) ≡ inline d k (statement_page (AssignTree (form_of nonblocking) l r))
unfolding arm_body_page statements_page statement_page
inline-bare d k true l r = inline-above-none d k _
inline-bare d k false l r = inline-above-none d k _

inline-bare-assigned : (b : Bench) (d : ℕ) (k : Output) (s : VastStatement) → OwnsStatement b s →
    inline d k (arm_body_page CaseZ (MoreStatements (assigned_tree b (slice_get b.assignments s.id.index)) NoStatements))
    ≡ inline d k (statement_page (assigned_tree b (slice_get b.assignments s.id.index)))
inline-bare-assigned b d k s h =
    let t = assigned-there b s h in rw t.1 (inline-bare d k t.0.nonblocking (tree_of b t.0.lhs) (tree_of b t.0.rhs))

inline-bare-entry : (b : Bench) (i d : ℕ) (k : Output) (e : Statement) (s : VastStatement) → Some s ≡ assignment_of e → StatementSound b i e →
    inline d k (arm_body_page CaseZ (MoreStatements (statement_in b (families b) e) NoStatements))
    ≡ inline d k (statement_page (assigned_tree b (slice_get b.assignments s.id.index)))
inline-bare-entry b i d k (AssignStatement t) s h own = let same : s ≡ t = cc in rw same (inline-bare-assigned b d k t own)
inline-bare-entry b i d k _ s h own = cc

pub inline-arm-bare : (b : Bench) (i d : ℕ) (k : Output) (w : CaseWord) (xs : List Statement) (s : VastStatement) → Some s ≡ bare_assignment w xs → All (StatementSound b i) xs →
    inline d k (arm_body_page w (statements_tree b xs)) ≡ inline d k (statement_page (assigned_tree b (slice_get b.assignments s.id.index)))
inline-arm-bare b i d k CaseExact xs s h sound = cc
inline-arm-bare b i d k CaseZ [] s h sound = cc
inline-arm-bare b i d k CaseZ (x ∷ []) s h sound = inline-bare-entry b i d k x s h (sound 0 x (omega arith))
inline-arm-bare b i d k CaseZ (x ∷ y ∷ xs) s h sound = cc
inline-arm-bare b i d k CaseX xs s h sound = cc

-- a statement that is no assignment
abbrev IsOther : StatementTree → Type 0
IsOther t = is_one_assignment (MoreStatements t NoStatements) ≡ false

other-continuous : (b : Bench) (o : Option Assignment) → IsOther (continuous_tree b o)
other-continuous b None = refl
other-continuous b (Some a) = refl

other-conditional : (f : Family) → IsOther (conditional_statement f)
other-conditional (BlockFamily held) = refl
other-conditional _ = refl

other-case-record : (b : Bench) (f : ℕ → Family) (o : Option NestRecord) → IsOther (case_statement (family b f o))
other-case-record b f (Some (BlockRecord statements)) = refl
other-case-record b f _ = refl

other-unfolded : (b : Bench) (n i : ℕ) → IsOther (case_statement (unfolded b n i))
other-unfolded b zero i = refl
other-unfolded b (suc n) i = other-case-record b (unfolded b n) (slice_get b.nests i)

other-case : (b : Bench) (i : ℕ) → IsOther (case_statement (families b i))
unfolding families
other-case b i = other-unfolded b (length b.nests) i

not-bare-entry : (b : Bench) (e : Statement) → None ≡ assignment_of e → IsOther (statement_in b (families b) e)
not-bare-entry b (AssignStatement t) h = cc
not-bare-entry b (ContinuousStatement t) h = other-continuous b (slice_get b.assignments t.id.index)
not-bare-entry b (ConditionalStatement c) h = other-conditional (families b c.id.index)
not-bare-entry b (CasesStatement c) h = other-case b c.id.index
not-bare-entry b _ h = refl

not-bare : (b : Bench) (w : CaseWord) (es : List Statement) → None ≡ bare_assignment w es → is_bare_arm w (statements_tree b es) ≡ false
not-bare b CaseExact es h = refl
not-bare b CaseZ [] h = refl
not-bare b CaseZ (e ∷ []) h = not-bare-entry b e h
not-bare b CaseZ (e ∷ g ∷ es) h = more (statement_in b (families b) e)
  where
    more : (t : StatementTree) → is_one_assignment (MoreStatements t (MoreStatements (statement_in b (families b) g) (statements_tree b es))) ≡ false
    more (AssignTree Blocking l r) = refl
    more _ = refl
not-bare b CaseX es h = refl

pub inline-arm-full : (b : Bench) (d : ℕ) (k : Output) (w : CaseWord) (xs : List Statement) → None ≡ bare_assignment w xs →
    inline d k (arm_body_page w (statements_tree b xs)) ≡ inline d k (block_page (statements_tree b xs))
inline-arm-full b d k w xs h = inline-arm-block d k w (statements_tree b xs) (not-bare b w xs h)

pub ruleset cases = (indented-case, indented-arms-none, indented-arms, indented-arm, left, stops)

-- always blocks

pub ruleset always = (indented-always, inline-always-events, inline-always-alone, stops)

-- functions

-- inputs and events
pub ruleset separated = (inline-no-inputs, inline-inputs, inline-no-events, inline-events, left, stops)

pub ruleset locals = (indented-no-locals, indented-locals, left, stops)

-- blocks that are one casez

pub casez-among : (b : Bench) (xs : List Statement) → (length xs ≡ 1 → ⊥) → is_one_casez (statements_tree b xs) ≡ false
casez-among b [] h = refl
casez-among b (y ∷ []) h = absurd (h refl)
casez-among b (y ∷ z ∷ xs) h = refl

pub ruleset functions = (indented-function-member, indented-function, indented-local, indented-body-block, indented-body-casez, inline-input-text, declarations)

-- loops

-- of all loops, and of those of blocks
pub ruleset headers = (inline-loop, inline-counting, inline-label-text, inline-no-label, stops)

pub ruleset counted = (indented-for, stops)

pub ruleset loops = (indented-loop, listed)

-- members

-- a conditional of a module is one of a block
pub indented-held-conditional-same : (d : ℕ) (k : Output) (dialect : Dialect) (f : Family) → indented d k (member_page dialect (conditional_member f)) ≡ indented d k (statement_page (conditional_statement f))
unfolding member_page statement_page
indented-held-conditional-same d k dialect (BlockFamily held) = refl
indented-held-conditional-same d k dialect _ = refl

pub ruleset members = (indented-declaration, indented-assign-same, indented-comment-member, indented-blank-member, indented-import-member, indented-typedef-member, indented-inline-member, indented-macro, indented-held-conditional-same, stops)
