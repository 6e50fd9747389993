-- What a file's records stand for is well formed: expressions, declarations, statements and members, over containers that are.
use Rattle.std.proofs.Common.{◌≡◌, ℕ, zero, suc, true, IsTrue, List, [], ◌∷◌, Option, Some, None, slice_get, refl}
use Rattle.std.specs.Prelude.{IfSome}
use Rattle.std.specs.Cmp.Derive.{both_true}
use Rattle.vast_literal.specs.Tree.{ExprTree, NameTree, PosEdgeTree, NegEdgeTree, MacroTree}
use Rattle.vast_literal.specs.WellFormed.{is_well_formed, is_well_formed_type}
use Rattle.vast_literal.specs.WellFormedFile.{is_well_formed_maybe, is_macro, is_well_formed_statement, are_well_formed_statements, are_well_formed_alternates, are_well_formed_arms, is_well_formed_event, are_well_formed_events, is_well_formed_member}
use Rattle.vast_core.specs.Handles.{Expr, MacroRef, VastDataType, VastStatementBlock}
use Rattle.vast_core.specs.declared.node.Assignment.{Assignment}
use Rattle.vast_core.specs.Nodes.{Root, ExprRoot, TypeRoot, expr_in, expr_of_root, is_expr_root, is_root_of, is_macro as is_macro_root}
use Rattle.vast_core.specs.Nests.{CaseArm, ElseIf, Statement, AssignStatement, ContinuousStatement, TaskStatement, ConditionalStatement, CasesStatement, ForStatement}
use Rattle.vast_core.specs.Bench.{Bench, OwnsExpr, OwnsType, OwnsMacroRef, AreWellFormed, tree_of, type_of, maybe_tree_of, trees_of}
use Rattle.vast_core.specs.Sound.{Each, AssignmentSound, StatementSound, ElseIfSound, CaseArmSound, EventSound, RecordsSound, is_event}
use Rattle.vast_core.specs.FileTree.{Family, BlockFamily, ConditionalFamily, CaseFamily, LoopFamily, NoFamily, block_in, conditional_statement, case_statement, conditional_member, loop_member, assigned_tree, continuous_tree, statement_in, statements_in, otherwise_in, alternates_in, arms_in}
use Rattle.vast_core.proofs.WellFormed.{well_formed, type_well_formed}

-- What is read at a place of a list, if it is there.
pub Each-read : {A : Type 0} (P : A → Type 0) (xs : List A) (i : ℕ) → Each P xs → IfSome (slice_get xs i) P
Each-read P [] i h = tt
Each-read P (x ∷ xs) zero h = h.0
Each-read P (x ∷ xs) (suc i) h = Each-read P xs i h.1

-- Expressions and types.

pub expr-good : (b : Bench) → AreWellFormed b → (e : Expr) → OwnsExpr b e → is_well_formed (tree_of b e) ≡ true
expr-good b w e h = well_formed (tree_of b e) (w.exprs e h)

pub type-good : (b : Bench) → AreWellFormed b → (t : VastDataType) → OwnsType b t → is_well_formed_type (type_of b t) ≡ true
type-good b w t h = type_well_formed (type_of b t) (w.types t h)

pub maybe-good : (b : Bench) → AreWellFormed b → (e : Option Expr) → IfSome e (OwnsExpr b) → is_well_formed_maybe (maybe_tree_of b e) ≡ true
maybe-good b w None h = refl
maybe-good b w (Some e) h = expr-good b w e h

-- The expression of a macro is one.

macro-expr : (o : Option Root) → IsTrue (is_root_of is_macro_root o) → IsTrue (is_expr_root o)
macro-expr None h = h
macro-expr (Some (ExprRoot e)) h = refl
macro-expr (Some (TypeRoot t)) h = h

same-macro : (e : ExprTree) → IsTrue (is_macro_root e) → is_macro e ≡ true
same-macro (MacroTree name given) h = refl
same-macro _ h = h

macro-root : (o : Option Root) → IsTrue (is_root_of is_macro_root o) → is_macro (expr_of_root o) ≡ true
macro-root None h = h
macro-root (Some (ExprRoot e)) h = same-macro e h
macro-root (Some (TypeRoot t)) h = h

pub macro-is : (b : Bench) (call : MacroRef) → OwnsMacroRef b call → is_macro (tree_of b (record { id = call.id })) ≡ true
unfolding expr_in
macro-is b call h = macro-root (slice_get b.nodes.roots call.id.index) h.of_kind

pub macro-good : (b : Bench) → AreWellFormed b → (call : MacroRef) → OwnsMacroRef b call → is_well_formed (tree_of b (record { id = call.id })) ≡ true
macro-good b w call h = expr-good b w (record { id = call.id }) (record { of_file = h.of_file; of_kind = macro-expr (slice_get b.nodes.roots call.id.index) h.of_kind })

-- Events.

event-good : (e : ExprTree) → IsTrue (is_event e) → is_well_formed e ≡ true → is_well_formed_event e ≡ true
event-good (NameTree name type) h k = refl
event-good (PosEdgeTree operand) h k = k
event-good (NegEdgeTree operand) h k = k
event-good _ h k = h

pub events-good : (b : Bench) → AreWellFormed b → (es : List Expr) → Each (EventSound b) es → are_well_formed_events (trees_of b es) ≡ true
events-good b w [] h = refl
events-good b w (e ∷ es) h = both_true (event-good (tree_of b e) h.0.1 (expr-good b w e h.0.0)) (events-good b w es h.1)

-- Containers.

abbrev pub IsGood : Family → Type 0
IsGood (BlockFamily held) = are_well_formed_statements held ≡ true
IsGood (ConditionalFamily condition consequent alternates) = (is_well_formed condition ≡ true) × (are_well_formed_statements consequent ≡ true) × (are_well_formed_alternates alternates ≡ true)
IsGood (CaseFamily s) = is_well_formed_statement s ≡ true
IsGood (LoopFamily m) = is_well_formed_member m ≡ true
IsGood NoFamily = Unit {0}

pub block-good : (x : Family) → IsGood x → are_well_formed_statements (block_in x) ≡ true
block-good (BlockFamily held) h = h
block-good _ h = refl

conditional-good : (x : Family) → IsGood x → is_well_formed_statement (conditional_statement x) ≡ true
conditional-good (ConditionalFamily condition consequent alternates) h = both_true h.0 (both_true h.1 h.2)
conditional-good _ h = refl

case-good : (x : Family) → IsGood x → is_well_formed_statement (case_statement x) ≡ true
case-good (CaseFamily s) h = h
case-good _ h = refl

pub conditional_member-good : (x : Family) → IsGood x → is_well_formed_member (conditional_member x) ≡ true
conditional_member-good (ConditionalFamily condition consequent alternates) h = both_true h.0 (both_true h.1 h.2)
conditional_member-good _ h = refl

pub loop_member-good : (x : Family) → IsGood x → is_well_formed_member (loop_member x) ≡ true
loop_member-good (LoopFamily m) h = h
loop_member-good _ h = refl

-- Statements over such containers.

assigned-good : (b : Bench) → AreWellFormed b → (o : Option Assignment) → IfSome o (AssignmentSound b) → is_well_formed_statement (assigned_tree b o) ≡ true
assigned-good b w None h = refl
assigned-good b w (Some a) h = both_true (expr-good b w a.lhs h.0) (expr-good b w a.rhs h.1)

continuous-good : (b : Bench) → AreWellFormed b → (o : Option Assignment) → IfSome o (AssignmentSound b) → is_well_formed_statement (continuous_tree b o) ≡ true
continuous-good b w None h = refl
continuous-good b w (Some a) h = both_true (expr-good b w a.lhs h.0) (expr-good b w a.rhs h.1)

statement-good :
    (b : Bench) → AreWellFormed b → RecordsSound b → (f : ℕ → Family) → ((i : ℕ) → IsGood (f i)) → (n : ℕ) (s : Statement) → StatementSound b n s → is_well_formed_statement (statement_in b f s) ≡ true
statement-good b w r f g n (AssignStatement s) h = assigned-good b w (slice_get b.assignments s.id.index) (Each-read (AssignmentSound b) b.assignments s.id.index r.assignments)
statement-good b w r f g n (ContinuousStatement s) h = continuous-good b w (slice_get b.assignments s.id.index) (Each-read (AssignmentSound b) b.assignments s.id.index r.assignments)
statement-good b w r f g n (TaskStatement call) h = expr-good b w call h
statement-good b w r f g n (ConditionalStatement c) h = conditional-good (f c.id.index) (g c.id.index)
statement-good b w r f g n (CasesStatement c) h = case-good (f c.id.index) (g c.id.index)
statement-good b w r f g n (ForStatement l) h = both_true (both_true (expr-good b w l.start h.0.0) (expr-good b w l.end h.0.1)) (block-good (f l.block.id.index) (g l.block.id.index))
statement-good b w r f g n _ h = refl

pub statements-good :
    (b : Bench) → AreWellFormed b → RecordsSound b → (f : ℕ → Family) → ((i : ℕ) → IsGood (f i)) → (n : ℕ) (ss : List Statement) → Each (StatementSound b n) ss →
    are_well_formed_statements (statements_in b f ss) ≡ true
statements-good b w r f g n [] h = refl
statements-good b w r f g n (s ∷ ss) h = both_true (statement-good b w r f g n s h.0) (statements-good b w r f g n ss h.1)

otherwise-good : (f : ℕ → Family) → ((i : ℕ) → IsGood (f i)) → (o : Option VastStatementBlock) → are_well_formed_alternates (otherwise_in f o) ≡ true
otherwise-good f g None = refl
otherwise-good f g (Some c) = block-good (f c.id.index) (g c.id.index)

pub alternates-good :
    (b : Bench) → AreWellFormed b → (f : ℕ → Family) → ((i : ℕ) → IsGood (f i)) → (n : ℕ) (arms : List ElseIf) (o : Option VastStatementBlock) → Each (ElseIfSound b n) arms →
    are_well_formed_alternates (alternates_in b f arms o) ≡ true
alternates-good b w f g n [] o h = otherwise-good f g o
alternates-good b w f g n (a ∷ arms) o h = both_true (expr-good b w a.condition h.0.0) (both_true (block-good (f a.block.id.index) (g a.block.id.index)) (alternates-good b w f g n arms o h.1))

pub arms-good : (b : Bench) → AreWellFormed b → (f : ℕ → Family) → ((i : ℕ) → IsGood (f i)) → (n : ℕ) (arms : List CaseArm) → Each (CaseArmSound b n) arms → are_well_formed_arms (arms_in b f arms) ≡ true
arms-good b w f g n [] h = refl
arms-good b w f g n (a ∷ arms) h = both_true (maybe-good b w a.label h.0.0) (both_true (block-good (f a.block.id.index) (g a.block.id.index)) (arms-good b w f g n arms h.1))
