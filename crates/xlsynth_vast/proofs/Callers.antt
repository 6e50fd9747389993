-- For callers: what was a file's stays the file's after any call, what a call returns is the file's, and names stay free.
--
-- A call leaves lists with an element more or with an element changed; so each law is one of a list, at the terms that a
-- condition reads. A caller names `callers`.
use Rattle.std.proofs.Common.{◌≡◌, ℕ, zero, suc, ◌<◌, Bool, IsTrue, List, [], ◌∷◌, ◌++◌, length, Option, Some, None, Result, Ok, String, string_bytes, slice_get, refl, ap, subst, arith}
use Rattle.std.specs.declared.alloc.Global.{Global}
use Rattle.vast_literal.specs.Tree.{FileTree}
use Rattle.vast_literal.specs.declared.error.VastFault.{VastFault}
use Rattle.vast_core.specs.declared.handle.Expr.{Expr}
use Rattle.vast_core.specs.declared.handle.VastDataType.{VastDataType}
use Rattle.vast_core.specs.declared.handle.ModulePort.{ModulePort}
use Rattle.vast_core.specs.declared.handle.VastStatementBlock.{VastStatementBlock}
use Rattle.vast_core.specs.declared.node.Assignment.{Assignment}
use Rattle.vast_core.specs.declared.node.ElseIf.{ElseIf}
use Rattle.vast_core.specs.declared.node.CaseArm.{CaseArm}
use Rattle.vast_core.specs.Nodes.{Root, expr_in, type_in, expr_of_root, type_of_root, is_expr_root, is_type_root, is_root_of, is_name, is_index, is_slice, is_macro}
use Rattle.vast_core.specs.Records.{ModuleRecord, InstanceRecord, changed_at, with_name, with_listed_port, with_listed_parameter, with_listed_member, with_listed_name}
use Rattle.vast_core.specs.declared.node.ParameterPort.{ParameterPort}
use Rattle.vast_core.specs.declared.node.Definition.{Definition}
use Rattle.vast_core.specs.declared.node.Artifact.{Artifact}
use Rattle.vast_core.specs.declared.node.Member.{Member}
use Rattle.vast_core.specs.declared.node.Port.{Port}
use Rattle.vast_core.specs.Nests.{NestRecord, BlockRecord, FunctionRecord, AlwaysRecord, nest_kind, is_kind, BlockKind, ConditionalKind, CaseStatementKind, LoopKind}
use Rattle.vast_core.specs.declared.node.Statement.{Statement}
use Rattle.vast_core.specs.Bench.{is_continuous, is_blank_line, is_comment, is_inline, is_macro_statement, names_of}
use Rattle.vast_core.specs.Containers.{StatementEnters, ElseIfEnters, ElseEnters, CaseArmEnters, MemberEnters, with_entry, has_else}
use Rattle.vast_print.specs.Emits.{Emits}
use Rattle.vast_print.specs.Layout.{IsFileText, layout}
use Rattle.vast_core.proofs.Lists.{slice_get-seam, length-push, length-changed_at}
use Rattle.vast_core.proofs.Nests.{entry-kind, kind-changed}
use Rattle.vast_core.proofs.NodeLaws.{some_expr}
use Rattle.vast_core.proofs.Sound.{never}

-- A test that an element of a list passes, it passes where the list has elements more.

still : {A : Type 0} (test : Option A → Bool) → (IsTrue (test None) → ⊥) → (xs ys : List A) (i : ℕ) → IsTrue (test (slice_get xs i)) → IsTrue (test (slice_get (xs ++ ys) i))
still test n [] ys i h = absurd (n h)
still test n (x ∷ xs) ys zero h = h
still test n (x ∷ xs) ys (suc i) h = still test n xs ys i h

-- Expressions and types.

pub expr_stays : (xs ys : List Root) (i : ℕ) → IsTrue (is_expr_root (slice_get xs i)) → IsTrue (is_expr_root (slice_get (xs ++ ys) i))
expr_stays xs ys i h = still is_expr_root never xs ys i h

pub type_stays : (xs ys : List Root) (i : ℕ) → IsTrue (is_type_root (slice_get xs i)) → IsTrue (is_type_root (slice_get (xs ++ ys) i))
type_stays xs ys i h = still is_type_root never xs ys i h

pub name_stays : (xs ys : List Root) (i : ℕ) → IsTrue (is_root_of is_name (slice_get xs i)) → IsTrue (is_root_of is_name (slice_get (xs ++ ys) i))
name_stays xs ys i h = still (is_root_of is_name) never xs ys i h

pub index_stays : (xs ys : List Root) (i : ℕ) → IsTrue (is_root_of is_index (slice_get xs i)) → IsTrue (is_root_of is_index (slice_get (xs ++ ys) i))
index_stays xs ys i h = still (is_root_of is_index) never xs ys i h

pub slice_stays : (xs ys : List Root) (i : ℕ) → IsTrue (is_root_of is_slice (slice_get xs i)) → IsTrue (is_root_of is_slice (slice_get (xs ++ ys) i))
slice_stays xs ys i h = still (is_root_of is_slice) never xs ys i h

pub macro_stays : (xs ys : List Root) (i : ℕ) → IsTrue (is_root_of is_macro (slice_get xs i)) → IsTrue (is_root_of is_macro (slice_get (xs ++ ys) i))
macro_stays xs ys i h = still (is_root_of is_macro) never xs ys i h

pub last_root : (xs : List Root) (r : Root) → slice_get (xs ++ r ∷ []) (length xs) ≡ Some r
last_root xs r = slice_get-seam xs r

pub name_is_expr : (xs : List Root) (i : ℕ) → IsTrue (is_root_of is_name (slice_get xs i)) → IsTrue (is_expr_root (slice_get xs i))
name_is_expr xs i h = some_expr is_name (slice_get xs i) h

pub index_is_expr : (xs : List Root) (i : ℕ) → IsTrue (is_root_of is_index (slice_get xs i)) → IsTrue (is_expr_root (slice_get xs i))
index_is_expr xs i h = some_expr is_index (slice_get xs i) h

pub slice_is_expr : (xs : List Root) (i : ℕ) → IsTrue (is_root_of is_slice (slice_get xs i)) → IsTrue (is_expr_root (slice_get xs i))
slice_is_expr xs i h = some_expr is_slice (slice_get xs i) h

pub macro_is_expr : (xs : List Root) (i : ℕ) → IsTrue (is_root_of is_macro (slice_get xs i)) → IsTrue (is_expr_root (slice_get xs i))
macro_is_expr xs i h = some_expr is_macro (slice_get xs i) h

pub ruleset roots = (expr_stays, type_stays, name_stays, index_stays, slice_stays, macro_stays, last_root, name_is_expr, index_is_expr, slice_is_expr, macro_is_expr)

-- The tree of an expression, and of a type, where the file has nodes more.

root-stays : (test : Option Root → Bool) → (IsTrue (test None) → ⊥) → (xs ys : List Root) (i : ℕ) → IsTrue (test (slice_get xs i)) → slice_get (xs ++ ys) i ≡ slice_get xs i
root-stays test n [] ys i h = absurd (n h)
root-stays test n (x ∷ xs) ys zero h = refl
root-stays test n (x ∷ xs) ys (suc i) h = root-stays test n xs ys i h

pub tree_stays : (id : ℕ) (xs ys : List Root) (e : Expr) → IsTrue (is_expr_root (slice_get xs e.id.index)) → expr_in (record { id = id; roots = xs ++ ys }) e ≡ expr_in (record { id = id; roots = xs }) e
unfolding expr_in
tree_stays id xs ys e h = ap expr_of_root (root-stays is_expr_root never xs ys e.id.index h)

pub type_tree_stays : (id : ℕ) (xs ys : List Root) (t : VastDataType) → IsTrue (is_type_root (slice_get xs t.id.index)) → type_in (record { id = id; roots = xs ++ ys }) t ≡ type_in (record { id = id; roots = xs }) t
unfolding type_in
type_tree_stays id xs ys t h = ap type_of_root (root-stays is_type_root never xs ys t.id.index h)

pub ruleset trees = (tree_stays, type_tree_stays)

-- Nodes of an arena of their own.

pub more_modules : (xs : List ModuleRecord) (x : ModuleRecord) → length (xs ++ x ∷ []) ≡ suc (length xs)
more_modules xs x = length-push xs x

pub more_functions : (xs : List FunctionRecord) (x : FunctionRecord) → length (xs ++ x ∷ []) ≡ suc (length xs)
more_functions xs x = length-push xs x

pub more_ports : (xs : List Port) (x : Port) → length (xs ++ x ∷ []) ≡ suc (length xs)
more_ports xs x = length-push xs x

pub more_instances : (xs : List InstanceRecord) (x : InstanceRecord) → length (xs ++ x ∷ []) ≡ suc (length xs)
more_instances xs x = length-push xs x

pub more_definitions : (xs : List Definition) (x : Definition) → length (xs ++ x ∷ []) ≡ suc (length xs)
more_definitions xs x = length-push xs x

pub more_always_blocks : (xs : List AlwaysRecord) (x : AlwaysRecord) → length (xs ++ x ∷ []) ≡ suc (length xs)
more_always_blocks xs x = length-push xs x

pub more_assignments : (xs : List Assignment) (x : Assignment) → length (xs ++ x ∷ []) ≡ suc (length xs)
more_assignments xs x = length-push xs x

pub changed_modules : (f : ModuleRecord → ModuleRecord) (xs : List ModuleRecord) (i : ℕ) → length (changed_at i f xs) ≡ length xs
changed_modules f xs i = length-changed_at f xs i

pub changed_functions : (f : FunctionRecord → FunctionRecord) (xs : List FunctionRecord) (i : ℕ) → length (changed_at i f xs) ≡ length xs
changed_functions f xs i = length-changed_at f xs i

pub continuous_stays : (xs ys : List Assignment) (i : ℕ) → IsTrue (is_continuous (slice_get xs i)) → IsTrue (is_continuous (slice_get (xs ++ ys) i))
continuous_stays xs ys i h = still is_continuous never xs ys i h

pub last_assignment : (xs : List Assignment) (a : Assignment) → slice_get (xs ++ a ∷ []) (length xs) ≡ Some a
last_assignment xs a = slice_get-seam xs a

pub blank_line_stays : (xs ys : List Artifact) (i : ℕ) → IsTrue (is_blank_line (slice_get xs i)) → IsTrue (is_blank_line (slice_get (xs ++ ys) i))
blank_line_stays xs ys i h = still is_blank_line never xs ys i h

pub comment_stays : (xs ys : List Artifact) (i : ℕ) → IsTrue (is_comment (slice_get xs i)) → IsTrue (is_comment (slice_get (xs ++ ys) i))
comment_stays xs ys i h = still is_comment never xs ys i h

pub inline_stays : (xs ys : List Artifact) (i : ℕ) → IsTrue (is_inline (slice_get xs i)) → IsTrue (is_inline (slice_get (xs ++ ys) i))
inline_stays xs ys i h = still is_inline never xs ys i h

pub macro_statement_stays : (xs ys : List Artifact) (i : ℕ) → IsTrue (is_macro_statement (slice_get xs i)) → IsTrue (is_macro_statement (slice_get (xs ++ ys) i))
macro_statement_stays xs ys i h = still is_macro_statement never xs ys i h

pub last_artifact : (xs : List Artifact) (a : Artifact) → slice_get (xs ++ a ∷ []) (length xs) ≡ Some a
last_artifact xs a = slice_get-seam xs a

pub ruleset records = (more_modules, more_functions, more_ports, more_instances, more_definitions, more_always_blocks, more_assignments, changed_modules, changed_functions, continuous_stays, last_assignment, blank_line_stays, comment_stays, inline_stays, macro_statement_stays, last_artifact)

-- Containers.

pub kind_after_statement : (s : Statement) (xs : List NestRecord) (place i : ℕ) → nest_kind (slice_get (changed_at place (with_entry (StatementEnters s)) xs) i) ≡ nest_kind (slice_get xs i)
kind_after_statement s xs place i = kind-changed (with_entry (StatementEnters s)) (entry-kind (StatementEnters s)) xs place i

pub kind_after_else_if : (a : ElseIf) (xs : List NestRecord) (place i : ℕ) → nest_kind (slice_get (changed_at place (with_entry (ElseIfEnters a)) xs) i) ≡ nest_kind (slice_get xs i)
kind_after_else_if a xs place i = kind-changed (with_entry (ElseIfEnters a)) (entry-kind (ElseIfEnters a)) xs place i

pub kind_after_else : (x : VastStatementBlock) (xs : List NestRecord) (place i : ℕ) → nest_kind (slice_get (changed_at place (with_entry (ElseEnters x)) xs) i) ≡ nest_kind (slice_get xs i)
kind_after_else x xs place i = kind-changed (with_entry (ElseEnters x)) (entry-kind (ElseEnters x)) xs place i

pub kind_after_case_arm : (a : CaseArm) (xs : List NestRecord) (place i : ℕ) → nest_kind (slice_get (changed_at place (with_entry (CaseArmEnters a)) xs) i) ≡ nest_kind (slice_get xs i)
kind_after_case_arm a xs place i = kind-changed (with_entry (CaseArmEnters a)) (entry-kind (CaseArmEnters a)) xs place i

pub kind_after_member : (m : Member) (xs : List NestRecord) (place i : ℕ) → nest_kind (slice_get (changed_at place (with_entry (MemberEnters m)) xs) i) ≡ nest_kind (slice_get xs i)
kind_after_member m xs place i = kind-changed (with_entry (MemberEnters m)) (entry-kind (MemberEnters m)) xs place i

pub block_stays : (xs ys : List NestRecord) (i : ℕ) → IsTrue (is_kind BlockKind (nest_kind (slice_get xs i))) → IsTrue (is_kind BlockKind (nest_kind (slice_get (xs ++ ys) i)))
block_stays xs ys i h = still (λ n. is_kind BlockKind (nest_kind n)) never xs ys i h

pub conditional_stays : (xs ys : List NestRecord) (i : ℕ) → IsTrue (is_kind ConditionalKind (nest_kind (slice_get xs i))) → IsTrue (is_kind ConditionalKind (nest_kind (slice_get (xs ++ ys) i)))
conditional_stays xs ys i h = still (λ n. is_kind ConditionalKind (nest_kind n)) never xs ys i h

pub case_stays : (xs ys : List NestRecord) (i : ℕ) → IsTrue (is_kind CaseStatementKind (nest_kind (slice_get xs i))) → IsTrue (is_kind CaseStatementKind (nest_kind (slice_get (xs ++ ys) i)))
case_stays xs ys i h = still (λ n. is_kind CaseStatementKind (nest_kind n)) never xs ys i h

pub loop_stays : (xs ys : List NestRecord) (i : ℕ) → IsTrue (is_kind LoopKind (nest_kind (slice_get xs i))) → IsTrue (is_kind LoopKind (nest_kind (slice_get (xs ++ ys) i)))
loop_stays xs ys i h = still (λ n. is_kind LoopKind (nest_kind n)) never xs ys i h

pub last_nest : (xs ys : List NestRecord) (n : NestRecord) → slice_get (xs ++ n ∷ ys) (length xs) ≡ Some n
last_nest [] ys n = refl
last_nest (x ∷ xs) ys n = last_nest xs ys n

pub nest_kind_there : (xs ys : List NestRecord) (n : NestRecord) → nest_kind (slice_get (xs ++ n ∷ ys) (length xs)) ≡ nest_kind (Some n)
nest_kind_there xs ys n = ap nest_kind (last_nest xs ys n)

pub more_nests : (xs : List NestRecord) (n : NestRecord) → length (xs ++ n ∷ []) ≡ suc (length xs)
more_nests xs n = length-push xs n

-- Whether a conditional has its `else`.

pub else_stays : (xs ys : List NestRecord) (i : ℕ) → IsTrue (is_kind ConditionalKind (nest_kind (slice_get xs i))) → has_else (slice_get (xs ++ ys) i) ≡ has_else (slice_get xs i)
else_stays [] ys i h = absurd (never h)
else_stays (x ∷ xs) ys zero h = refl
else_stays (x ∷ xs) ys (suc i) h = else_stays xs ys i h

else-changed : (f : NestRecord → NestRecord) → ((n : NestRecord) → has_else (Some (f n)) ≡ has_else (Some n)) → (xs : List NestRecord) (place i : ℕ) → has_else (slice_get (changed_at place f xs) i) ≡ has_else (slice_get xs i)
else-changed f h [] place i = refl
else-changed f h (x ∷ xs) zero zero = h x
else-changed f h (x ∷ xs) zero (suc i) = refl
else-changed f h (x ∷ xs) (suc place) zero = refl
else-changed f h (x ∷ xs) (suc place) (suc i) = else-changed f h xs place i

statement-else : (s : Statement) (n : NestRecord) → has_else (Some (with_entry (StatementEnters s) n)) ≡ has_else (Some n)
statement-else s (BlockRecord ss) = refl
statement-else s _ = refl

pub else_after_statement : (s : Statement) (xs : List NestRecord) (place i : ℕ) → has_else (slice_get (changed_at place (with_entry (StatementEnters s)) xs) i) ≡ has_else (slice_get xs i)
else_after_statement s xs place i = else-changed (with_entry (StatementEnters s)) (statement-else s) xs place i

else_if-else : (a : ElseIf) (n : NestRecord) → has_else (Some (with_entry (ElseIfEnters a) n)) ≡ has_else (Some n)
else_if-else a (BlockRecord ss) = refl
else_if-else a _ = refl

pub else_after_else_if : (a : ElseIf) (xs : List NestRecord) (place i : ℕ) → has_else (slice_get (changed_at place (with_entry (ElseIfEnters a)) xs) i) ≡ has_else (slice_get xs i)
else_after_else_if a xs place i = else-changed (with_entry (ElseIfEnters a)) (else_if-else a) xs place i

case_arm-else : (a : CaseArm) (n : NestRecord) → has_else (Some (with_entry (CaseArmEnters a) n)) ≡ has_else (Some n)
case_arm-else a (BlockRecord ss) = refl
case_arm-else a _ = refl

pub else_after_case_arm : (a : CaseArm) (xs : List NestRecord) (place i : ℕ) → has_else (slice_get (changed_at place (with_entry (CaseArmEnters a)) xs) i) ≡ has_else (slice_get xs i)
else_after_case_arm a xs place i = else-changed (with_entry (CaseArmEnters a)) (case_arm-else a) xs place i

member-else : (m : Member) (n : NestRecord) → has_else (Some (with_entry (MemberEnters m) n)) ≡ has_else (Some n)
member-else m (BlockRecord ss) = refl
member-else m _ = refl

pub else_after_member : (m : Member) (xs : List NestRecord) (place i : ℕ) → has_else (slice_get (changed_at place (with_entry (MemberEnters m)) xs) i) ≡ has_else (slice_get xs i)
else_after_member m xs place i = else-changed (with_entry (MemberEnters m)) (member-else m) xs place i

pub ruleset containers = (kind_after_statement, kind_after_else_if, kind_after_else, kind_after_case_arm, kind_after_member, block_stays, conditional_stays, case_stays, loop_stays, last_nest, nest_kind_there, more_nests, else_stays, else_after_statement, else_after_else_if, else_after_case_arm, else_after_member)

-- Names that a module has taken.

names-changed :
    (f : ModuleRecord → ModuleRecord) → ((m : ModuleRecord) → (f m).names ≡ m.names) → (xs : List ModuleRecord) (i j : ℕ) →
    names_of (slice_get (changed_at i f xs) j) ≡ names_of (slice_get xs j)
names-changed f h [] i j = refl
names-changed f h (x ∷ xs) zero zero = h x
names-changed f h (x ∷ xs) zero (suc j) = refl
names-changed f h (x ∷ xs) (suc i) zero = refl
names-changed f h (x ∷ xs) (suc i) (suc j) = names-changed f h xs i j

pub names_after_member : (e : Member) (xs : List ModuleRecord) (i j : ℕ) → names_of (slice_get (changed_at i (with_listed_member e) xs) j) ≡ names_of (slice_get xs j)
names_after_member e xs i j = names-changed (with_listed_member e) (λ m. refl) xs i j

pub names_after_parameter : (p : ParameterPort) (xs : List ModuleRecord) (i j : ℕ) → names_of (slice_get (changed_at i (with_listed_parameter p) xs) j) ≡ names_of (slice_get xs j)
names_after_parameter p xs i j = names-changed (with_listed_parameter p) (λ m. refl) xs i j

names-there :
    (f : ModuleRecord → ModuleRecord) (name : List ℕ) → ((m : ModuleRecord) → (f m).names ≡ with_name name m.names) → (xs : List ModuleRecord) (i : ℕ) → i < length xs →
    names_of (slice_get (changed_at i f xs) i) ≡ with_name name (names_of (slice_get xs i))
names-there f name h [] i below = absurd (omega arith)
names-there f name h (x ∷ xs) zero below = h x
names-there f name h (x ∷ xs) (suc i) below = names-there f name h xs i (omega arith)

pub names_after_port : (p : ModulePort) (name : List ℕ) (xs : List ModuleRecord) (i : ℕ) → i < length xs → names_of (slice_get (changed_at i (with_listed_port p name) xs) i) ≡ with_name name (names_of (slice_get xs i))
names_after_port p name xs i below = names-there (with_listed_port p name) name (λ m. refl) xs i below

pub names_after_declaration : (e : Member) (name : List ℕ) (xs : List ModuleRecord) (i : ℕ) → i < length xs → names_of (slice_get (changed_at i (with_listed_name e name) xs) i) ≡ with_name name (names_of (slice_get xs i))
names_after_declaration e name xs i below = names-there (with_listed_name e name) name (λ m. refl) xs i below

pub last_module : (xs : List ModuleRecord) (m : ModuleRecord) → slice_get (xs ++ m ∷ []) (length xs) ≡ Some m
last_module xs m = slice_get-seam xs m

pub ruleset names = (names_after_member, names_after_parameter, names_after_port, names_after_declaration, last_module)

-- All of it.
pub ruleset callers = (roots, trees, records, containers, names)

-- What `emit` returns is a file's text. A function whose contract says so of its own answer names this law.
pub emitted_text : (file : FileTree) (text : String Global) (answer : Result (String Global) VastFault) → Emits (layout file) answer → answer ≡ Ok text → IsFileText (string_bytes text)
emitted_text file text answer h e = let m = subst (λ (r : Result (String Global) VastFault). Emits (layout file) r) e h in (file, m.0, m.1)
