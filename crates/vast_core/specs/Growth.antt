-- What a file holds after a call, and the handle of what the call made.
use Rattle.std.specs.Prelude.{◌≡◌, ℕ, ℤ, Bool, List, [], ◌∷◌, ◌++◌, length, Some, Result, Ok, Err}
use Rattle.std.specs.Fmt.{signed_decimal}
use Rattle.std.specs.declared.alloc.AllocError.{AllocError}
use Rattle.vast_literal.specs.Tree.{ExprTree, NameTree, LiteralTree, IndexTree, SliceTree, ConcatTree, SomeExpr, Exprs, NoExprs, MoreExprs, TypeTree, VectorTree, ExternalTree, Typed}
use Rattle.vast_core.specs.Handles.{Id, Expr, LogicRef, IndexableExpr, Index, Slice, VastDataType, VastModule, ModulePort, ContinuousAssignment}
use Rattle.vast_literal.specs.declared.kind.ModulePortDirection.{ModulePortDirection}
use Rattle.vast_literal.specs.declared.kind.DataKind.{DataKind}
use Rattle.vast_core.specs.ArenaState.{ArenaState}
use Rattle.vast_core.specs.View.{bench}
use Rattle.vast_core.specs.Nodes.{Root, ExprRoot, TypeRoot, with_node}
use Rattle.vast_core.specs.Records.{Assignment, FileItem, ModuleEntry, FileTypedefEntry, Member, DeclarationEntry, TypedefEntry, DeclaredType, declared_name, new_module, with_listed_port, with_listed_member, with_listed_name, changed_at}
use Rattle.vast_core.specs.Bench.{Bench, tree_of, trees_of, type_of}

-- The call returns this and leaves this, both of what the file held; or memory was refused and nothing changed.
abbrev pub Builds : {A : Type 0} → (old new : Bench) → Result A AllocError → (Bench → A) → (Bench → Bench) → Type 0
Builds old new (Ok x) answer after = (x ≡ answer old) × (new ≡ after old)
Builds old new (Err _) answer after = new ≡ old

-- The same of a call that returns nothing.
abbrev pub Leaves : (old new : Bench) → Result (Unit {0}) AllocError → (Bench → Bench) → Type 0
Leaves old new result after = Builds old new result (λ _. tt) after

-- The same two of the arenas that hold the file.
abbrev pub Grows : {A : Type 0} → (old new : ArenaState) → Result A AllocError → (Bench → A) → (Bench → Bench) → Type 0
Grows old new result answer after = Builds (bench old) (bench new) result answer after

abbrev pub GrowsBy : (old new : ArenaState) → Result (Unit {0}) AllocError → (Bench → Bench) → Type 0
GrowsBy old new result after = Leaves (bench old) (bench new) result after

abbrev pub with_root : Bench → Root → Bench
with_root b r = record b { nodes = with_node b.nodes r }

abbrev pub with_expr : ExprTree → Bench → Bench
with_expr e b = with_root b (ExprRoot e)

-- A type more.
abbrev pub with_type : TypeTree → Bench → Bench
with_type t b = with_root b (TypeRoot t)

-- The id of the next node of an arena that holds this many.
abbrev pub next_id : Bench → ℕ → Id
next_id b count = record { file_id = b.nodes.id; index = count }

-- The id of the next expression or type.
abbrev pub next_node : Bench → Id
next_node b = next_id b (length b.nodes.roots)

abbrev pub next_expr : Bench → Expr
next_expr b = record { id = next_node b }

abbrev pub next_logic_ref : Bench → LogicRef
next_logic_ref b = record { id = next_node b }

abbrev pub next_type : Bench → VastDataType
next_type b = record { id = next_node b }

abbrev pub next_module : Bench → VastModule
next_module b = record { id = next_id b (length b.modules) }

abbrev pub next_port : Bench → ModulePort
next_port b = record { id = next_id b (length b.ports) }

abbrev pub next_continuous : Bench → ContinuousAssignment
next_continuous b = record { id = next_id b (length b.assignments) }

-- A literal of a known value, and of one that is written in decimal.
abbrev pub known_literal : List ℕ → ℤ → ExprTree
known_literal text value = LiteralTree text (Some value)

abbrev pub decimal_literal : ℤ → ExprTree
decimal_literal value = known_literal (signed_decimal value) value

-- The sizes of dimensions that are numbers.
abbrev pub counts : List ℤ → Exprs
counts [] = NoExprs
counts (d ∷ ds) = MoreExprs (decimal_literal d) (counts ds)

-- A bit select by a number: a literal of the index, and the select.
abbrev pub with_fixed_index : IndexableExpr → List ℕ → ℤ → Bench → Bench
with_fixed_index subject text index b =
    with_expr (IndexTree (tree_of b (record { id = subject.id })) (known_literal text index)) (with_expr (known_literal text index) b)

abbrev pub next_fixed_index : List ℕ → ℤ → Bench → Index
next_fixed_index text index b = record { id = next_node (with_expr (known_literal text index) b) }

-- A part select by two numbers: literals of the upper and of the lower bound, and the select.
abbrev pub with_bounds : List ℕ → ℤ → List ℕ → ℤ → Bench → Bench
with_bounds high_text high low_text low b = with_expr (known_literal low_text low) (with_expr (known_literal high_text high) b)

abbrev pub with_fixed_slice : IndexableExpr → List ℕ → ℤ → List ℕ → ℤ → Bench → Bench
with_fixed_slice subject high_text high low_text low b =
    with_expr (SliceTree (tree_of b (record { id = subject.id })) (known_literal high_text high) (known_literal low_text low)) (with_bounds high_text high low_text low b)

abbrev pub next_fixed_slice : List ℕ → ℤ → List ℕ → ℤ → Bench → Slice
next_fixed_slice high_text high low_text low b = record { id = next_node (with_bounds high_text high low_text low b) }

-- A replication by a number: a literal of the count, and the replication.
abbrev pub with_fixed_replication : ℤ → List Expr → Bench → Bench
with_fixed_replication count parts b = with_expr (ConcatTree (SomeExpr (decimal_literal count)) (trees_of b parts)) (with_expr (decimal_literal count) b)

abbrev pub next_fixed_replication : ℤ → Bench → Expr
next_fixed_replication count b = next_expr (with_expr (decimal_literal count) b)

-- A literal of the width, and a vector of that width.
abbrev pub with_vector : ℤ → Bool → Bench → Bench
with_vector bits signed b = with_type (VectorTree (decimal_literal bits) (Some bits) signed) (with_expr (decimal_literal bits) b)

abbrev pub next_vector : ℤ → Bench → VastDataType
next_vector bits b = next_type (with_expr (decimal_literal bits) b)

-- An empty module of this name, as the file's last item.
abbrev pub with_module : List ℕ → Bench → Bench
with_module name b = record b { modules = b.modules ++ new_module name ∷ []; items = b.items ++ ModuleEntry (next_module b) ∷ [] }

-- A port more: its name as an expression, its record, and its place at the end of the module's ports.
abbrev pub with_port : VastModule → ModulePortDirection → DataKind → List ℕ → VastDataType → Bench → Bench
with_port m direction kind name data_type b =
    record b {
      nodes = with_node b.nodes (ExprRoot (NameTree name (Typed (type_of b data_type))));
      ports = b.ports ++ record { direction = direction; kind = kind; name = name; data_type = data_type; logic_ref = next_logic_ref b } ∷ [];
      modules = changed_at m.id.index (with_listed_port (next_port b) name) b.modules;
    }

abbrev pub with_assignment : Assignment → Bench → Bench
with_assignment a b = record b { assignments = b.assignments ++ a ∷ [] }

-- A member more at the end of the module's members.
abbrev pub with_member : VastModule → Member → Bench → Bench
with_member m entry b = record b { modules = changed_at m.id.index (with_listed_member entry) b.modules }

-- The same, with a name that is taken from then on.
abbrev pub with_named_member : VastModule → Member → List ℕ → Bench → Bench
with_named_member m entry name b = record b { modules = changed_at m.id.index (with_listed_name entry name) b.modules }

-- A wire, reg or logic more: its place at the end of the module's members, and its name as an expression.
abbrev pub with_declaration : VastModule → DataKind → List ℕ → VastDataType → Bench → Bench
with_declaration m kind name data_type b = with_expr (NameTree name (Typed (type_of b data_type))) (with_named_member m (DeclarationEntry kind name data_type) name b)

-- An item more at the end of the file.
abbrev pub with_item : FileItem → Bench → Bench
with_item entry b = record b { items = b.items ++ entry ∷ [] }

-- A type that is declared by name, at the end of the module's members or of the file, and the type of that name.
abbrev pub with_typedef : VastModule → DeclaredType → Bench → Bench
with_typedef m t b = with_member m (TypedefEntry t) (with_type (ExternalTree (declared_name t)) b)

abbrev pub with_file_typedef : DeclaredType → Bench → Bench
with_file_typedef t b = with_item (FileTypedefEntry t) (with_type (ExternalTree (declared_name t)) b)
