-- What a file holds, for its users: the trees of its expressions and types, its records and its lists.
use Rattle.std.specs.Prelude.{ℕ, Bool, true, false, List, [], length, nat_lt, Option, Some, None, slice_get}
use Rattle.vast_literal.specs.Tree.{ExprTree, TypeTree, MaybeExpr, Exprs}
use Rattle.vast_core.specs.Handles.{Expr, IndexableExpr, Index, Slice, LogicRef, ParameterRef, LocalparamRef, MacroRef, VastDataType, VastModule, VastFunction, ModulePort, Instantiation, Def, BlankLine, Comment, InlineVerilogStatement, MacroStatement, ContinuousAssignment, VastStatement, VastAlwaysBase, VastStatementBlock, Conditional, CaseStatement, GenerateLoop}
use Rattle.vast_literal.specs.declared.kind.VastFileType.{VastFileType}
use Rattle.vast_core.specs.Nodes.{Nodes, no_nodes, IsOwned, is_expr_root, is_type_root, is_root_of, is_name, is_index, is_slice, is_macro, expr_in, type_in, maybe_expr_in, exprs_in, Dimension, size_in, SizeHolds}
use Rattle.vast_core.specs.Types.{ExprWellFormed, TypeWellFormed}
use Rattle.vast_core.specs.Records.{Assignment, Port, ModuleRecord, Definition, Artifact, BlankArtifact, CommentArtifact, InlineArtifact, MacroArtifact, InstanceRecord, FileItem, IsFree}
use Rattle.vast_core.specs.Nests.{NestRecord, FunctionRecord, AlwaysRecord, nest_kind, is_kind, BlockKind, ConditionalKind, CaseStatementKind, LoopKind}

-- What a file holds for its users: the trees of its nodes, its containers, the records of all else, its items.
pub record Bench : Type 0 where
  pub file_type : VastFileType
  pub nodes : Nodes
  pub nests : List NestRecord
  pub ports : List Port
  pub assignments : List Assignment
  pub modules : List ModuleRecord
  pub functions : List FunctionRecord
  pub definitions : List Definition
  pub artifacts : List Artifact
  pub instances : List InstanceRecord
  pub always_blocks : List AlwaysRecord
  pub items : List FileItem
  -- A block that nothing holds yet, for an always block to take.
  pub detached : Option VastStatementBlock

-- A file that holds nothing.
abbrev pub start : VastFileType → ℕ → Bench
start file_type id = record { file_type = file_type; nodes = no_nodes id; nests = []; ports = []; assignments = []; modules = []; functions = []; definitions = []; artifacts = []; instances = []; always_blocks = []; items = []; detached = None }

-- The tree of a handle.

abbrev pub tree_of : Bench → Expr → ExprTree
tree_of b e = expr_in b.nodes e

abbrev pub type_of : Bench → VastDataType → TypeTree
type_of b t = type_in b.nodes t

abbrev pub maybe_tree_of : Bench → Option Expr → MaybeExpr
maybe_tree_of b e = maybe_expr_in b.nodes e

abbrev pub trees_of : Bench → List Expr → Exprs
trees_of b es = exprs_in b.nodes es

abbrev pub size_of : Bench → Dimension → ExprTree
size_of b d = size_in b.nodes d

-- Which handles are the file's: the id is the file's, and the index names a node of the handle's kind.

-- Expressions of a shape.
abbrev pub has_root : (ExprTree → Bool) → Bench → ℕ → Bool
has_root shape b i = is_root_of shape (slice_get b.nodes.roots i)

-- The handle is the file's, and its index names an expression; so it is of each kind of handle below.
abbrev pub OwnsExpr : Bench → Expr → Type 0
OwnsExpr b e = IsOwned b.nodes.id e.id (is_expr_root (slice_get b.nodes.roots e.id.index))

-- A dimension's expression is the file's, where it has one.
abbrev pub OwnsDimension : Bench → Dimension → Type 0
OwnsDimension b d = SizeHolds (OwnsExpr b) d

abbrev pub OwnsIndexable : Bench → IndexableExpr → Type 0
OwnsIndexable b e = IsOwned b.nodes.id e.id (is_expr_root (slice_get b.nodes.roots e.id.index))

abbrev pub OwnsType : Bench → VastDataType → Type 0
OwnsType b t = IsOwned b.nodes.id t.id (is_type_root (slice_get b.nodes.roots t.id.index))

-- Each expression and each type of the file is well formed.
pub record AreWellFormed (b : Bench) : Type 0 where
  pub exprs : (e : Expr) → OwnsExpr b e → ExprWellFormed (tree_of b e)
  pub types : (t : VastDataType) → OwnsType b t → TypeWellFormed (type_of b t)

abbrev pub OwnsLogicRef : Bench → LogicRef → Type 0
OwnsLogicRef b r = IsOwned b.nodes.id r.id (has_root is_name b r.id.index)

abbrev pub OwnsParameterRef : Bench → ParameterRef → Type 0
OwnsParameterRef b r = IsOwned b.nodes.id r.id (has_root is_name b r.id.index)

abbrev pub OwnsLocalparamRef : Bench → LocalparamRef → Type 0
OwnsLocalparamRef b r = IsOwned b.nodes.id r.id (has_root is_name b r.id.index)

abbrev pub OwnsIndex : Bench → Index → Type 0
OwnsIndex b r = IsOwned b.nodes.id r.id (has_root is_index b r.id.index)

abbrev pub OwnsSlice : Bench → Slice → Type 0
OwnsSlice b r = IsOwned b.nodes.id r.id (has_root is_slice b r.id.index)

abbrev pub OwnsMacroRef : Bench → MacroRef → Type 0
OwnsMacroRef b r = IsOwned b.nodes.id r.id (has_root is_macro b r.id.index)

-- Nodes of an arena of their own.
abbrev pub OwnsModule : Bench → VastModule → Type 0
OwnsModule b m = IsOwned b.nodes.id m.id (nat_lt m.id.index (length b.modules))

abbrev pub OwnsPort : Bench → ModulePort → Type 0
OwnsPort b p = IsOwned b.nodes.id p.id (nat_lt p.id.index (length b.ports))

abbrev pub OwnsFunction : Bench → VastFunction → Type 0
OwnsFunction b f = IsOwned b.nodes.id f.id (nat_lt f.id.index (length b.functions))

abbrev pub OwnsInstantiation : Bench → Instantiation → Type 0
OwnsInstantiation b i = IsOwned b.nodes.id i.id (nat_lt i.id.index (length b.instances))

abbrev pub OwnsAlways : Bench → VastAlwaysBase → Type 0
OwnsAlways b a = IsOwned b.nodes.id a.id (nat_lt a.id.index (length b.always_blocks))

abbrev pub OwnsDef : Bench → Def → Type 0
OwnsDef b d = IsOwned b.nodes.id d.id (nat_lt d.id.index (length b.definitions))

-- Any assignment is a statement; one that isn't nonblocking is also a continuous one.
abbrev pub OwnsStatement : Bench → VastStatement → Type 0
OwnsStatement b s = IsOwned b.nodes.id s.id (nat_lt s.id.index (length b.assignments))

abbrev pub is_continuous : Option Assignment → Bool
is_continuous None = false
is_continuous (Some a) = not_nonblocking a.nonblocking
  where
    not_nonblocking : Bool → Bool
    not_nonblocking true = false
    not_nonblocking false = true

abbrev pub OwnsContinuous : Bench → ContinuousAssignment → Type 0
OwnsContinuous b a = IsOwned b.nodes.id a.id (is_continuous (slice_get b.assignments a.id.index))

-- Artifacts of a kind.
abbrev pub is_blank_line : Option Artifact → Bool
is_blank_line (Some BlankArtifact) = true
is_blank_line _ = false

abbrev pub is_comment : Option Artifact → Bool
is_comment (Some (CommentArtifact text)) = true
is_comment _ = false

abbrev pub is_inline : Option Artifact → Bool
is_inline (Some (InlineArtifact text)) = true
is_inline _ = false

abbrev pub is_macro_statement : Option Artifact → Bool
is_macro_statement (Some (MacroArtifact call semicolon)) = true
is_macro_statement _ = false

abbrev pub OwnsBlankLine : Bench → BlankLine → Type 0
OwnsBlankLine b a = IsOwned b.nodes.id a.id (is_blank_line (slice_get b.artifacts a.id.index))

abbrev pub OwnsComment : Bench → Comment → Type 0
OwnsComment b a = IsOwned b.nodes.id a.id (is_comment (slice_get b.artifacts a.id.index))

abbrev pub OwnsInline : Bench → InlineVerilogStatement → Type 0
OwnsInline b a = IsOwned b.nodes.id a.id (is_inline (slice_get b.artifacts a.id.index))

abbrev pub OwnsMacroStatement : Bench → MacroStatement → Type 0
OwnsMacroStatement b a = IsOwned b.nodes.id a.id (is_macro_statement (slice_get b.artifacts a.id.index))

-- Containers of a kind.
abbrev pub OwnsBlock : Bench → VastStatementBlock → Type 0
OwnsBlock b c = IsOwned b.nodes.id c.id (is_kind BlockKind (nest_kind (slice_get b.nests c.id.index)))

abbrev pub OwnsConditional : Bench → Conditional → Type 0
OwnsConditional b c = IsOwned b.nodes.id c.id (is_kind ConditionalKind (nest_kind (slice_get b.nests c.id.index)))

abbrev pub OwnsCase : Bench → CaseStatement → Type 0
OwnsCase b c = IsOwned b.nodes.id c.id (is_kind CaseStatementKind (nest_kind (slice_get b.nests c.id.index)))

abbrev pub OwnsLoop : Bench → GenerateLoop → Type 0
OwnsLoop b c = IsOwned b.nodes.id c.id (is_kind LoopKind (nest_kind (slice_get b.nests c.id.index)))

-- The names that a module's ports, wires, variables and functions have taken.
abbrev pub names_of : Option ModuleRecord → List (List ℕ)
names_of None = []
names_of (Some m) = m.names

-- No port, wire, reg, logic, variable or function of the module has the name.
abbrev pub NameIsFree : Bench → VastModule → List ℕ → Type 0
NameIsFree b m name = IsFree name (names_of (slice_get b.modules m.id.index))

-- The names that a function's result, inputs and locals have taken.
abbrev pub function_names : Option FunctionRecord → List (List ℕ)
function_names None = []
function_names (Some f) = f.names

abbrev pub IsFreeInFunction : Bench → VastFunction → List ℕ → Type 0
IsFreeInFunction b f name = IsFree name (function_names (slice_get b.functions f.id.index))
