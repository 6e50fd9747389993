-- The arena of expressions and types: nodes, and the trees that they stand for.
use Rattle.std.specs.Prelude.{◌≡◌, ℕ, Bool, true, false, IsTrue, List, [], ◌∷◌, ◌++◌, Option, Some, None, slice_get, string_bytes, All, Vec, IfSome}
use Rattle.std.specs.Fmt.{signed_decimal}
use Rattle.std.specs.declared.alloc.Global.{Global}
use Rattle.vast_literal.specs.Tree.{ExprTree, NameTree, LiteralTree, StringTree, UnaryTree, BinaryTree, TernaryTree, IndexTree, SliceTree, PartSelectTree, MemberOfTree, ConcatTree, PatternTree, WidthCastTree, TypeCastTree, PosEdgeTree, NegEdgeTree, MacroTree, CallTree, MissingExpr, TypeTree, ScalarTree, VectorTree, IntegerTree, IntTree, ExternalTree, PackageTree, PackedTree, UnpackedTree, MissingType, MaybeType, Untyped, Typed, MaybeExpr, NoExpr, SomeExpr, Exprs, NoExprs, MoreExprs, MaybeExprs, NoArguments, SomeArguments}
use Rattle.vast_core.specs.Handles.{Id, Expr, VastDataType}
pub use Rattle.vast_core.specs.declared.node.ExprNode.{ExprNode}
use Rattle.vast_core.specs.declared.node.ExprNode.TheVariants.{Name, Literal, StringText, Unary, Binary, Ternary, Index, Slice, PartSelect, MemberOf, Concat, Pattern, WidthCast, TypeCast, PosEdge, NegEdge, Macro, MacroCall, Call, DataType}
use Rattle.vast_core.specs.declared.node.TypeNode.{TypeNode}
use Rattle.vast_core.specs.declared.node.TypeNode.TheVariants.{Scalar, Vector, Integer, Int, External, Package, Packed, Unpacked}
pub use Rattle.vast_core.specs.declared.node.Dimension.{Dimension}
use Rattle.vast_core.specs.declared.node.Dimension.TheVariants.{Count, Size}

-- What a node of the arena stands for.
pub data Root : Type 0 where
  ExprRoot : ExprTree → Root
  TypeRoot : TypeTree → Root

-- The file's id, and what its nodes stand for, in the order of their indexes.
pub record Nodes : Type 0 where
  pub id : ℕ
  pub roots : List Root

abbrev pub no_nodes : ℕ → Nodes
no_nodes id = record { id = id; roots = [] }

abbrev pub with_node : Nodes → Root → Nodes
with_node b r = record { id = b.id; roots = b.roots ++ r ∷ [] }

-- Which kinds of node an index names.

abbrev pub is_expr_root : Option Root → Bool
is_expr_root (Some (ExprRoot e)) = true
is_expr_root _ = false

abbrev pub is_type_root : Option Root → Bool
is_type_root (Some (TypeRoot t)) = true
is_type_root _ = false

abbrev pub is_name : ExprTree → Bool
is_name (NameTree name type) = true
is_name _ = false

abbrev pub is_index : ExprTree → Bool
is_index (IndexTree subject index) = true
is_index _ = false

abbrev pub is_slice : ExprTree → Bool
is_slice (SliceTree subject high low) = true
is_slice _ = false

abbrev pub is_macro : ExprTree → Bool
is_macro (MacroTree name given) = true
is_macro _ = false

-- The root is an expression of this shape.
abbrev pub is_root_of : (ExprTree → Bool) → Option Root → Bool
is_root_of shape (Some (ExprRoot e)) = shape e
is_root_of shape _ = false

abbrev pub expr_of_root : Option Root → ExprTree
expr_of_root (Some (ExprRoot e)) = e
expr_of_root _ = MissingExpr

abbrev pub type_of_root : Option Root → TypeTree
type_of_root (Some (TypeRoot t)) = t
type_of_root _ = MissingType

-- The handle is the file's, and its index names a node of its kind.
pub record IsOwned (file_id : ℕ) (id : Id) (of_its_kind : Bool) : Type 0 where
  pub of_file : id.file_id ≡ file_id
  pub of_kind : IsTrue of_its_kind

-- The tree of a handle.
unfoldable pub expr_in : Nodes → Expr → ExprTree
expr_in b e = expr_of_root (slice_get b.roots e.id.index)

unfoldable pub type_in : Nodes → VastDataType → TypeTree
type_in b t = type_of_root (slice_get b.roots t.id.index)

abbrev pub maybe_type_in : Nodes → Option VastDataType → MaybeType
maybe_type_in b None = Untyped
maybe_type_in b (Some t) = Typed (type_in b t)

abbrev pub maybe_expr_in : Nodes → Option Expr → MaybeExpr
maybe_expr_in b None = NoExpr
maybe_expr_in b (Some e) = SomeExpr (expr_in b e)

abbrev pub exprs_in : Nodes → List Expr → Exprs
exprs_in b [] = NoExprs
exprs_in b (e ∷ es) = MoreExprs (expr_in b e) (exprs_in b es)

abbrev pub maybe_exprs_in : Nodes → Option (Vec Expr Global) → MaybeExprs
maybe_exprs_in b None = NoArguments
maybe_exprs_in b (Some es) = SomeArguments (exprs_in b es.items)

-- The tree of a node, from those of its children. A type stands for no expression.
abbrev pub expr_tree : Nodes → ExprNode → ExprTree
expr_tree b (Name name type) = NameTree name (maybe_type_in b type)
expr_tree b (Literal text value) = LiteralTree text value
expr_tree b (StringText text) = StringTree (string_bytes text)
expr_tree b (Unary operator operand) = UnaryTree operator (expr_in b operand)
expr_tree b (Binary operator left right) = BinaryTree operator (expr_in b left) (expr_in b right)
expr_tree b (Ternary condition consequent alternate) = TernaryTree (expr_in b condition) (expr_in b consequent) (expr_in b alternate)
expr_tree b (Index subject index) = IndexTree (expr_in b subject) (expr_in b index)
expr_tree b (Slice subject high low) = SliceTree (expr_in b subject) (expr_in b high) (expr_in b low)
expr_tree b (PartSelect subject start width) = PartSelectTree (expr_in b subject) (expr_in b start) width
expr_tree b (MemberOf subject name) = MemberOfTree (expr_in b subject) name
expr_tree b (Concat count parts) = ConcatTree (maybe_expr_in b count) (exprs_in b parts.items)
expr_tree b (Pattern parts) = PatternTree (exprs_in b parts.items)
expr_tree b (WidthCast width operand) = WidthCastTree (expr_in b width) (expr_in b operand)
expr_tree b (TypeCast type operand) = TypeCastTree (type_in b type) (expr_in b operand)
expr_tree b (PosEdge operand) = PosEdgeTree (expr_in b operand)
expr_tree b (NegEdge operand) = NegEdgeTree (expr_in b operand)
expr_tree b (Macro name) = MacroTree (string_bytes name) NoArguments
expr_tree b (MacroCall name arguments) = MacroTree (string_bytes name) (SomeArguments (exprs_in b arguments.items))
expr_tree b (Call name arguments) = CallTree (string_bytes name) (exprs_in b arguments.items)
expr_tree b (DataType n) = MissingExpr

-- The size of a dimension: a number is its plain literal.
abbrev pub size_in : Nodes → Dimension → ExprTree
size_in b (Count count) = LiteralTree (signed_decimal count) (Some count)
size_in b (Size size) = expr_in b size

abbrev pub sizes_in : Nodes → List Dimension → Exprs
sizes_in b [] = NoExprs
sizes_in b (d ∷ ds) = MoreExprs (size_in b d) (sizes_in b ds)

abbrev pub type_tree : Nodes → TypeNode → TypeTree
type_tree b (Scalar signed) = ScalarTree signed
type_tree b (Vector width value signed) = VectorTree (expr_in b width) value signed
type_tree b (Integer signed) = IntegerTree signed
type_tree b (Int signed) = IntTree signed
type_tree b (External name) = ExternalTree (string_bytes name)
type_tree b (Package p) = PackageTree (string_bytes p.value.package_name) (string_bytes p.value.name)
type_tree b (Packed element dimensions) = PackedTree (type_in b element) (sizes_in b dimensions.items)
type_tree b (Unpacked element dimensions) = UnpackedTree (type_in b element) (sizes_in b dimensions.items)

-- What a node stands for: a type, or an expression.
abbrev pub term_root : Nodes → ExprNode → Root
term_root b (DataType n) = TypeRoot (type_tree b n)
term_root b n = ExprRoot (expr_tree b n)

-- The node is an expression; P holds of each child that is an expression, and Q of each that is a type.
abbrev pub ExprChildrenHold : (P : Expr → Type 0) (Q : VastDataType → Type 0) → ExprNode → Type 0
ExprChildrenHold P Q (Name name type) = IfSome type Q
ExprChildrenHold P Q (Literal text value) = Unit {0}
ExprChildrenHold P Q (StringText text) = Unit {0}
ExprChildrenHold P Q (Unary operator operand) = P operand
ExprChildrenHold P Q (Binary operator left right) = P left × P right
ExprChildrenHold P Q (Ternary condition consequent alternate) = P condition × P consequent × P alternate
ExprChildrenHold P Q (Index subject index) = P subject × P index
ExprChildrenHold P Q (Slice subject high low) = P subject × P high × P low
ExprChildrenHold P Q (PartSelect subject start width) = P subject × P start
ExprChildrenHold P Q (MemberOf subject name) = P subject
ExprChildrenHold P Q (Concat count parts) = IfSome count P × All P parts.items
ExprChildrenHold P Q (Pattern parts) = All P parts.items
ExprChildrenHold P Q (WidthCast width operand) = P width × P operand
ExprChildrenHold P Q (TypeCast type operand) = Q type × P operand
ExprChildrenHold P Q (PosEdge operand) = P operand
ExprChildrenHold P Q (NegEdge operand) = P operand
ExprChildrenHold P Q (Macro name) = Unit {0}
ExprChildrenHold P Q (MacroCall name arguments) = All P arguments.items
ExprChildrenHold P Q (Call name arguments) = All P arguments.items
ExprChildrenHold P Q (DataType n) = ⊥

-- P holds of a dimension's expression, where it has one.
abbrev pub SizeHolds : (P : Expr → Type 0) → Dimension → Type 0
SizeHolds P (Count count) = Unit {0}
SizeHolds P (Size size) = P size

abbrev pub TypeChildrenHold : (P : Expr → Type 0) (Q : VastDataType → Type 0) → TypeNode → Type 0
TypeChildrenHold P Q (Scalar signed) = Unit {0}
TypeChildrenHold P Q (Vector width value signed) = P width
TypeChildrenHold P Q (Integer signed) = Unit {0}
TypeChildrenHold P Q (Int signed) = Unit {0}
TypeChildrenHold P Q (External name) = Unit {0}
TypeChildrenHold P Q (Package p) = Unit {0}
TypeChildrenHold P Q (Packed element dimensions) = Q element × All (SizeHolds P) dimensions.items
TypeChildrenHold P Q (Unpacked element dimensions) = Q element × All (SizeHolds P) dimensions.items

-- The nodes after these terms, each made of older ones.
abbrev pub built : Nodes → List ExprNode → Nodes
built b [] = b
built b (t ∷ ts) = built (with_node b (term_root b t)) ts
