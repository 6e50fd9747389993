-- What types and widths are, read off their trees, and what is kept of every tree.
use Rattle.std.specs.Prelude.{◌≡◌, ℤ, ◌<◌, ◌≤ℤ◌, pos, Bool, true, false, IsTrue, List, length, IfSome, All}
use Rattle.vast_literal.specs.LiteralToken.{is_literal_text, is_string_text}
use Rattle.vast_literal.specs.Shape.{literal_value, base_of}
use Rattle.vast_literal.specs.Tree.{ExprTree, NameTree, LiteralTree, StringTree, UnaryTree, BinaryTree, TernaryTree, IndexTree, SliceTree, PartSelectTree, MemberOfTree, ConcatTree, PatternTree, WidthCastTree, TypeCastTree, PosEdgeTree, NegEdgeTree, MacroTree, CallTree, MissingExpr, TypeTree, ScalarTree, VectorTree, IntegerTree, IntTree, PackedTree, UnpackedTree, MissingType, MaybeType, Untyped, Typed, MaybeExpr, NoExpr, SomeExpr, Exprs, NoExprs, MoreExprs, MaybeExprs, NoArguments, SomeArguments}

-- Not a literal with a value below 1.
abbrev pub IsUsableWidth : ExprTree → Type 0
IsUsableWidth width = IfSome (literal_value width) (λ value. pos 1 ≤ℤ value)

-- What a packed array may be made of: no unpacked array, no integer and no int.
abbrev pub is_packable : TypeTree → Bool
is_packable (UnpackedTree element dimensions) = false
is_packable (IntegerTree signed) = false
is_packable (IntTree signed) = false
is_packable _ = true

-- What an expression may be cast to: no array.
abbrev pub is_castable : TypeTree → Bool
is_castable (PackedTree element dimensions) = false
is_castable (UnpackedTree element dimensions) = false
is_castable _ = true

-- At least one dimension, and each at least 1.
pub record AreDimensions (dimensions : List ℤ) : Type 0 where
  pub any : 0 < length dimensions
  pub each : All (λ d. pos 1 ≤ℤ d) dimensions

-- The same of the sizes that expressions are: each is a usable width.
abbrev pub EachUsable : Exprs → Type 0
EachUsable NoExprs = Unit {0}
EachUsable (MoreExprs size sizes) = IsUsableWidth size × EachUsable sizes

abbrev pub AreSizes : Exprs → Type 0
AreSizes NoExprs = ⊥
AreSizes (MoreExprs size sizes) = IsUsableWidth size × EachUsable sizes

-- A vector's width.
abbrev pub vector_width : TypeTree → MaybeExpr
vector_width (VectorTree width value signed) = SomeExpr width
vector_width _ = NoExpr

-- The width of the vector within the arrays.
abbrev pub width_of : TypeTree → MaybeExpr
width_of t = vector_width (base_of t)

-- Whether a type that is no array is signed; what is declared elsewhere counts as unsigned.
abbrev pub base_is_signed : TypeTree → Bool
base_is_signed (ScalarTree signed) = signed
base_is_signed (VectorTree width value signed) = signed
base_is_signed (IntegerTree signed) = signed
base_is_signed (IntTree signed) = signed
base_is_signed _ = false

-- The type within the arrays is signed.
abbrev pub is_signed : TypeTree → Bool
is_signed t = base_is_signed (base_of t)

-- What an expression keeps of itself: the text of a literal is one literal token, perhaps after a minus, and that of a
-- string one string token; a part select has a bit at least, and a cast is to no array.
abbrev pub ExprFits : ExprTree → Type 0
ExprFits (LiteralTree text value) = IsTrue (is_literal_text text)
ExprFits (StringTree text) = IsTrue (is_string_text text)
ExprFits (PartSelectTree subject start width) = pos 1 ≤ℤ width
ExprFits (TypeCastTree type operand) = IsTrue (is_castable type)
ExprFits _ = Unit {0}

-- What a type keeps of itself: a vector's width is usable, and its value is that of its literal; an array has
-- dimensions, which are usable, and a packed one is made of what can be packed.
abbrev pub TypeFits : TypeTree → Type 0
TypeFits (VectorTree width value signed) = IsUsableWidth width × (value ≡ literal_value width)
TypeFits (PackedTree element dimensions) = IsTrue (is_packable element) × AreSizes dimensions
TypeFits (UnpackedTree element dimensions) = AreSizes dimensions
TypeFits _ = Unit {0}

-- Each expression and each type in the tree is there and fits.
abbrev mutual
  pub ExprWellFormed : ExprTree → Type 0
  ExprWellFormed (NameTree name type) = MaybeTypeWellFormed type
  ExprWellFormed (LiteralTree text value) = IsTrue (is_literal_text text)
  ExprWellFormed (StringTree text) = IsTrue (is_string_text text)
  ExprWellFormed (UnaryTree operator operand) = ExprWellFormed operand
  ExprWellFormed (BinaryTree operator left right) = ExprWellFormed left × ExprWellFormed right
  ExprWellFormed (TernaryTree condition consequent alternate) = ExprWellFormed condition × ExprWellFormed consequent × ExprWellFormed alternate
  ExprWellFormed (IndexTree subject index) = ExprWellFormed subject × ExprWellFormed index
  ExprWellFormed (SliceTree subject high low) = ExprWellFormed subject × ExprWellFormed high × ExprWellFormed low
  ExprWellFormed (PartSelectTree subject start width) = (pos 1 ≤ℤ width) × ExprWellFormed subject × ExprWellFormed start
  ExprWellFormed (MemberOfTree subject name) = ExprWellFormed subject
  ExprWellFormed (ConcatTree count parts) = MaybeExprWellFormed count × ExprsWellFormed parts
  ExprWellFormed (PatternTree parts) = ExprsWellFormed parts
  ExprWellFormed (WidthCastTree width operand) = ExprWellFormed width × ExprWellFormed operand
  ExprWellFormed (TypeCastTree type operand) = IsTrue (is_castable type) × TypeWellFormed type × ExprWellFormed operand
  ExprWellFormed (PosEdgeTree operand) = ExprWellFormed operand
  ExprWellFormed (NegEdgeTree operand) = ExprWellFormed operand
  ExprWellFormed (MacroTree name arguments) = MaybeExprsWellFormed arguments
  ExprWellFormed (CallTree name arguments) = ExprsWellFormed arguments
  ExprWellFormed MissingExpr = ⊥

  -- The same of a type: its width and its dimensions are usable, what is packed may be.
  pub TypeWellFormed : TypeTree → Type 0
  TypeWellFormed (VectorTree width value signed) = (IsUsableWidth width × (value ≡ literal_value width)) × ExprWellFormed width
  TypeWellFormed (PackedTree element dimensions) = (IsTrue (is_packable element) × AreSizes dimensions) × TypeWellFormed element × ExprsWellFormed dimensions
  TypeWellFormed (UnpackedTree element dimensions) = AreSizes dimensions × TypeWellFormed element × ExprsWellFormed dimensions
  TypeWellFormed MissingType = ⊥
  TypeWellFormed _ = Unit {0}

  pub MaybeTypeWellFormed : MaybeType → Type 0
  MaybeTypeWellFormed Untyped = Unit {0}
  MaybeTypeWellFormed (Typed type) = TypeWellFormed type

  pub MaybeExprWellFormed : MaybeExpr → Type 0
  MaybeExprWellFormed NoExpr = Unit {0}
  MaybeExprWellFormed (SomeExpr e) = ExprWellFormed e

  pub ExprsWellFormed : Exprs → Type 0
  ExprsWellFormed NoExprs = Unit {0}
  ExprsWellFormed (MoreExprs e es) = ExprWellFormed e × ExprsWellFormed es

  pub MaybeExprsWellFormed : MaybeExprs → Type 0
  MaybeExprsWellFormed NoArguments = Unit {0}
  MaybeExprsWellFormed (SomeArguments es) = ExprsWellFormed es
