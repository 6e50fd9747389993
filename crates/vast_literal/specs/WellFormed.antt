-- Well-formed expressions: those whose literals and strings are tokens. Each expression that was built is one.
use Rattle.std.specs.Prelude.{suc, ℤ, pos, Bool, true, false, ◌&&◌}
use Rattle.vast_literal.specs.LiteralToken.{is_literal_text, is_string_text}
use Rattle.vast_literal.specs.Tree.{ExprTree, NameTree, LiteralTree, StringTree, UnaryTree, BinaryTree, TernaryTree, IndexTree, SliceTree, PartSelectTree, MemberOfTree, ConcatTree, PatternTree, WidthCastTree, TypeCastTree, PosEdgeTree, NegEdgeTree, MacroTree, CallTree, MissingExpr}
use Rattle.vast_literal.specs.Tree.{TypeTree, VectorTree, PackedTree, UnpackedTree, MissingType}
use Rattle.vast_literal.specs.Tree.{NoExpr, SomeExpr, Exprs, NoExprs, MoreExprs, NoArguments, SomeArguments}

-- A number of at least 1.
abbrev pub is_positive : ℤ → Bool
is_positive (pos (suc n)) = true
is_positive _ = false

-- A type that a cast may be to: no array.
abbrev pub is_cast_type : TypeTree → Bool
is_cast_type (PackedTree element dimensions) = false
is_cast_type (UnpackedTree element dimensions) = false
is_cast_type MissingType = false
is_cast_type _ = true

abbrev mutual
  -- Each literal is one literal token, perhaps after a minus, each string one string token, each width of a part select at
  -- least 1, and no cast is to an array.
  pub is_well_formed : ExprTree → Bool
  is_well_formed (NameTree name type) = true
  is_well_formed (LiteralTree text value) = is_literal_text text
  is_well_formed (StringTree text) = is_string_text text
  is_well_formed (UnaryTree op operand) = is_well_formed operand
  is_well_formed (BinaryTree op left right) = is_well_formed left && is_well_formed right
  is_well_formed (TernaryTree condition consequent alternate) = is_well_formed condition && (is_well_formed consequent && is_well_formed alternate)
  is_well_formed (IndexTree subject index) = is_well_formed subject && is_well_formed index
  is_well_formed (SliceTree subject high low) = is_well_formed subject && (is_well_formed high && is_well_formed low)
  is_well_formed (PartSelectTree subject start width) = is_well_formed subject && (is_well_formed start && is_positive width)
  is_well_formed (MemberOfTree subject name) = is_well_formed subject
  is_well_formed (ConcatTree NoExpr parts) = are_well_formed parts
  is_well_formed (ConcatTree (SomeExpr count) parts) = is_well_formed count && are_well_formed parts
  is_well_formed (PatternTree parts) = are_well_formed parts
  is_well_formed (WidthCastTree width operand) = is_well_formed width && is_well_formed operand
  is_well_formed (TypeCastTree type operand) = is_cast_type type && (is_well_formed_type type && is_well_formed operand)
  is_well_formed (PosEdgeTree operand) = is_well_formed operand
  is_well_formed (NegEdgeTree operand) = is_well_formed operand
  is_well_formed (MacroTree name NoArguments) = true
  is_well_formed (MacroTree name (SomeArguments arguments)) = are_well_formed arguments
  is_well_formed (CallTree name arguments) = are_well_formed arguments
  is_well_formed MissingExpr = false

  -- The widths and the dimensions of the type are well formed.
  pub is_well_formed_type : TypeTree → Bool
  is_well_formed_type (VectorTree width value signed) = is_well_formed width
  is_well_formed_type (PackedTree element dimensions) = is_well_formed_type element && are_well_formed dimensions
  is_well_formed_type (UnpackedTree element dimensions) = is_well_formed_type element && are_well_formed dimensions
  is_well_formed_type MissingType = false
  is_well_formed_type _ = true

  pub are_well_formed : Exprs → Bool
  are_well_formed NoExprs = true
  are_well_formed (MoreExprs part parts) = is_well_formed part && are_well_formed parts
