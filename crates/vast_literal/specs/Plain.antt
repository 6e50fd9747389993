-- Plain trees: all names that are printed are identifiers and no keywords, and no edge stands where a value does.
use Rattle.std.specs.Prelude.{ℕ, List, [], ◌∷◌, Bool, true, false, cond, not, ◌&&◌, eqb}
use Rattle.vast_literal.specs.Keyword.{is_keyword}
use Rattle.vast_literal.specs.Scan.{is_letter, is_word_byte}
use Rattle.vast_literal.specs.LiteralToken.{every}
use Rattle.vast_literal.specs.Tree.{ExprTree, NameTree, UnaryTree, BinaryTree, TernaryTree, IndexTree, SliceTree, PartSelectTree, MemberOfTree, ConcatTree, PatternTree, WidthCastTree, TypeCastTree, PosEdgeTree, NegEdgeTree, MacroTree, CallTree, MissingExpr}
use Rattle.vast_literal.specs.Tree.{TypeTree, VectorTree, ExternalTree, PackageTree, PackedTree, UnpackedTree, MissingType}
use Rattle.vast_literal.specs.Tree.{NoExpr, SomeExpr, Exprs, NoExprs, MoreExprs, NoArguments, SomeArguments}

-- An ASCII letter or `_`, then letters, digits, `_` and `$`.
abbrev pub is_identifier : List ℕ → Bool
is_identifier [] = false
is_identifier (c ∷ cs) = is_letter c && every is_word_byte cs

-- An identifier that is no keyword.
abbrev pub is_plain_name : List ℕ → Bool
is_plain_name name = is_identifier name && not (is_keyword name)

-- The name of a function: a plain name, or `$` and an identifier.
abbrev pub is_called_name : List ℕ → Bool
is_called_name [] = false
is_called_name (c ∷ cs) = cond (eqb c 36) (is_identifier cs) (is_plain_name (c ∷ cs))

abbrev mutual
  -- Each name that the expression prints is plain, and no edge stands in it; the types of names are not printed.
  pub is_plain : ExprTree → Bool
  is_plain (NameTree name type) = is_plain_name name
  is_plain (UnaryTree op operand) = is_plain operand
  is_plain (BinaryTree op left right) = is_plain left && is_plain right
  is_plain (TernaryTree condition consequent alternate) = is_plain condition && (is_plain consequent && is_plain alternate)
  is_plain (IndexTree subject index) = is_plain subject && is_plain index
  is_plain (SliceTree subject high low) = is_plain subject && (is_plain high && is_plain low)
  is_plain (PartSelectTree subject start width) = is_plain subject && is_plain start
  is_plain (MemberOfTree subject name) = is_plain_name name && is_plain subject
  is_plain (ConcatTree NoExpr parts) = are_plain parts
  is_plain (ConcatTree (SomeExpr count) parts) = is_plain count && are_plain parts
  is_plain (PatternTree parts) = are_plain parts
  is_plain (WidthCastTree width operand) = is_plain width && is_plain operand
  is_plain (TypeCastTree type operand) = is_plain_type type && is_plain operand
  is_plain (PosEdgeTree operand) = false
  is_plain (NegEdgeTree operand) = false
  is_plain (MacroTree name NoArguments) = is_plain_name name
  is_plain (MacroTree name (SomeArguments arguments)) = is_plain_name name && are_plain arguments
  is_plain (CallTree name arguments) = is_called_name name && are_plain arguments
  is_plain MissingExpr = false
  is_plain _ = true

  -- The same of a type.
  pub is_plain_type : TypeTree → Bool
  is_plain_type (VectorTree width value signed) = is_plain width
  is_plain_type (ExternalTree name) = is_plain_name name
  is_plain_type (PackageTree package_name name) = is_plain_name package_name && is_plain_name name
  is_plain_type (PackedTree element dimensions) = is_plain_type element && are_plain dimensions
  is_plain_type (UnpackedTree element dimensions) = is_plain_type element && are_plain dimensions
  is_plain_type MissingType = false
  is_plain_type _ = true

  pub are_plain : Exprs → Bool
  are_plain NoExprs = true
  are_plain (MoreExprs part parts) = is_plain part && are_plain parts
