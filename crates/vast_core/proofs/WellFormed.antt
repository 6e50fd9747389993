-- A tree whose parts are there and fit is well formed for the grammar: its literals and strings are tokens.
use Rattle.std.proofs.Common.{◌≡◌, zero, suc, ℤ, pos, negsuc, true, IsTrue, refl}
use Rattle.std.specs.Prelude.{◌≤ℤ◌}
use Rattle.std.specs.Cmp.Derive.{both_true}
use Rattle.vast_literal.specs.Tree.{ExprTree, NameTree, LiteralTree, StringTree, UnaryTree, BinaryTree, TernaryTree, IndexTree, SliceTree, PartSelectTree, MemberOfTree, ConcatTree, PatternTree, WidthCastTree, TypeCastTree, PosEdgeTree, NegEdgeTree, MacroTree, CallTree, MissingExpr, TypeTree, VectorTree, PackedTree, UnpackedTree, MissingType, NoExpr, SomeExpr, Exprs, NoExprs, MoreExprs, NoArguments, SomeArguments}
use Rattle.vast_literal.specs.WellFormed.{is_positive, is_cast_type, is_well_formed, is_well_formed_type, are_well_formed}
use Rattle.vast_core.specs.Types.{is_castable, ExprWellFormed, TypeWellFormed, ExprsWellFormed}

positive : (n : ℤ) → pos 1 ≤ℤ n → is_positive n ≡ true
positive (pos zero) h = absurd h.le
positive (pos (suc n)) h = refl
positive (negsuc n) h = absurd h.le

castable : (t : TypeTree) → IsTrue (is_castable t) → TypeWellFormed t → is_cast_type t ≡ true
castable (PackedTree element dimensions) c h = c
castable (UnpackedTree element dimensions) c h = c
castable MissingType c h = absurd h
castable _ c h = refl

mutual
  pub well_formed : (e : ExprTree) → ExprWellFormed e → is_well_formed e ≡ true
  well_formed (NameTree name type) h = refl
  well_formed (LiteralTree text value) h = h
  well_formed (StringTree text) h = h
  well_formed (UnaryTree operator operand) h = well_formed operand h
  well_formed (BinaryTree operator left right) h = both_true (well_formed left h.0) (well_formed right h.1)
  well_formed (TernaryTree condition consequent alternate) h = both_true (well_formed condition h.0) (both_true (well_formed consequent h.1) (well_formed alternate h.2))
  well_formed (IndexTree subject index) h = both_true (well_formed subject h.0) (well_formed index h.1)
  well_formed (SliceTree subject high low) h = both_true (well_formed subject h.0) (both_true (well_formed high h.1) (well_formed low h.2))
  well_formed (PartSelectTree subject start width) h = both_true (well_formed subject h.1) (both_true (well_formed start h.2) (positive width h.0))
  well_formed (MemberOfTree subject name) h = well_formed subject h
  well_formed (ConcatTree NoExpr parts) h = each_well_formed parts h.1
  well_formed (ConcatTree (SomeExpr count) parts) h = both_true (well_formed count h.0) (each_well_formed parts h.1)
  well_formed (PatternTree parts) h = each_well_formed parts h
  well_formed (WidthCastTree width operand) h = both_true (well_formed width h.0) (well_formed operand h.1)
  well_formed (TypeCastTree type operand) h = both_true (castable type h.0 h.1) (both_true (type_well_formed type h.1) (well_formed operand h.2))
  well_formed (PosEdgeTree operand) h = well_formed operand h
  well_formed (NegEdgeTree operand) h = well_formed operand h
  well_formed (MacroTree name NoArguments) h = refl
  well_formed (MacroTree name (SomeArguments arguments)) h = each_well_formed arguments h
  well_formed (CallTree name arguments) h = each_well_formed arguments h
  well_formed MissingExpr h = absurd h

  pub type_well_formed : (t : TypeTree) → TypeWellFormed t → is_well_formed_type t ≡ true
  type_well_formed (VectorTree width value signed) h = well_formed width h.1
  type_well_formed (PackedTree element dimensions) h = both_true (type_well_formed element h.1) (each_well_formed dimensions h.2)
  type_well_formed (UnpackedTree element dimensions) h = both_true (type_well_formed element h.1) (each_well_formed dimensions h.2)
  type_well_formed MissingType h = absurd h
  type_well_formed _ h = refl

  pub each_well_formed : (es : Exprs) → ExprsWellFormed es → are_well_formed es ≡ true
  each_well_formed NoExprs h = refl
  each_well_formed (MoreExprs e es) h = both_true (well_formed e h.0) (each_well_formed es h.1)
