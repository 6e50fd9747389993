-- Expressions that wait to be looked at.
use Rattle.std.specs.Prelude.{◌≡◌, ℕ, ◌+◌, ◌<◌, Bool, ◌&&◌, List, All, Result, Ok, Err}
use Rattle.std.specs.declared.alloc.AllocError.{AllocError}
use Rattle.vast_literal.specs.Tree.{ExprTree, UnaryTree, BinaryTree, TernaryTree, IndexTree, SliceTree, PartSelectTree, MemberOfTree, ConcatTree, PatternTree, WidthCastTree, TypeCastTree, PosEdgeTree, NegEdgeTree, MacroTree, CallTree}
use Rattle.vast_literal.specs.Tree.{TypeTree, VectorTree, PackedTree, UnpackedTree}
use Rattle.vast_literal.specs.Tree.{MaybeExpr, NoExpr, SomeExpr, Exprs, NoExprs, MoreExprs, MaybeExprs, NoArguments, SomeArguments}
use Rattle.vast_literal.specs.Plain.{is_plain, are_plain}
use Rattle.vast_core.specs.declared.handle.Expr.{Expr}
use Rattle.vast_core.specs.Bench.{Bench, OwnsExpr, trees_of}

-- The answer is this one, or memory was refused.
abbrev pub Answers : Bool → Result Bool AllocError → Type 0
Answers plain (Ok answer) = answer ≡ plain
Answers plain (Err error) = Unit {0}

-- How many expressions stand in an expression or a type, itself and all its parts: each round looks at one of them.
abbrev mutual
  pub expr_weight : ExprTree → ℕ
  expr_weight (UnaryTree op operand) = expr_weight operand + 1
  expr_weight (BinaryTree op left right) = expr_weight left + expr_weight right + 1
  expr_weight (TernaryTree condition consequent alternate) = expr_weight condition + expr_weight consequent + expr_weight alternate + 1
  expr_weight (IndexTree subject index) = expr_weight subject + expr_weight index + 1
  expr_weight (SliceTree subject high low) = expr_weight subject + expr_weight high + expr_weight low + 1
  expr_weight (PartSelectTree subject start width) = expr_weight subject + expr_weight start + 1
  expr_weight (MemberOfTree subject name) = expr_weight subject + 1
  expr_weight (ConcatTree count parts) = maybe_weight count + exprs_weight parts + 1
  expr_weight (PatternTree parts) = exprs_weight parts + 1
  expr_weight (WidthCastTree width operand) = expr_weight width + expr_weight operand + 1
  expr_weight (TypeCastTree type operand) = type_weight type + expr_weight operand + 1
  expr_weight (PosEdgeTree operand) = expr_weight operand + 1
  expr_weight (NegEdgeTree operand) = expr_weight operand + 1
  expr_weight (MacroTree name arguments) = arguments_weight arguments + 1
  expr_weight (CallTree name arguments) = exprs_weight arguments + 1
  expr_weight _ = 1

  pub maybe_weight : MaybeExpr → ℕ
  maybe_weight NoExpr = 0
  maybe_weight (SomeExpr value) = expr_weight value

  -- The same of a list of expressions.
  pub exprs_weight : Exprs → ℕ
  exprs_weight NoExprs = 0
  exprs_weight (MoreExprs part parts) = expr_weight part + exprs_weight parts

  pub arguments_weight : MaybeExprs → ℕ
  arguments_weight NoArguments = 0
  arguments_weight (SomeArguments arguments) = exprs_weight arguments

  -- The same of a type.
  pub type_weight : TypeTree → ℕ
  type_weight (VectorTree width value signed) = expr_weight width
  type_weight (PackedTree element dimensions) = type_weight element + exprs_weight dimensions
  type_weight (UnpackedTree element dimensions) = type_weight element + exprs_weight dimensions
  type_weight _ = 0

-- What was looked at is plain exactly where nothing spoke against it and all that waits now is, if all that waited before
-- is; what waits more is lighter, and the file's.
abbrev pub Begins : Bench → (before after : List Expr) → (plain : Bool) → (weight : ℕ) → Result Bool AllocError → Type 0
Begins b before after plain weight (Ok going) =
    ((going && are_plain (trees_of b after)) ≡ (plain && are_plain (trees_of b before)))
    × (exprs_weight (trees_of b after) < exprs_weight (trees_of b before) + weight)
    × All (OwnsExpr b) after
Begins b before after plain weight (Err error) = Unit {0}

-- An expression was looked at.
abbrev pub BeginsExpr : Bench → (before after : List Expr) → ExprTree → Result Bool AllocError → Type 0
BeginsExpr b before after e result = Begins b before after (is_plain e) (expr_weight e) result
