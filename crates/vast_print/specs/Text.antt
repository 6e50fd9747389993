-- The text of an expression, or the first refusal in its order.
use Rattle.std.specs.Prelude.{ℕ, Bool, true, false, not, ◌&&◌, List, [], codes, if◌then◌else◌}
use Rattle.std.specs.Fmt.{signed_decimal}
use Rattle.vast_literal.specs.Tree.{ExprTree, NameTree, LiteralTree, StringTree, UnaryTree, BinaryTree, TernaryTree, IndexTree, SliceTree, PartSelectTree, MemberOfTree, ConcatTree, PatternTree, WidthCastTree, TypeCastTree, PosEdgeTree, NegEdgeTree, MacroTree, CallTree, MissingExpr}
use Rattle.vast_literal.specs.Tree.{TypeTree, ScalarTree, VectorTree, IntegerTree, IntTree, ExternalTree, PackageTree}
use Rattle.vast_literal.specs.Tree.{MaybeExpr, NoExpr, SomeExpr, Exprs, NoExprs, MoreExprs, MaybeExprs, NoArguments, SomeArguments}
use Rattle.vast_literal.specs.Shape.{is_scalar_name, is_zero, left_child_wraps, right_child_wraps, select_wraps, ternary_wraps, unary_wraps}
use Rattle.vast_print.specs.declared.refusal.Refusal.{Refusal}
use Rattle.vast_print.specs.declared.refusal.Refusal.TheVariants.{ScalarIndex, ScalarSlice}
use Rattle.vast_print.specs.Printed.{Printed, plain_text, refused, ◌⊕◌, wrapped}
use Rattle.vast_print.specs.Bare.{is_bare}
use Rattle.vast_print.specs.Levels.{unary_operator_text, binary_operator_text}

-- a select of a scalar is its name alone, and refused where a bound isn't zero
unfoldable pub elided : Bool → Refusal → Printed → Printed
elided true r name = name
elided false r name = refused r name

-- a cast: what is cast stands in parentheses after an apostrophe
unfoldable pub cast_to : Printed → Printed → Printed
cast_to head p = head ⊕ plain_text (codes "'(") ⊕ p ⊕ plain_text (codes ")")

-- a cast by a width, which is in parentheses unless its text is a number or a word
unfoldable pub width_cast : Printed → Printed → Printed
width_cast w p = cast_to (wrapped (not (is_bare w.text)) w) p

abbrev pub sign_cast : Bool → Printed
sign_cast signed = if signed then plain_text (codes "signed") else plain_text (codes "unsigned")

abbrev pub scalar_cast : Bool → Printed → Printed
scalar_cast signed p = if signed then cast_to (plain_text (codes "signed")) (cast_to (plain_text (codes "logic")) p) else cast_to (plain_text (codes "logic")) p

-- a cast to a type that is signed unless it says otherwise
abbrev pub number_cast : (word : List ℕ) (signed : Bool) → Printed → Printed
number_cast word signed p = if signed then cast_to (plain_text word) p else cast_to (plain_text (codes "unsigned")) (cast_to (plain_text word) p)

-- a name of a package
unfoldable pub package_text : (package_name name : List ℕ) → Printed
package_text p n = plain_text p ⊕ plain_text (codes "::") ⊕ plain_text n

unfoldable mutual
  -- The text of an expression: operators, parentheses, elided selects of scalars, casts.
  pub expr_text : ExprTree → Printed
  expr_text (NameTree name type) = plain_text name
  expr_text (LiteralTree text value) = plain_text text
  expr_text (StringTree text) = plain_text text
  expr_text (UnaryTree o e) = plain_text (unary_operator_text o) ⊕ wrapped (unary_wraps e) (expr_text e)
  expr_text (BinaryTree o l r) =
      wrapped (left_child_wraps o l) (expr_text l)
      ⊕ plain_text (binary_operator_text o)
      ⊕ wrapped (right_child_wraps o r) (expr_text r)
  expr_text (TernaryTree c l r) =
      wrapped (ternary_wraps c) (expr_text c)
      ⊕ plain_text (codes " ? ") ⊕ wrapped (ternary_wraps l) (expr_text l)
      ⊕ plain_text (codes " : ") ⊕ wrapped (ternary_wraps r) (expr_text r)
  expr_text (IndexTree s i) =
      if is_scalar_name s then elided (is_zero i) ScalarIndex (expr_text s)
      else wrapped (select_wraps s) (expr_text s) ⊕ plain_text (codes "[") ⊕ expr_text i ⊕ plain_text (codes "]")
  expr_text (SliceTree s h l) =
      if is_scalar_name s then elided (is_zero h && is_zero l) ScalarSlice (expr_text s)
      else wrapped (select_wraps s) (expr_text s) ⊕ plain_text (codes "[") ⊕ expr_text h ⊕ plain_text (codes ":") ⊕ expr_text l ⊕ plain_text (codes "]")
  expr_text (PartSelectTree s i w) =
      wrapped (select_wraps s) (expr_text s)
      ⊕ plain_text (codes "[") ⊕ expr_text i ⊕ plain_text (codes " +: ") ⊕ plain_text (signed_decimal w) ⊕ plain_text (codes "]")
  expr_text (MemberOfTree s n) = wrapped (select_wraps s) (expr_text s) ⊕ plain_text (codes ".") ⊕ plain_text n
  expr_text (ConcatTree n es) = plain_text (codes "{") ⊕ replicated n (list_text es) ⊕ plain_text (codes "}")
  expr_text (PatternTree es) = plain_text (codes "'{") ⊕ list_text es ⊕ plain_text (codes "}")
  expr_text (WidthCastTree w e) = width_cast (expr_text w) (expr_text e)
  expr_text (TypeCastTree t e) = type_cast t (expr_text e)
  expr_text (PosEdgeTree e) = plain_text (codes "posedge ") ⊕ expr_text e
  expr_text (NegEdgeTree e) = plain_text (codes "negedge ") ⊕ expr_text e
  expr_text (MacroTree name es) = plain_text (codes "`") ⊕ plain_text name ⊕ arguments_text es
  expr_text (CallTree name es) = plain_text name ⊕ plain_text (codes "(") ⊕ list_text es ⊕ plain_text (codes ")")
  expr_text MissingExpr = plain_text []

  pub arguments_text : MaybeExprs → Printed
  arguments_text NoArguments = plain_text []
  arguments_text (SomeArguments es) = plain_text (codes "(") ⊕ list_text es ⊕ plain_text (codes ")")

  -- parts, alone or with a count before braces of their own
  pub replicated : MaybeExpr → Printed → Printed
  replicated NoExpr parts = parts
  replicated (SomeExpr n) parts = expr_text n ⊕ plain_text (codes "{") ⊕ parts ⊕ plain_text (codes "}")

  -- joined by a comma and a space
  pub list_text : Exprs → Printed
  list_text NoExprs = plain_text []
  list_text (MoreExprs e es) = expr_text e ⊕ more_text es

  pub more_text : Exprs → Printed
  more_text NoExprs = plain_text []
  more_text (MoreExprs e es) = plain_text (codes ", ") ⊕ expr_text e ⊕ more_text es

  -- no cast is to an array or to a missing type: it would have no head
  pub type_cast : TypeTree → Printed → Printed
  type_cast (ScalarTree signed) p = scalar_cast signed p
  type_cast (VectorTree w v signed) p = cast_to (sign_cast signed) (width_cast (expr_text w) p)
  type_cast (IntegerTree signed) p = number_cast (codes "integer") signed p
  type_cast (IntTree signed) p = number_cast (codes "int") signed p
  type_cast (ExternalTree name) p = cast_to (plain_text name) p
  type_cast (PackageTree scope name) p = cast_to (package_text scope name) p
  type_cast _ p = cast_to (plain_text []) p
