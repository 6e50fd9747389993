-- Normal expressions: what of an expression's tree its tokens tell, and the normal expression of a tree.
use Rattle.std.specs.Prelude.{ℕ, List, [], ◌∷◌, Bool, cond, eqb, Option, Some, None, if◌then◌else◌}
use Rattle.std.specs.Fmt.{signed_decimal}
use Rattle.vast_literal.specs.Tokens.{Op, BitOr, BitXor, BitAnd, Minus, BitNot, LogicNot}
use Rattle.vast_literal.specs.Tokens.{Key, LogicKey, IntegerKey, IntKey, SignedKey, UnsignedKey}
use Rattle.vast_literal.specs.Tree.{UnaryOp, NegateOp, BitwiseNotOp, LogicalNotOp, AndReduceOp, OrReduceOp, XorReduceOp}
use Rattle.vast_literal.specs.Tree.{BinaryOp}
use Rattle.vast_literal.specs.Tree.{ExprTree, NameTree, LiteralTree, StringTree, UnaryTree, BinaryTree, TernaryTree, IndexTree, SliceTree, PartSelectTree, MemberOfTree, ConcatTree, PatternTree, WidthCastTree, TypeCastTree, PosEdgeTree, NegEdgeTree, MacroTree, CallTree, MissingExpr}
use Rattle.vast_literal.specs.Tree.{TypeTree, ScalarTree, VectorTree, IntegerTree, IntTree, ExternalTree, PackageTree}
use Rattle.vast_literal.specs.Tree.{NoExpr, SomeExpr, Exprs, NoExprs, MoreExprs, NoArguments, SomeArguments}
use Rattle.vast_literal.specs.Shape.{binary_row, is_elided_index, is_elided_slice}

-- A normal expression: names and tokens as they are written, operators and subexpressions; no parentheses and no types of names.
mutual
  pub data NormalExpr : Type 0 where
    Name Literal Text MacroAlone : (bytes : List ℕ) → NormalExpr
    Unary : Op → (operand : NormalExpr) → NormalExpr
    Binary : Op → (left right : NormalExpr) → NormalExpr
    Ternary : (condition consequent alternate : NormalExpr) → NormalExpr
    Index : (subject index : NormalExpr) → NormalExpr
    Slice : (subject high low : NormalExpr) → NormalExpr
    PartSelect : (subject start : NormalExpr) (width : List ℕ) → NormalExpr
    MemberOf : (subject : NormalExpr) (name : List ℕ) → NormalExpr
    Concat Pattern : (parts : NormalExprs) → NormalExpr
    Replicated : (count : NormalExpr) (parts : NormalExprs) → NormalExpr
    Call MacroCall : (name : List ℕ) (arguments : NormalExprs) → NormalExpr
    -- A cast by an expression or by the name of a type, by a package's type, or by a keyword.
    Cast : (head operand : NormalExpr) → NormalExpr
    PackageCast : (package_name name : List ℕ) (operand : NormalExpr) → NormalExpr
    WordCast : Key → (operand : NormalExpr) → NormalExpr

  pub data NormalExprs : Type 0 where
    NoNormals : NormalExprs
    MoreNormals : NormalExpr → NormalExprs → NormalExprs

-- The token of a unary operator.
unfoldable pub unary_operator_token : UnaryOp → Op
unary_operator_token NegateOp = Minus
unary_operator_token BitwiseNotOp = BitNot
unary_operator_token LogicalNotOp = LogicNot
unary_operator_token AndReduceOp = BitAnd
unary_operator_token OrReduceOp = BitOr
unary_operator_token XorReduceOp = BitXor

unfoldable pub binary_operator_token : BinaryOp → Op
binary_operator_token op = (binary_row op).0

-- A literal is its token, after a minus the negation of the token that is left.
unfoldable pub normal_literal : (text : List ℕ) → NormalExpr
normal_literal [] = Literal []
normal_literal (c ∷ cs) = cond (eqb c 45) (Unary Minus (Literal cs)) (Literal (c ∷ cs))

-- The keyword that makes a value signed or unsigned.
unfoldable pub signing_key : (signed : Bool) → Key
signing_key signed = if signed then SignedKey else UnsignedKey

-- A cast to `logic`, `integer` or `int`, and another by `word` around it where one is written.
unfoldable pub normal_word_cast : (word : Option Key) (base : Key) (operand : NormalExpr) → NormalExpr
normal_word_cast None base operand = WordCast base operand
normal_word_cast (Some word) base operand = WordCast word (WordCast base operand)

-- The sign that is written around the cast to a scalar, and around the cast to an integer.
unfoldable pub scalar_sign : (signed : Bool) → Option Key
scalar_sign signed = if signed then Some SignedKey else None

unfoldable pub integer_sign : (signed : Bool) → Option Key
integer_sign signed = if signed then None else Some UnsignedKey

unfoldable mutual
  -- The normal expression of a tree. Where the tree's names are plain and it has no edges, the grammar derives it from the
  -- tree's text; of any other tree it says nothing, and is there only so that each tree has one: an edge, which is no
  -- expression, has that of its operand, and what is missing is a name of no bytes.
  pub normal : ExprTree → NormalExpr
  normal (NameTree name type) = Name name
  normal (LiteralTree text value) = normal_literal text
  normal (StringTree text) = Text text
  normal (UnaryTree op operand) = Unary (unary_operator_token op) (normal operand)
  normal (BinaryTree op left right) = Binary (binary_operator_token op) (normal left) (normal right)
  normal (TernaryTree condition consequent alternate) = Ternary (normal condition) (normal consequent) (normal alternate)
  normal (IndexTree subject index) = cond (is_elided_index subject index) (normal subject) (Index (normal subject) (normal index))
  normal (SliceTree subject high low) = cond (is_elided_slice subject high low) (normal subject) (Slice (normal subject) (normal high) (normal low))
  normal (PartSelectTree subject start width) = PartSelect (normal subject) (normal start) (signed_decimal width)
  normal (MemberOfTree subject name) = MemberOf (normal subject) name
  normal (ConcatTree NoExpr parts) = Concat (normals parts)
  normal (ConcatTree (SomeExpr count) parts) = Replicated (normal count) (normals parts)
  normal (PatternTree parts) = Pattern (normals parts)
  normal (WidthCastTree width operand) = Cast (normal width) (normal operand)
  normal (TypeCastTree type operand) = normal_cast type (normal operand)
  normal (PosEdgeTree operand) = normal operand
  normal (NegEdgeTree operand) = normal operand
  normal (MacroTree name NoArguments) = MacroAlone name
  normal (MacroTree name (SomeArguments arguments)) = MacroCall name (normals arguments)
  normal (CallTree name arguments) = Call name (normals arguments)
  normal MissingExpr = Name []

  -- The casts that a cast to a type is written as: a signed vector's is a cast by its width inside one by `signed`.
  pub normal_cast : TypeTree → (operand : NormalExpr) → NormalExpr
  normal_cast (ScalarTree signed) operand = normal_word_cast (scalar_sign signed) LogicKey operand
  normal_cast (VectorTree width value signed) operand = WordCast (signing_key signed) (Cast (normal width) operand)
  normal_cast (IntegerTree signed) operand = normal_word_cast (integer_sign signed) IntegerKey operand
  normal_cast (IntTree signed) operand = normal_word_cast (integer_sign signed) IntKey operand
  normal_cast (ExternalTree name) operand = Cast (Name name) operand
  normal_cast (PackageTree package_name name) operand = PackageCast package_name name operand
  -- No cast is to an array or to a missing type: this says nothing.
  normal_cast _ operand = operand

  pub normals : Exprs → NormalExprs
  normals NoExprs = NoNormals
  normals (MoreExprs part parts) = MoreNormals (normal part) (normals parts)
