-- Worked texts of expressions, proved in the law `worked_texts`.
use Rattle.std.specs.Prelude.{◌≡◌, ℕ, ℤ, pos, negsuc, false, List, [], Some, None, codes}
use Rattle.vast_literal.specs.Tree.{ExprTree, NameTree, LiteralTree, UnaryTree, BinaryTree, TernaryTree, IndexTree, SliceTree, PartSelectTree, MemberOfTree, WidthCastTree, TypeCastTree}
use Rattle.vast_literal.specs.declared.operator.UnaryOperator.TheVariants.{Negate as NegateOp, AndReduce as AndReduceOp, OrReduce as OrReduceOp}
use Rattle.vast_literal.specs.declared.operator.BinaryOperator.TheVariants.{Sub as SubOp, Power as PowerOp, LogicalOr as LogicalOrOp}
use Rattle.vast_literal.specs.Tree.{ScalarTree, VectorTree, Typed, Untyped}
use Rattle.vast_print.specs.declared.refusal.Refusal.TheVariants.{ScalarIndex, ScalarSlice}
use Rattle.vast_print.specs.Printed.{plain_text}
use Rattle.vast_print.specs.Text.{expr_text}

abbrev pub name : List ℕ → ExprTree
name w = NameTree w Untyped

abbrev pub scalar : List ℕ → ExprTree
scalar w = NameTree w (Typed (ScalarTree false))

abbrev pub number : List ℕ → ℤ → ExprTree
number w v = LiteralTree w (Some v)

-- What some expressions are printed as.
pub record WorkedTexts : Type 0 where
  -- A right child of equal level is in parentheses.
  pub right_child : (expr_text (BinaryTree SubOp (name (codes "a")) (BinaryTree SubOp (name (codes "b")) (name (codes "c"))))).text ≡ codes "a - (b - c)"
  -- A left child of equal level stands bare.
  pub left_child : (expr_text (BinaryTree PowerOp (BinaryTree PowerOp (name (codes "a")) (name (codes "b"))) (BinaryTree PowerOp (name (codes "c")) (name (codes "d"))))).text ≡ codes "a ** b ** (c ** d)"
  -- A reduction is in parentheses on either side of an operator between.
  pub reductions : (expr_text (BinaryTree LogicalOrOp (UnaryTree OrReduceOp (name (codes "a"))) (UnaryTree AndReduceOp (name (codes "b"))))).text ≡ codes "(|a) || (&b)"
  -- So is the condition of a ternary that is one.
  pub ternary_condition :
      (expr_text (TernaryTree (TernaryTree (name (codes "a")) (name (codes "b")) (name (codes "c"))) (UnaryTree OrReduceOp (name (codes "b"))) (name (codes "c")))).text
      ≡ codes "(a ? b : c) ? |b : c"
  -- A literal with a minus is in parentheses under a unary operator and before brackets, and bare beside a binary one.
  pub negative_operand : (expr_text (UnaryTree NegateOp (number (codes "-1") (negsuc 0)))).text ≡ codes "-(-1)"
  pub negative_subject : (expr_text (IndexTree (number (codes "-1") (negsuc 0)) (number (codes "0") (pos 0)))).text ≡ codes "(-1)[0]"
  pub negative_child : (expr_text (BinaryTree SubOp (name (codes "a")) (number (codes "-1") (negsuc 0)))).text ≡ codes "a - -1"
  -- An index of a named scalar by 0 stands for the name; by another literal it is refused.
  pub elided_index : expr_text (IndexTree (scalar (codes "s")) (number (codes "0") (pos 0))) ≡ plain_text (codes "s")
  pub refused_index : (expr_text (IndexTree (scalar (codes "s")) (number (codes "1") (pos 1)))).fault ≡ Some ScalarIndex
  -- A pattern has no value, and is refused there.
  pub refused_pattern : (expr_text (IndexTree (scalar (codes "s")) (LiteralTree (codes "1'b0") None))).fault ≡ Some ScalarIndex
  -- The first refusal in the order of the text is the answer.
  pub first_refusal :
      (expr_text (BinaryTree SubOp (SliceTree (scalar (codes "s")) (number (codes "1") (pos 1)) (number (codes "0") (pos 0))) (IndexTree (scalar (codes "s")) (number (codes "1") (pos 1))))).fault
      ≡ Some ScalarSlice
  -- A select of an elided select isn't elided, and no part select is.
  pub outer_select : expr_text (IndexTree (IndexTree (scalar (codes "s")) (number (codes "0") (pos 0))) (number (codes "3") (pos 3))) ≡ plain_text (codes "s[3]")
  pub part_select : expr_text (PartSelectTree (scalar (codes "s")) (number (codes "0") (pos 0)) (pos 1)) ≡ plain_text (codes "s[0 +: 1]")
  -- A member stands behind what an index would stand behind.
  pub member_of_sum : expr_text (MemberOfTree (BinaryTree SubOp (name (codes "a")) (name (codes "b"))) (codes "f")) ≡ plain_text (codes "(a - b).f")
  -- The width of a cast is in parentheses unless it is a numeral or a name, also one whose index is elided.
  pub based_cast : expr_text (WidthCastTree (number (codes "8'h08") (pos 8)) (name (codes "x"))) ≡ plain_text (codes "(8'h08)'(x)")
  pub named_cast : expr_text (WidthCastTree (IndexTree (scalar (codes "W")) (number (codes "0") (pos 0))) (name (codes "x"))) ≡ plain_text (codes "W'(x)")
  -- A cast by a width is in parentheses under a unary operator.
  pub negated_cast : expr_text (UnaryTree NegateOp (WidthCastTree (number (codes "8") (pos 8)) (name (codes "x")))) ≡ plain_text (codes "-(8'(x))")
  -- A name of no bytes is not bare.
  pub nameless_cast : expr_text (WidthCastTree (scalar []) (name (codes "x"))) ≡ plain_text (codes "()'(x)")
  -- A cast to a vector is one by its width inside one by its signedness.
  pub vector_cast : expr_text (TypeCastTree (VectorTree (number (codes "-8'sd1") (pos 255)) (Some (pos 255)) false) (scalar (codes "a"))) ≡ plain_text (codes "unsigned'((-8'sd1)'(a))")
