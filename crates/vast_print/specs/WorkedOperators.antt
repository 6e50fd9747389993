-- The operators between two operands, row by row as the standard has them (IEEE 1800-2017, table 11-2), written apart from
-- the table that the layout and the tokens go by: what two of them in one text mean. Proved in the law `worked_texts`.
use Rattle.std.specs.Prelude.{◌≡◌, ℕ, List, [], ◌∷◌, ◌++◌, All, cond, nat_lt, codes}
use Rattle.vast_literal.specs.Tree.{ExprTree, BinaryTree}
use Rattle.vast_literal.specs.declared.operator.BinaryOperator.{BinaryOperator}
use Rattle.vast_literal.specs.declared.operator.BinaryOperator.TheVariants as op
use Rattle.vast_print.specs.Text.{expr_text}
use Rattle.vast_print.specs.Derived.{DerivesOnly}
use Rattle.vast_print.specs.WorkedTexts.{name}

-- An operator, how it is written, and its row, counted from the operators that bind least.
pub record StandardOperator : Type 0 where
  pub operator : BinaryOperator
  pub sign : List ℕ
  pub row : ℕ

abbrev pub row : ℕ → BinaryOperator → List ℕ → StandardOperator
row n o w = record { operator = o; sign = w; row = n }

-- Of each row all operators that there are calls for; those that compare with x are the case comparisons.
unfoldable pub standard_operators : List StandardOperator
standard_operators =
    row 1 op.LogicalOr (codes "||")
    ∷ row 2 op.LogicalAnd (codes "&&")
    ∷ row 3 op.BitwiseOr (codes "|")
    ∷ row 4 op.BitwiseXor (codes "^")
    ∷ row 5 op.BitwiseAnd (codes "&")
    ∷ row 6 op.Eq (codes "==") ∷ row 6 op.Ne (codes "!=")
    ∷ row 6 op.CaseEq (codes "===") ∷ row 6 op.CaseNe (codes "!==")
    ∷ row 6 op.EqX (codes "===") ∷ row 6 op.NeX (codes "!==")
    ∷ row 7 op.Lt (codes "<") ∷ row 7 op.Le (codes "<=") ∷ row 7 op.Gt (codes ">") ∷ row 7 op.Ge (codes ">=")
    ∷ row 8 op.Shll (codes "<<") ∷ row 8 op.Shrl (codes ">>") ∷ row 8 op.Shra (codes ">>>")
    ∷ row 9 op.Add (codes "+") ∷ row 9 op.Sub (codes "-")
    ∷ row 10 op.Mul (codes "*") ∷ row 10 op.Div (codes "/") ∷ row 10 op.Mod (codes "%")
    ∷ row 11 op.Power (codes "**") ∷ []

-- a x b y c
abbrev pub written : (x y : StandardOperator) → List ℕ
written x y = codes "a " ++ (x.sign ++ (codes " b " ++ (y.sign ++ codes " c")))

-- What it means: the operator of the higher row takes its operands first, and of one row the left one, since all of these
-- associate from the left.
abbrev pub meant : (x y : StandardOperator) → ExprTree
meant x y =
    cond (nat_lt x.row y.row)
    (BinaryTree x.operator (name (codes "a")) (BinaryTree y.operator (name (codes "b")) (name (codes "c"))))
    (BinaryTree y.operator (BinaryTree x.operator (name (codes "a")) (name (codes "b"))) (name (codes "c")))

-- So the tree is printed, and so the text is read, and in no other way.
pub record IsAsStandard (x y : StandardOperator) : Type 0 where
  pub printed : (expr_text (meant x y)).text ≡ written x y
  pub read : DerivesOnly (written x y) (meant x y)

-- Each two operators in one text are printed and read as the standard has them.
abbrev pub WorkedOperators : Type 0
WorkedOperators = All (λ x. All (IsAsStandard x) standard_operators) standard_operators
