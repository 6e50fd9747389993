-- Many expressions joined by one operator, and what a helper leaves that makes them.
use Rattle.std.specs.Prelude.{◌≡◌, ℕ, pos, Bool, true, false, List, [], ◌∷◌, ◌++◌, Some, Result, Ok, Err, IsOkAnd, not, codes, string_bytes}
use Rattle.std.specs.List.{fold}
use Rattle.vast_literal.specs.declared.error.VastFault.{VastFault}
use Rattle.vast_literal.specs.declared.error.VastFault.TheVariants.{Refused, Memory}
use Rattle.vast_literal.specs.Tree.{ExprTree, LiteralTree, UnaryTree, BinaryTree}
use Rattle.vast_literal.specs.declared.operator.BinaryOperator.{BinaryOperator as BinaryOp}
use Rattle.vast_literal.specs.declared.operator.BinaryOperator.TheVariants.{BitwiseOr as BitwiseOrOp}
use Rattle.vast_literal.specs.declared.operator.UnaryOperator.TheVariants.{LogicalNot as LogicalNotOp}
use Rattle.vast_core.specs.declared.handle.Expr.{Expr}
use Rattle.vast_core.specs.Nodes.{Root}
use Rattle.vast_core.specs.Bench.{Bench, OwnsExpr, tree_of}

-- A first tree and others, joined from the left: `((a | b) | c) | d`.
abbrev pub chain : BinaryOp → ExprTree → List ExprTree → ExprTree
chain operator first others = fold (λ whole next. BinaryTree operator whole next) first others

-- The literal of one bit.
abbrev pub bit_literal : Bool → ExprTree
bit_literal false = LiteralTree (codes "1'h0") (Some (pos 0))
bit_literal true = LiteralTree (codes "1'h1") (Some (pos 1))

-- No trees stand for a bit. To invert is one `!` over the whole, and of no trees the other bit.
abbrev pub logical_reduction : (operator : BinaryOp) (of_none invert : Bool) → List ExprTree → ExprTree
logical_reduction operator of_none false [] = bit_literal of_none
logical_reduction operator of_none true [] = bit_literal (not of_none)
logical_reduction operator of_none false (t ∷ ts) = chain operator t ts
logical_reduction operator of_none true (t ∷ ts) = UnaryTree LogicalNotOp (chain operator t ts)

-- No trees stand for a zero of any width.
abbrev pub bitwise_reduction : List ExprTree → ExprTree
bitwise_reduction [] = LiteralTree (codes "'0") (Some (pos 0))
bitwise_reduction (t ∷ ts) = chain BitwiseOrOp t ts

-- The file has these nodes more, and all else is as it was.
abbrev pub with_nodes : List Root → Bench → Bench
with_nodes roots b = record b { nodes = record { id = b.nodes.id; roots = b.nodes.roots ++ roots } }

-- The file has expressions and types more, and is else as it was.
pub record HasMoreNodes (old new : Bench) : Type 0 where
  pub more : List Root
  pub after : new ≡ with_nodes more old

-- The handle is that of an expression of this tree.
abbrev pub IsTree : Bench → Expr → ExprTree → Type 0
IsTree b e t = OwnsExpr b e × (tree_of b e ≡ t)

-- What a helper leaves that makes an expression: its tree is the rule's, or the rule refuses it and nothing changed, or
-- memory was refused. But for nodes that nothing else uses, the file is as it was.
abbrev pub MakesTree : (old new : Bench) → Result Expr VastFault → Result ExprTree (List ℕ) → Type 0
MakesTree old new (Ok e) rule = IsOkAnd rule (IsTree new e) × HasMoreNodes old new
MakesTree old new (Err (Refused e)) rule = (rule ≡ Err (string_bytes e.0)) × (new ≡ old)
MakesTree old new (Err (Memory e)) rule = HasMoreNodes old new
