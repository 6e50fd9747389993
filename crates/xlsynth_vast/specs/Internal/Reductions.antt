-- Beside `specs/Reductions.antt`: what private contracts and proofs say, and no public one.
use Rattle.std.specs.Prelude.{◌≡◌, All, Vec, map, ℕ, List, [], ◌∷◌, ◌++◌, Option, Some, None, Result, Ok, Err}
use Rattle.std.specs.declared.alloc.AllocError.{AllocError}
use Rattle.std.specs.declared.alloc.Global.{Global}
use Rattle.vast_literal.specs.declared.error.VastFault.{VastFault}
use Rattle.vast_literal.specs.Fault.{RefusedBy}
use Rattle.vast_literal.specs.Tree.{ExprTree}
use Rattle.vast_literal.specs.declared.operator.BinaryOperator.{BinaryOperator as BinaryOp}
use Rattle.vast_core.specs.declared.handle.Expr.{Expr}
use Rattle.vast_core.specs.Bench.{Bench, OwnsExpr, tree_of}
use Rattle.xlsynth_vast.specs.Reductions.{chain, HasMoreNodes, IsTree}

-- The same of trees that are joined, if there are any.
abbrev pub IsChain : Bench → Option Expr → BinaryOp → List ExprTree → Type 0
IsChain b e operator [] = e ≡ None
IsChain b None operator (t ∷ ts) = ⊥
IsChain b (Some e) operator (t ∷ ts) = IsTree b e (chain operator t ts)

abbrev pub MakesChain : (old new : Bench) → Result (Option Expr) AllocError → BinaryOp → List ExprTree → Type 0
MakesChain old new (Ok e) operator trees = IsChain new e operator trees × HasMoreNodes old new
MakesChain old new (Err e) operator trees = HasMoreNodes old new

-- A helper's steps: a list with expressions of these trees more, and a list of expressions of these trees.
abbrev pub AddsTrees : (old new : Bench) → Result (Unit {0}) AllocError → (before after : List Expr) → List ExprTree → Type 0
AddsTrees old new (Ok _) before after added = All (OwnsExpr new) after × (map (tree_of new) after ≡ map (tree_of old) before ++ added) × HasMoreNodes old new
AddsTrees old new (Err e) before after added = HasMoreNodes old new

abbrev pub MakesTrees : (old new : Bench) → Result (Vec Expr Global) AllocError → List ExprTree → Type 0
MakesTrees old new (Ok made) trees = All (OwnsExpr new) made.items × (map (tree_of new) made.items ≡ trees) × HasMoreNodes old new
MakesTrees old new (Err e) trees = HasMoreNodes old new

-- A check passes what its rule passes, and refuses only what its rule refuses.
abbrev pub ChecksBy : {A : Type 0} → Result (Unit {0}) (List ℕ) → Result A VastFault → Type 0
ChecksBy rule (Ok _) = rule ≡ Ok tt
ChecksBy rule (Err fault) = RefusedBy rule fault
