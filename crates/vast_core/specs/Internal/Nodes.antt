-- Beside `specs/Nodes.antt`: what private contracts and proofs say, and no public one.
use Rattle.std.specs.Prelude.{◌≡◌, ℕ, ◌<◌, List, [], ◌∷◌, Some, slice_get}
use Rattle.vast_core.specs.Handles.{Expr, VastDataType, rank, type_rank}
use Rattle.vast_core.specs.declared.node.ExprNode.TheVariants.{DataType}
use Rattle.vast_core.specs.Types.{ExprFits, TypeFits, ExprWellFormed, TypeWellFormed}
use Rattle.vast_core.specs.Nodes.{ExprNode, Root, ExprRoot, TypeRoot, Nodes, with_node, is_expr_root, is_type_root, IsOwned, term_root, ExprChildrenHold, TypeChildrenHold}

abbrev pub HasExpr : Nodes → Expr → Type 0
HasExpr b e = IsOwned b.id e.id (is_expr_root (slice_get b.roots e.id.index))

abbrev pub HasType : Nodes → VastDataType → Type 0
HasType b t = IsOwned b.id t.id (is_type_root (slice_get b.roots t.id.index))

abbrev pub ChildrenHold : (P : Expr → Type 0) (Q : VastDataType → Type 0) → ExprNode → Type 0
ChildrenHold P Q (DataType n) = TypeChildrenHold P Q n
ChildrenHold P Q n = ExprChildrenHold P Q n

-- What a node keeps of itself, and of all that it is made of.
abbrev pub RootFits : Root → Type 0
RootFits (ExprRoot e) = ExprFits e
RootFits (TypeRoot t) = TypeFits t

abbrev pub RootWellFormed : Root → Type 0
RootWellFormed (ExprRoot e) = ExprWellFormed e
RootWellFormed (TypeRoot t) = TypeWellFormed t

-- Each term fits, and its children are older nodes of the file.
abbrev pub TermsSound : Nodes → List ExprNode → Type 0
TermsSound b [] = Unit {0}
TermsSound b (t ∷ ts) = ChildrenHold (HasExpr b) (HasType b) t × RootFits (term_root b t) × TermsSound (with_node b (term_root b t)) ts

-- The term is node i, is well formed, and its children are older nodes of the file.
pub record IsNodeAt (b : Nodes) (i : ℕ) (t : ExprNode) : Type 0 where
  pub root : slice_get b.roots i ≡ Some (term_root b t)
  pub owned : ChildrenHold (HasExpr b) (HasType b) t
  pub older : ChildrenHold (λ e. rank e < i) (λ u. type_rank u < i) t
  pub well_formed : RootWellFormed (term_root b t)
