-- What callers cite after a call that makes something.
use Rattle.std.proofs.Common.{◌≡◌, Bool, List, All, slice_get, refl}
use Rattle.vast_literal.specs.Tree.{ExprTree, TypeTree}
use Rattle.vast_core.specs.Handles.{Id, Expr, IndexableExpr, Index, Slice, MacroRef, LogicRef, ParameterRef, LocalparamRef, VastDataType}
use Rattle.vast_core.specs.Nodes.{Root, ExprRoot, TypeRoot, IsOwned, is_name, is_index, is_slice, is_macro, expr_in, type_in}
use Rattle.vast_core.specs.Bench.{Bench, OwnsExpr, OwnsIndexable, OwnsType, OwnsIndex, OwnsSlice, OwnsMacroRef, OwnsLogicRef, OwnsParameterRef, OwnsLocalparamRef, has_root, tree_of, trees_of, type_of}
use Rattle.vast_core.specs.Growth.{with_root, with_expr, with_type, next_expr, next_type}
use Rattle.vast_core.proofs.Lists.{slice_get-seam, All-implies}
use Rattle.vast_core.proofs.NodeLaws.{some_expr, Extends-root, HasExpr-kept, HasType-kept, expr_in-kept, type_in-kept, exprs-kept}

pub next_owned : (b : Bench) (e : ExprTree) → OwnsExpr (with_expr e b) (next_expr b)
next_owned b e = record { of_file = refl; of_kind = rw (slice_get-seam b.nodes.roots (ExprRoot e)) refl }

pub next_tree : (b : Bench) (e : ExprTree) → tree_of (with_expr e b) (next_expr b) ≡ e
unfolding expr_in
next_tree b e = rw (slice_get-seam b.nodes.roots (ExprRoot e)) refl

pub next_type_owned : (b : Bench) (t : TypeTree) → OwnsType (with_type t b) (next_type b)
next_type_owned b t = record { of_file = refl; of_kind = rw (slice_get-seam b.nodes.roots (TypeRoot t)) refl }

pub next_type_tree : (b : Bench) (t : TypeTree) → type_of (with_type t b) (next_type b) ≡ t
unfolding type_in
next_type_tree b t = rw (slice_get-seam b.nodes.roots (TypeRoot t)) refl

pub ruleset terms = (next_owned, next_tree, next_type_owned, next_type_tree)

-- What was there before stays.

pub old_owned : (b : Bench) (r : Root) (e : Expr) → OwnsExpr b e → OwnsExpr (with_root b r) e
old_owned b r e h = HasExpr-kept b.nodes (with_root b r).nodes (Extends-root b.nodes r) e h

pub old_tree : (b : Bench) (r : Root) (e : Expr) → OwnsExpr b e → tree_of (with_root b r) e ≡ tree_of b e
old_tree b r e h = expr_in-kept b.nodes (with_root b r).nodes (Extends-root b.nodes r) e h

pub old_type_owned : (b : Bench) (r : Root) (t : VastDataType) → OwnsType b t → OwnsType (with_root b r) t
old_type_owned b r t h = HasType-kept b.nodes (with_root b r).nodes (Extends-root b.nodes r) t h

pub old_type : (b : Bench) (r : Root) (t : VastDataType) → OwnsType b t → type_of (with_root b r) t ≡ type_of b t
old_type b r t h = type_in-kept b.nodes (with_root b r).nodes (Extends-root b.nodes r) t h

pub all_old_owned : (b : Bench) (r : Root) (es : List Expr) → All (OwnsExpr b) es → All (OwnsExpr (with_root b r)) es
all_old_owned b r es h = All-implies (old_owned b r) es h

pub old_trees : (b : Bench) (r : Root) (es : List Expr) → All (OwnsExpr b) es → trees_of (with_root b r) es ≡ trees_of b es
old_trees b r es h = exprs-kept b.nodes (with_root b r).nodes (Extends-root b.nodes r) es h

pub ruleset older_terms = (old_owned, old_tree, old_type_owned, old_type, all_old_owned, old_trees)

-- A handle of a kind of its own is one of an expression.

as_expr : (shape : ExprTree → Bool) (b : Bench) (id : Id) → IsOwned b.nodes.id id (has_root shape b id.index) → OwnsExpr b (record { id = id })
as_expr shape b id h = record { of_file = h.of_file; of_kind = some_expr shape (slice_get b.nodes.roots id.index) h.of_kind }

pub indexable_is_expr : (b : Bench) (r : IndexableExpr) → OwnsIndexable b r → OwnsExpr b (record { id = r.id })
indexable_is_expr b r h = h

pub expr_is_indexable : (b : Bench) (e : Expr) → OwnsExpr b e → OwnsIndexable b (record { id = e.id })
expr_is_indexable b e h = h

pub index_is_expr : (b : Bench) (r : Index) → OwnsIndex b r → OwnsExpr b (record { id = r.id })
index_is_expr b r h = as_expr is_index b r.id h

pub slice_is_expr : (b : Bench) (r : Slice) → OwnsSlice b r → OwnsExpr b (record { id = r.id })
slice_is_expr b r h = as_expr is_slice b r.id h

pub macro_ref_is_expr : (b : Bench) (r : MacroRef) → OwnsMacroRef b r → OwnsExpr b (record { id = r.id })
macro_ref_is_expr b r h = as_expr is_macro b r.id h

pub logic_ref_is_expr : (b : Bench) (r : LogicRef) → OwnsLogicRef b r → OwnsExpr b (record { id = r.id })
logic_ref_is_expr b r h = as_expr is_name b r.id h

pub parameter_ref_is_expr : (b : Bench) (r : ParameterRef) → OwnsParameterRef b r → OwnsExpr b (record { id = r.id })
parameter_ref_is_expr b r h = as_expr is_name b r.id h

pub localparam_ref_is_expr : (b : Bench) (r : LocalparamRef) → OwnsLocalparamRef b r → OwnsExpr b (record { id = r.id })
localparam_ref_is_expr b r h = as_expr is_name b r.id h

pub index_is_indexable : (b : Bench) (r : Index) → OwnsIndex b r → OwnsIndexable b (record { id = r.id })
index_is_indexable b r h = as_expr is_index b r.id h

pub logic_ref_is_indexable : (b : Bench) (r : LogicRef) → OwnsLogicRef b r → OwnsIndexable b (record { id = r.id })
logic_ref_is_indexable b r h = as_expr is_name b r.id h

pub parameter_ref_is_indexable : (b : Bench) (r : ParameterRef) → OwnsParameterRef b r → OwnsIndexable b (record { id = r.id })
parameter_ref_is_indexable b r h = as_expr is_name b r.id h

pub ruleset conversions = (indexable_is_expr, expr_is_indexable, index_is_expr, slice_is_expr, macro_ref_is_expr, logic_ref_is_expr, parameter_ref_is_expr, localparam_ref_is_expr, index_is_indexable, logic_ref_is_indexable, parameter_ref_is_indexable)
