-- Expressions and types by numbers: their literals come before them.
use Rattle.std.proofs.Common.{◌≡◌, ◌∙◌, sym, ℕ, ℤ, ◌+◌, Bool, List, [], ◌∷◌, ◌++◌, length, Some, All, refl, ap, arith, length-append}
use Rattle.std.specs.Fmt.{signed_decimal}
use Rattle.vast_literal.specs.Tree.{ExprTree, IndexTree, SliceTree, ConcatTree, VectorTree, SomeExpr}
use Rattle.vast_core.specs.Handles.{Id, Expr, IndexableExpr}
use Rattle.vast_core.specs.Nodes.{ExprRoot}
use Rattle.vast_core.specs.Bench.{Bench, OwnsExpr, OwnsIndexable, tree_of, trees_of}
use Rattle.vast_core.specs.Growth.{next_id, with_expr, with_type, with_bounds, with_vector, with_fixed_index, with_fixed_slice, next_expr, known_literal, decimal_literal, with_fixed_replication}
use Rattle.vast_core.proofs.Laws.{next_owned, next_tree, old_owned, old_tree, old_trees}

-- The ids after one literal and after two.

pub second_id : (b : Bench) (e : ExprTree) → next_id (with_expr e b) (length (with_expr e b).nodes.roots) ≡ next_id b (length b.nodes.roots + 1)
second_id b e = rw (length-append b.nodes.roots (ExprRoot e ∷ [])) refl

pub third_id : (b : Bench) (e f : ExprTree) → next_id (with_expr f (with_expr e b)) (length (with_expr f (with_expr e b)).nodes.roots) ≡ next_id b (length b.nodes.roots + 2)
third_id b e f = rw (length-append (b.nodes.roots ++ ExprRoot e ∷ []) (ExprRoot f ∷ []), length-append b.nodes.roots (ExprRoot e ∷ [])) (ap (next_id b) (omega arith))

index-built :
    (b : Bench) (s : IndexableExpr) (text : List ℕ) (v : ℤ) → OwnsIndexable b s →
    with_expr (IndexTree (tree_of (with_expr (known_literal text v) b) (record { id = s.id })) (tree_of (with_expr (known_literal text v) b) (next_expr b))) (with_expr (known_literal text v) b) ≡ with_fixed_index s text v b
index-built b s text v h =
    rw (old_tree b (ExprRoot (known_literal text v)) (record { id = s.id }) h, next_tree b (known_literal text v)) refl

pub fixed-index :
    (b : Bench) (s : IndexableExpr) (text t : List ℕ) (v w : ℤ) (i e : Expr) → OwnsIndexable b s → t ≡ text → w ≡ v → i ≡ next_expr b → e ≡ record { id = s.id } →
    with_expr (IndexTree (tree_of (with_expr (known_literal t w) b) e) (tree_of (with_expr (known_literal t w) b) i)) (with_expr (known_literal t w) b) ≡ with_fixed_index s text v b
fixed-index b s text t v w i e h q o k l = rw (q, o, k, l) (index-built b s text v h)

slice-built :
    (b : Bench) (s : IndexableExpr) (text1 : List ℕ) (v1 : ℤ) (text2 : List ℕ) (v2 : ℤ) → OwnsIndexable b s →
    with_expr (SliceTree (tree_of (with_bounds text1 v1 text2 v2 b) (record { id = s.id })) (tree_of (with_bounds text1 v1 text2 v2 b) (next_expr b)) (tree_of (with_bounds text1 v1 text2 v2 b) (next_expr (with_expr (known_literal text1 v1) b))))
    (with_bounds text1 v1 text2 v2 b)
    ≡ with_fixed_slice s text1 v1 text2 v2 b
slice-built b s text1 v1 text2 v2 h =
    let b1 : Bench = with_expr (known_literal text1 v1) b in
    rw (
      old_tree b1 (ExprRoot (known_literal text2 v2)) (record { id = s.id }) (old_owned b (ExprRoot (known_literal text1 v1)) (record { id = s.id }) h),
      old_tree b (ExprRoot (known_literal text1 v1)) (record { id = s.id }) h,
      old_tree b1 (ExprRoot (known_literal text2 v2)) (next_expr b) (next_owned b (known_literal text1 v1)),
      next_tree b (known_literal text1 v1),
      next_tree b1 (known_literal text2 v2),
    ) refl

pub fixed-slice :
    (b : Bench) (s : IndexableExpr) (text1 t1 : List ℕ) (v1 w1 : ℤ) (text2 t2 : List ℕ) (v2 w2 : ℤ) (i j e : Expr) → OwnsIndexable b s → t1 ≡ text1 → w1 ≡ v1 → t2 ≡ text2 → w2 ≡ v2 →
    i ≡ next_expr b → j ≡ next_expr (with_expr (known_literal text1 v1) b) → e ≡ record { id = s.id } →
    with_expr (SliceTree (tree_of (with_bounds t1 w1 t2 w2 b) e) (tree_of (with_bounds t1 w1 t2 w2 b) i) (tree_of (with_bounds t1 w1 t2 w2 b) j)) (with_bounds t1 w1 t2 w2 b) ≡ with_fixed_slice s text1 v1 text2 v2 b
fixed-slice b s text1 t1 v1 w1 text2 t2 v2 w2 i j e h q1 o1 q2 o2 k l m = rw (q1, o1, q2, o2, k, l, m) (slice-built b s text1 v1 text2 v2 h)

replication-built :
    (b : Bench) (count : ℤ) (parts : List Expr) → All (OwnsExpr b) parts →
    with_expr (ConcatTree (SomeExpr (tree_of (with_expr (decimal_literal count) b) (next_expr b))) (trees_of (with_expr (decimal_literal count) b) parts)) (with_expr (decimal_literal count) b) ≡ with_fixed_replication count parts b
replication-built b count parts h = rw (next_tree b (decimal_literal count), old_trees b (ExprRoot (decimal_literal count)) parts h) refl

pub fixed-replication :
    (b : Bench) (count w : ℤ) (t : List ℕ) (parts own : List Expr) (i : Expr) → All (OwnsExpr b) parts → t ≡ signed_decimal count → w ≡ count → own ≡ parts → i ≡ next_expr b →
    with_expr (ConcatTree (SomeExpr (tree_of (with_expr (known_literal t w) b) i)) (trees_of (with_expr (known_literal t w) b) own)) (with_expr (known_literal t w) b) ≡ with_fixed_replication count parts b
fixed-replication b count w t parts own i h q o r k = rw (q, o, r, k) (replication-built b count parts h)

pub fixed-vector :
    (b : Bench) (bits w : ℤ) (signed : Bool) (t : List ℕ) (i : Expr) → t ≡ signed_decimal bits → w ≡ bits → i ≡ next_expr b →
    with_type (VectorTree (tree_of (with_expr (known_literal t w) b) i) (Some w) signed) (with_expr (known_literal t w) b) ≡ with_vector bits signed b
fixed-vector b bits w signed t i q o k = rw (q, o, k, next_tree b (decimal_literal bits)) refl

-- The subject and both literals are the file's after the literals.
pub bounds-owned :
    (b : Bench) (s : IndexableExpr) (high low : ExprTree) (i e : Expr) (second : Id) → OwnsIndexable b s → i ≡ next_expr b → e ≡ record { id = s.id } → second ≡ next_id b (length b.nodes.roots + 1) →
    OwnsExpr (with_expr low (with_expr high b)) e × OwnsExpr (with_expr low (with_expr high b)) i × OwnsExpr (with_expr low (with_expr high b)) (record { id = second })
bounds-owned b s high low i e second h k l m =
    let c : Bench = with_expr high b in
    let n : second ≡ next_id c (length c.nodes.roots) = m ∙ sym (second_id b high) in
    rw (k, l, n) (old_owned c (ExprRoot low) (record { id = s.id }) (old_owned b (ExprRoot high) (record { id = s.id }) h), old_owned c (ExprRoot low) (next_expr b) (next_owned b high), next_owned c low)
