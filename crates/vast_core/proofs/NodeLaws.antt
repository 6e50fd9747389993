-- Laws of the arena of expressions and types.
use Rattle.std.proofs.Common.{zero, suc, get_or, ◌≡◌, ℕ, ◌+◌, ◌<◌, ◌≤◌, Bool, IsTrue, List, [], ◌∷◌, ◌++◌, length, Option, Some, None, slice_get, All, refl, sym, ap, ◌∙◌, subst, arith, length-append}
use Rattle.std.proofs.lemmas.Option.{IfSome_then, slice_get_within, slice_get_past, slice_get_read}
use Rattle.std.specs.Prelude.{IfSome}
use Rattle.vast_literal.specs.Tree.{ExprTree, TypeTree, Typed, SomeExpr}
use Rattle.vast_literal.proofs.NumberLaws.{signed_text}
use Rattle.vast_core.specs.Handles.{Expr, VastDataType, rank, type_rank}
use Rattle.vast_core.specs.declared.node.ExprNode.TheVariants.{Name, Literal, StringText, Unary, Binary, Ternary, Index, Slice, PartSelect, MemberOf, Concat, Pattern, WidthCast, TypeCast, PosEdge, NegEdge, Macro, MacroCall, Call, DataType}
use Rattle.vast_core.specs.declared.node.TypeNode.{TypeNode}
use Rattle.vast_core.specs.declared.node.TypeNode.TheVariants.{Vector, Packed, Unpacked}
use Rattle.vast_core.specs.declared.node.Dimension.TheVariants.{Count, Size}
use Rattle.vast_core.specs.Nodes.{ExprNode, Root, ExprRoot, TypeRoot, Nodes, no_nodes, with_node, is_expr_root, is_type_root, is_root_of, expr_of_root, type_of_root, expr_in, type_in, maybe_type_in, maybe_expr_in, exprs_in, Dimension, size_in, sizes_in, SizeHolds, expr_tree, type_tree, term_root, ExprChildrenHold, TypeChildrenHold, built}
use Rattle.vast_core.specs.Internal.Nodes.{HasExpr, HasType, ChildrenHold, RootFits, RootWellFormed, TermsSound, IsNodeAt}
use Rattle.vast_core.specs.Types.{ExprFits, TypeFits, ExprWellFormed, TypeWellFormed, MaybeTypeWellFormed, MaybeExprWellFormed, ExprsWellFormed}
use Rattle.vast_core.specs.Sound.{Each}
use Rattle.vast_core.proofs.Lists.{slice_get-append, slice_get-seam, All-head, All-tail, All-implies, Each-push, Each-get}

-- A term of a shape is an expression.
pub some_expr : (shape : ExprTree → Bool) (o : Option Root) → IsTrue (is_root_of shape o) → IsTrue (is_expr_root o)
some_expr shape None h = cc
some_expr shape (Some (ExprRoot e)) h = refl
some_expr shape (Some (TypeRoot t)) h = cc

-- Growing by terms.

pub built-append : (b : Nodes) (ts us : List ExprNode) → built b (ts ++ us) ≡ built (built b ts) us
built-append b [] us = refl
built-append b (t ∷ ts) us = built-append (with_node b (term_root b t)) ts us

pub TermsSound-append : (b : Nodes) (ts us : List ExprNode) → TermsSound b ts → TermsSound (built b ts) us → TermsSound b (ts ++ us)
TermsSound-append b [] us s h = h
TermsSound-append b (t ∷ ts) us s h = (s.0, s.1, TermsSound-append (with_node b (term_root b t)) ts us s.2 h)

pub built-id : (b : Nodes) (ts : List ExprNode) → (built b ts).id ≡ b.id
built-id b [] = refl
built-id b (u ∷ ts) = built-id (with_node b (term_root b u)) ts

pub built-length : (b : Nodes) (ts : List ExprNode) → length (built b ts).roots ≡ length b.roots + length ts
built-length b [] = omega arith
built-length b (u ∷ ts) =
    omega (arith, built-length (with_node b (term_root b u)) ts, length-append b.roots (term_root b u ∷ []))

-- c has all that b has.

pub record Extends (b c : Nodes) : Type 0 where
  pub same_id : c.id ≡ b.id
  pub same_roots : (i : ℕ) (r : Root) → slice_get b.roots i ≡ Some r → slice_get c.roots i ≡ Some r

pub Extends-same : (b : Nodes) → Extends b b
Extends-same b = record { same_id = refl; same_roots = λ i r h. h }

pub Extends-root : (b : Nodes) (r : Root) → Extends b (with_node b r)
Extends-root b r = record { same_id = refl; same_roots = λ i s h. slice_get-append b.roots (r ∷ []) i s h }

pub Extends-built : (b : Nodes) (ts : List ExprNode) → Extends b (built b ts)
Extends-built b [] = Extends-same b
Extends-built b (t ∷ ts) =
    let e : Extends (with_node b (term_root b t)) (built (with_node b (term_root b t)) ts) = Extends-built (with_node b (term_root b t)) ts
    in record {
      same_id = e.same_id;
      same_roots = λ i r h. e.same_roots i r (slice_get-append b.roots (term_root b t ∷ []) i r h);
    }

-- Handles stay good.

pub has_expr : (o : Option Root) → IsTrue (is_expr_root o) → (e : ExprTree) × (o ≡ Some (ExprRoot e))
has_expr None h = cc
has_expr (Some (ExprRoot e)) h = (e, refl)
has_expr (Some (TypeRoot t)) h = cc

pub has_type : (o : Option Root) → IsTrue (is_type_root o) → (t : TypeTree) × (o ≡ Some (TypeRoot t))
has_type None h = cc
has_type (Some (ExprRoot e)) h = cc
has_type (Some (TypeRoot t)) h = (t, refl)

pub has_shape : (shape : ExprTree → Bool) (o : Option Root) → IsTrue (is_root_of shape o) → (e : ExprTree) × (o ≡ Some (ExprRoot e)) × IsTrue (shape e)
has_shape shape None h = cc
has_shape shape (Some (ExprRoot e)) h = (e, refl, h)
has_shape shape (Some (TypeRoot t)) h = cc

pub HasExpr-kept : (b c : Nodes) → Extends b c → (e : Expr) → HasExpr b e → HasExpr c e
HasExpr-kept b c x e h =
    let w = has_expr (slice_get b.roots e.id.index) h.of_kind
    in record {
      of_file = h.of_file ∙ sym x.same_id;
      of_kind = rw (x.same_roots e.id.index (ExprRoot w.0) w.1) refl;
    }

pub HasType-kept : (b c : Nodes) → Extends b c → (t : VastDataType) → HasType b t → HasType c t
HasType-kept b c x t h =
    let w = has_type (slice_get b.roots t.id.index) h.of_kind
    in record {
      of_file = h.of_file ∙ sym x.same_id;
      of_kind = rw (x.same_roots t.id.index (TypeRoot w.0) w.1) refl;
    }

pub shape-kept : (shape : ExprTree → Bool) (b c : Nodes) → Extends b c → (i : ℕ) → IsTrue (is_root_of shape (slice_get b.roots i)) → IsTrue (is_root_of shape (slice_get c.roots i))
shape-kept shape b c x i h =
    let w = has_shape shape (slice_get b.roots i) h
    in rw (x.same_roots i (ExprRoot w.0) w.1) w.2

pub expr_in-kept : (b c : Nodes) → Extends b c → (e : Expr) → HasExpr b e → expr_in c e ≡ expr_in b e
unfolding expr_in
expr_in-kept b c x e h =
    let w = has_expr (slice_get b.roots e.id.index) h.of_kind
    in ap expr_of_root (x.same_roots e.id.index (ExprRoot w.0) w.1 ∙ sym w.1)

pub type_in-kept : (b c : Nodes) → Extends b c → (t : VastDataType) → HasType b t → type_in c t ≡ type_in b t
unfolding type_in
type_in-kept b c x t h =
    let w = has_type (slice_get b.roots t.id.index) h.of_kind
    in ap type_of_root (x.same_roots t.id.index (TypeRoot w.0) w.1 ∙ sym w.1)

rank-below : (b : Nodes) (e : Expr) → HasExpr b e → rank e < length b.roots
rank-below b e h =
    let w = has_expr (slice_get b.roots e.id.index) h.of_kind
    in slice_get_within b.roots e.id.index (ExprRoot w.0) w.1

type_rank-below : (b : Nodes) (t : VastDataType) → HasType b t → type_rank t < length b.roots
type_rank-below b t h =
    let w = has_type (slice_get b.roots t.id.index) h.of_kind
    in slice_get_within b.roots t.id.index (TypeRoot w.0) w.1

-- Children.

expr_children-map :
    {P P2 : Expr → Type 0} {Q Q2 : VastDataType → Type 0} →
    ((e : Expr) → P e → P2 e) →
    ((t : VastDataType) → Q t → Q2 t) →
    (n : ExprNode) →
    ExprChildrenHold P Q n →
    ExprChildrenHold P2 Q2 n
expr_children-map f g (Name name type) h = IfSome_then type h g
expr_children-map f g (Unary operator operand) h = f operand h
expr_children-map f g (Binary operator left right) h = (f left h.0, f right h.1)
expr_children-map f g (Ternary condition consequent alternate) h = (f condition h.0, f consequent h.1, f alternate h.2)
expr_children-map f g (Index subject index) h = (f subject h.0, f index h.1)
expr_children-map f g (Slice subject high low) h = (f subject h.0, f high h.1, f low h.2)
expr_children-map f g (PartSelect subject start width) h = (f subject h.0, f start h.1)
expr_children-map f g (MemberOf subject name) h = f subject h
expr_children-map f g (Concat count parts) h = (IfSome_then count h.0 f, All-implies f parts.items h.1)
expr_children-map f g (Pattern parts) h = All-implies f parts.items h
expr_children-map f g (WidthCast width operand) h = (f width h.0, f operand h.1)
expr_children-map f g (TypeCast type operand) h = (g type h.0, f operand h.1)
expr_children-map f g (PosEdge operand) h = f operand h
expr_children-map f g (NegEdge operand) h = f operand h
expr_children-map f g (MacroCall name arguments) h = All-implies f arguments.items h
expr_children-map f g (Call name arguments) h = All-implies f arguments.items h
expr_children-map f g (DataType n) h = h
expr_children-map f g _ h = tt

size_holds-map : {P P2 : Expr → Type 0} → ((e : Expr) → P e → P2 e) → (d : Dimension) → SizeHolds P d → SizeHolds P2 d
size_holds-map f (Count count) h = tt
size_holds-map f (Size size) h = f size h

type_children-map :
    {P P2 : Expr → Type 0} {Q Q2 : VastDataType → Type 0} →
    ((e : Expr) → P e → P2 e) →
    ((t : VastDataType) → Q t → Q2 t) →
    (n : TypeNode) →
    TypeChildrenHold P Q n →
    TypeChildrenHold P2 Q2 n
type_children-map f g (Vector width value signed) h = f width h
type_children-map f g (Packed element dimensions) h = (g element h.0, All-implies (size_holds-map f) dimensions.items h.1)
type_children-map f g (Unpacked element dimensions) h = (g element h.0, All-implies (size_holds-map f) dimensions.items h.1)
type_children-map f g _ h = tt

children-map :
    {P P2 : Expr → Type 0} {Q Q2 : VastDataType → Type 0} →
    ((e : Expr) → P e → P2 e) →
    ((t : VastDataType) → Q t → Q2 t) →
    (n : ExprNode) →
    ChildrenHold P Q n →
    ChildrenHold P2 Q2 n
children-map f g (DataType n) h = type_children-map f g n h
children-map f g n h = expr_children-map f g n h

maybe_type-kept : (b c : Nodes) → Extends b c → (o : Option VastDataType) → IfSome o (HasType b) → maybe_type_in c o ≡ maybe_type_in b o
maybe_type-kept b c x None h = refl
maybe_type-kept b c x (Some t) h = ap Typed (type_in-kept b c x t h)

maybe_expr-kept : (b c : Nodes) → Extends b c → (o : Option Expr) → IfSome o (HasExpr b) → maybe_expr_in c o ≡ maybe_expr_in b o
maybe_expr-kept b c x None h = refl
maybe_expr-kept b c x (Some e) h = ap SomeExpr (expr_in-kept b c x e h)

pub exprs-kept : (b c : Nodes) → Extends b c → (es : List Expr) → All (HasExpr b) es → exprs_in c es ≡ exprs_in b es
exprs-kept b c x [] h = refl
exprs-kept b c x (e ∷ es) h = cc (expr_in-kept b c x e (All-head (HasExpr b) e es h), exprs-kept b c x es (All-tail (HasExpr b) e es h))

size-kept : (b c : Nodes) → Extends b c → (d : Dimension) → SizeHolds (HasExpr b) d → size_in c d ≡ size_in b d
size-kept b c x (Count count) h = refl
size-kept b c x (Size size) h = expr_in-kept b c x size h

sizes-kept : (b c : Nodes) → Extends b c → (ds : List Dimension) → All (SizeHolds (HasExpr b)) ds → sizes_in c ds ≡ sizes_in b ds
sizes-kept b c x [] h = refl
sizes-kept b c x (d ∷ ds) h = cc (size-kept b c x d (All-head (SizeHolds (HasExpr b)) d ds h), sizes-kept b c x ds (All-tail (SizeHolds (HasExpr b)) d ds h))

expr_tree-kept : (b c : Nodes) → Extends b c → (n : ExprNode) → ExprChildrenHold (HasExpr b) (HasType b) n → expr_tree c n ≡ expr_tree b n
expr_tree-kept b c x (Name name type) h = cc (maybe_type-kept b c x type h)
expr_tree-kept b c x (Unary operator operand) h = cc (expr_in-kept b c x operand h)
expr_tree-kept b c x (Binary operator left right) h = cc (expr_in-kept b c x left h.0, expr_in-kept b c x right h.1)
expr_tree-kept b c x (Ternary condition consequent alternate) h = cc (expr_in-kept b c x condition h.0, expr_in-kept b c x consequent h.1, expr_in-kept b c x alternate h.2)
expr_tree-kept b c x (Index subject index) h = cc (expr_in-kept b c x subject h.0, expr_in-kept b c x index h.1)
expr_tree-kept b c x (Slice subject high low) h = cc (expr_in-kept b c x subject h.0, expr_in-kept b c x high h.1, expr_in-kept b c x low h.2)
expr_tree-kept b c x (PartSelect subject start width) h = cc (expr_in-kept b c x subject h.0, expr_in-kept b c x start h.1)
expr_tree-kept b c x (MemberOf subject name) h = cc (expr_in-kept b c x subject h)
expr_tree-kept b c x (Concat count parts) h = cc (maybe_expr-kept b c x count h.0, exprs-kept b c x parts.items h.1)
expr_tree-kept b c x (Pattern parts) h = cc (exprs-kept b c x parts.items h)
expr_tree-kept b c x (WidthCast width operand) h = cc (expr_in-kept b c x width h.0, expr_in-kept b c x operand h.1)
expr_tree-kept b c x (TypeCast type operand) h = cc (type_in-kept b c x type h.0, expr_in-kept b c x operand h.1)
expr_tree-kept b c x (PosEdge operand) h = cc (expr_in-kept b c x operand h)
expr_tree-kept b c x (NegEdge operand) h = cc (expr_in-kept b c x operand h)
expr_tree-kept b c x (MacroCall name arguments) h = cc (exprs-kept b c x arguments.items h)
expr_tree-kept b c x (Call name arguments) h = cc (exprs-kept b c x arguments.items h)
expr_tree-kept b c x _ h = refl

type_tree-kept : (b c : Nodes) → Extends b c → (n : TypeNode) → TypeChildrenHold (HasExpr b) (HasType b) n → type_tree c n ≡ type_tree b n
type_tree-kept b c x (Vector width value signed) h = cc (expr_in-kept b c x width h)
type_tree-kept b c x (Packed element dimensions) h = cc (type_in-kept b c x element h.0, sizes-kept b c x dimensions.items h.1)
type_tree-kept b c x (Unpacked element dimensions) h = cc (type_in-kept b c x element h.0, sizes-kept b c x dimensions.items h.1)
type_tree-kept b c x _ h = refl

term_root-kept : (b c : Nodes) → Extends b c → (t : ExprNode) → ChildrenHold (HasExpr b) (HasType b) t → term_root c t ≡ term_root b t
term_root-kept b c x (DataType n) h = ap TypeRoot (type_tree-kept b c x n h)
term_root-kept b c x n h = ap ExprRoot (expr_tree-kept b c x n h)

-- Each node that fits is well formed, since those that it is made of are.

pub expr-well_formed : (b : Nodes) → Each RootWellFormed b.roots → (e : Expr) → HasExpr b e → ExprWellFormed (expr_in b e)
unfolding expr_in
expr-well_formed b w e h =
    let r = has_expr (slice_get b.roots e.id.index) h.of_kind
    in rw r.1 (Each-get RootWellFormed b.roots e.id.index (ExprRoot r.0) w r.1)

pub type-well_formed : (b : Nodes) → Each RootWellFormed b.roots → (t : VastDataType) → HasType b t → TypeWellFormed (type_in b t)
unfolding type_in
type-well_formed b w t h =
    let r = has_type (slice_get b.roots t.id.index) h.of_kind
    in rw r.1 (Each-get RootWellFormed b.roots t.id.index (TypeRoot r.0) w r.1)

maybe_type-well_formed : (b : Nodes) (o : Option VastDataType) → IfSome o (λ t. TypeWellFormed (type_in b t)) → MaybeTypeWellFormed (maybe_type_in b o)
maybe_type-well_formed b None h = tt
maybe_type-well_formed b (Some t) h = h

maybe_expr-well_formed : (b : Nodes) (o : Option Expr) → IfSome o (λ e. ExprWellFormed (expr_in b e)) → MaybeExprWellFormed (maybe_expr_in b o)
maybe_expr-well_formed b None h = tt
maybe_expr-well_formed b (Some e) h = h

exprs-well_formed : (b : Nodes) (es : List Expr) → All (λ e. ExprWellFormed (expr_in b e)) es → ExprsWellFormed (exprs_in b es)
exprs-well_formed b [] h = tt
exprs-well_formed b (e ∷ es) h =
    let P : Expr → Type 0 = λ x. ExprWellFormed (expr_in b x)
    in (All-head P e es h, exprs-well_formed b es (All-tail P e es h))

expr_node-well_formed : (b : Nodes) (n : ExprNode) → ExprChildrenHold (λ e. ExprWellFormed (expr_in b e)) (λ t. TypeWellFormed (type_in b t)) n → ExprFits (expr_tree b n) → ExprWellFormed (expr_tree b n)
expr_node-well_formed b (Name name type) h f = maybe_type-well_formed b type h
expr_node-well_formed b (Literal text value) h f = f
expr_node-well_formed b (StringText text) h f = f
expr_node-well_formed b (PartSelect subject start width) h f = (f, h.0, h.1)
expr_node-well_formed b (Concat count parts) h f = (maybe_expr-well_formed b count h.0, exprs-well_formed b parts.items h.1)
expr_node-well_formed b (Pattern parts) h f = exprs-well_formed b parts.items h
expr_node-well_formed b (TypeCast type operand) h f = (f, h.0, h.1)
expr_node-well_formed b (Macro name) h f = tt
expr_node-well_formed b (MacroCall name arguments) h f = exprs-well_formed b arguments.items h
expr_node-well_formed b (Call name arguments) h f = exprs-well_formed b arguments.items h
expr_node-well_formed b _ h f = h

size-well_formed : (b : Nodes) (d : Dimension) → SizeHolds (λ e. ExprWellFormed (expr_in b e)) d → ExprWellFormed (size_in b d)
size-well_formed b (Count count) h = signed_text count
size-well_formed b (Size size) h = h

sizes-well_formed : (b : Nodes) (ds : List Dimension) → All (SizeHolds (λ e. ExprWellFormed (expr_in b e))) ds → ExprsWellFormed (sizes_in b ds)
sizes-well_formed b [] h = tt
sizes-well_formed b (d ∷ ds) h =
    let P : Dimension → Type 0 = SizeHolds (λ e. ExprWellFormed (expr_in b e))
    in (size-well_formed b d (All-head P d ds h), sizes-well_formed b ds (All-tail P d ds h))

type_node-well_formed : (b : Nodes) (n : TypeNode) → TypeChildrenHold (λ e. ExprWellFormed (expr_in b e)) (λ t. TypeWellFormed (type_in b t)) n → TypeFits (type_tree b n) → TypeWellFormed (type_tree b n)
type_node-well_formed b (Vector width value signed) h f = (f, h)
type_node-well_formed b (Packed element dimensions) h f = (f, h.0, sizes-well_formed b dimensions.items h.1)
type_node-well_formed b (Unpacked element dimensions) h f = (f, h.0, sizes-well_formed b dimensions.items h.1)
type_node-well_formed b _ h f = tt

node-well_formed : (b : Nodes) (t : ExprNode) → Each RootWellFormed b.roots → ChildrenHold (HasExpr b) (HasType b) t → RootFits (term_root b t) → RootWellFormed (term_root b t)
node-well_formed b (DataType n) w h f = type_node-well_formed b n (type_children-map (expr-well_formed b w) (type-well_formed b w) n h) f
node-well_formed b n w h f = expr_node-well_formed b n (expr_children-map (expr-well_formed b w) (type-well_formed b w) n h) f

pub built-well_formed : (b : Nodes) (ts : List ExprNode) → Each RootWellFormed b.roots → TermsSound b ts → Each RootWellFormed (built b ts).roots
built-well_formed b [] w s = w
built-well_formed b (t ∷ ts) w s = built-well_formed (with_node b (term_root b t)) ts (Each-push RootWellFormed b.roots (term_root b t) w (node-well_formed b t w s.0 s.1)) s.2

-- A node of the arena.

node_at : (b : Nodes) (ts : List ExprNode) (i n : ℕ) (t : ExprNode) → Each RootWellFormed b.roots → TermsSound b ts → slice_get ts i ≡ Some t → n ≡ length b.roots + i → IsNodeAt (built b ts) n t
node_at b [] i n t w s h q = cc
node_at b (u ∷ ts) zero n t w s h q =
    let c : Nodes = built (with_node b (term_root b u)) ts in
    let same : t ≡ u = cc in
    let x : Extends b c = Extends-built b (u ∷ ts) in
    let at : n ≡ length b.roots = omega arith in
    let kept : term_root c u ≡ term_root b u = term_root-kept b c x u s.0 in
    rw (at, same)
    (record {
      root = (Extends-built (with_node b (term_root b u)) ts).same_roots (length b.roots) (term_root b u) (slice_get-seam b.roots (term_root b u)) ∙ ap Some (sym kept);
      owned = children-map (HasExpr-kept b c x) (HasType-kept b c x) u s.0;
      older = children-map (rank-below b) (type_rank-below b) u s.0;
      well_formed = subst RootWellFormed (sym kept) (node-well_formed b u w s.0 s.1);
    })
node_at b (u ∷ ts) (suc i) n t w s h q =
    node_at (with_node b (term_root b u)) ts i n t (Each-push RootWellFormed b.roots (term_root b u) w (node-well_formed b u w s.0 s.1)) s.2 h (omega (arith, length-append b.roots (term_root b u ∷ [])))

pub at_some :
    (id : ℕ) (ts : List ExprNode) (i : ℕ) (t : ExprNode) →
    TermsSound (no_nodes id) ts →
    i < length ts →
    t ≡ get_or ts i t →
    IsNodeAt (built (no_nodes id) ts) i t
at_some id ts i t s below q = node_at (no_nodes id) ts i i t tt s (slice_get_read ts (length ts) i t refl below q) (omega arith)

pub at_none : (id : ℕ) (ts : List ExprNode) (i : ℕ) → length ts ≤ i → slice_get (built (no_nodes id) ts).roots i ≡ None
at_none id ts i past = slice_get_past (built (no_nodes id) ts).roots i (omega (arith, built-length (no_nodes id) ts))
