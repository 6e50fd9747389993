-- Laws of pieces that are still to write.
use Rattle.std.proofs.Common.{◌≡◌, ◌<◌, ◌≤◌, ℕ, zero, suc, ◌+◌, ℤ, Bool, true, false, List, [], ◌∷◌, ◌++◌, length, get_or, drop, refl, sym, ◌∙◌, ap, codes, arith, add-one, append_assoc, append-nil, Option, Some, None}
use Rattle.std.specs.Prelude.{◌&&◌}
use Rattle.std.specs.Fmt.{signed_decimal}
use Rattle.std.proofs.lemmas.List.{drop_all}
use Rattle.vast_literal.specs.Tree.{ExprTree, Exprs, SliceTree, PartSelectTree, MemberOfTree, TypeTree, ExternalTree, PackedTree, UnpackedTree}
use Rattle.vast_literal.specs.Shape.{is_scalar_name, is_zero, select_wraps}
use Rattle.vast_core.specs.declared.handle.Expr.{Expr}
use Rattle.vast_core.specs.Bench.{Bench, tree_of, trees_of}
use Rattle.vast_print.specs.declared.pieces.Piece.{Piece}
use Rattle.vast_print.specs.declared.refusal.Refusal.{Refusal}
use Rattle.vast_print.specs.Printed.{Printed, first_fault, plain_text, ◌⊕◌, wrapped}
use Rattle.vast_print.specs.Page.{written}
use Rattle.vast_print.specs.Output.{Output, word, inline}
use Rattle.vast_print.specs.Text.{expr_text, list_text, more_text, type_cast}
use Rattle.vast_print.specs.Internal.Words.{separator, scalar_cast_closing, number_cast_closing}
use Rattle.vast_print.specs.Internal.Pieces.{piece_text, piece_weight, PieceOwned, pieces_text, pieces_weight, PiecesOwned, exprs_weight, expr_weight}
use Rattle.vast_print.proofs.OutputLaws.{inline-then, inline-empty, inline-word, inline-refused, inline-stopped}
use Rattle.vast_print.proofs.TextLaws.{inline-wrapped, inline-bare, inline-name, inline-unary-sign, inline-scalar-slice, inline-refused-slice, inline-type-cast, inline-width-cast, inline-scalar-cast, inline-vector-cast, inline-integer-cast, inline-int-cast, inline-external-cast, inline-package-cast}
use Rattle.vast_print.proofs.NumberLaws.{inline-number}
use Rattle.vast_print.proofs.SeparatedLaws.{rest_text}
use Rattle.vast_print.proofs.Lines.{word-stopped}

-- one text after another

abbrev made : List ℕ → Option Refusal → Printed
made text fault = record { text = text; fault = fault }

pub then-assoc : (p q r : Printed) → p ⊕ (q ⊕ r) ≡ p ⊕ q ⊕ r
unfolding ◌⊕◌
then-assoc p q r = go p.fault
  where
    go : (f : Option Refusal) → made (p.text ++ (q.text ++ r.text)) (first_fault f (first_fault q.fault r.fault)) ≡ made ((p.text ++ q.text) ++ r.text) (first_fault (first_fault f q.fault) r.fault)
    go None = ap (λ x. made x (first_fault q.fault r.fault)) (sym (append_assoc p.text q.text r.text))
    go (Some s) = ap (λ x. made x (Some s)) (sym (append_assoc p.text q.text r.text))

pub then-nothing : (p : Printed) → p ⊕ plain_text [] ≡ p
unfolding ◌⊕◌ plain_text
then-nothing p = go p.fault
  where
    go : (f : Option Refusal) → made (p.text ++ []) (first_fault f None) ≡ made p.text f
    go None = ap (λ x. made x None) (append-nil p.text)
    go (Some s) = ap (λ x. made x (Some s)) (append-nil p.text)

pub then-empty : (p : Printed) → plain_text [] ⊕ p ≡ p
unfolding ◌⊕◌ plain_text
then-empty p = refl

-- a piece more

pub text-push : (b : Bench) (ps : List Piece) (p : Piece) → pieces_text b (ps ++ p ∷ []) ≡ piece_text b p ⊕ pieces_text b ps
unfolding pieces_text
text-push b [] p = then-empty (piece_text b p) ∙ sym (then-nothing (piece_text b p))
text-push b (q ∷ ps) p = ap (λ v. v ⊕ piece_text b q) (text-push b ps p) ∙ sym (then-assoc (piece_text b p) (pieces_text b ps) (piece_text b q))

pub weight-push : (b : Bench) (ps : List Piece) (p : Piece) → pieces_weight b (ps ++ p ∷ []) ≡ pieces_weight b ps + piece_weight b p
unfolding pieces_weight
weight-push b [] p = omega arith
weight-push b (q ∷ ps) p = omega (arith, weight-push b ps p)

pub owned-push : (b : Bench) (ps : List Piece) (p : Piece) → PiecesOwned b ps → PieceOwned b p → PiecesOwned b (ps ++ p ∷ [])
unfolding PiecesOwned
owned-push b [] p h k = (k, tt)
owned-push b (q ∷ ps) p h k = (h.0, owned-push b ps p h.1 k)

pub owned-pop : (b : Bench) (ps : List Piece) (p : Piece) → PiecesOwned b (ps ++ p ∷ []) → PiecesOwned b ps × PieceOwned b p
unfolding PiecesOwned
owned-pop b [] p h = (tt, h.0)
owned-pop b (q ∷ ps) p h = let r = owned-pop b ps p h.1 in ((h.0, r.0), r.1)

pub no-pieces-text : (b : Bench) → pieces_text b [] ≡ plain_text []
unfolding pieces_text
no-pieces-text b = refl

pub no-pieces-weight : (b : Bench) → pieces_weight b [] ≡ 0
unfolding pieces_weight
no-pieces-weight b = refl

pub no-pieces-owned : (b : Bench) → PiecesOwned b []
unfolding PiecesOwned
no-pieces-owned b = tt

pub ruleset pushes = (text-push, weight-push, owned-push, owned-pop, no-pieces-text, no-pieces-weight, no-pieces-owned)

-- operators, and words that are put on the list

pub inline-double-close : (d : ℕ) (k : Output) → inline d k (written (plain_text (codes "))"))) ≡ word k (codes "))")
inline-double-close d k = inline-word d k (codes "))") refl

pub inline-scalar-closing : (d : ℕ) (k : Output) (signed : Bool) → inline d k (written (plain_text (scalar_cast_closing signed))) ≡ word k (scalar_cast_closing signed)
inline-scalar-closing d k true = inline-word d k (codes "))") refl
inline-scalar-closing d k false = inline-word d k (codes ")") refl

pub inline-number-closing : (d : ℕ) (k : Output) (signed : Bool) → inline d k (written (plain_text (number_cast_closing signed))) ≡ word k (number_cast_closing signed)
inline-number-closing d k true = inline-word d k (codes ")") refl
inline-number-closing d k false = inline-word d k (codes "))") refl

-- a cast to an array has no head
pub inline-packed-cast : (d : ℕ) (k : Output) (t : TypeTree) (ds : Exprs) (p : Printed) → inline d k (written (type_cast (PackedTree t ds) p)) ≡ inline d k (written (type_cast (ExternalTree []) p))
unfolding type_cast
inline-packed-cast d k t ds p = refl

pub inline-unpacked-cast : (d : ℕ) (k : Output) (t : TypeTree) (ds : Exprs) (p : Printed) → inline d k (written (type_cast (UnpackedTree t ds) p)) ≡ inline d k (written (type_cast (ExternalTree []) p))
unfolding type_cast
inline-unpacked-cast d k t ds p = refl

-- selects, before what is after them

pub slice-then : (d : ℕ) (k : Output) (s h l : ExprTree) (w : Printed) → is_scalar_name s ≡ false →
    inline d (inline d k (written (expr_text (SliceTree s h l)))) (written w)
    ≡ inline d k (written (wrapped (select_wraps s) (expr_text s) ⊕ (plain_text (codes "[") ⊕ (wrapped false (expr_text h) ⊕ (plain_text (codes ":") ⊕ (wrapped false (expr_text l) ⊕ (plain_text (codes "]") ⊕ w)))))))
unfolding expr_text
slice-then d k s h l w e = rw e (simp (inline-then, inline-bare))

pub scalar-slice-then : (d : ℕ) (k : Output) (s h l : ExprTree) (w : Printed) → is_scalar_name s ≡ true → (is_zero h && is_zero l) ≡ true →
    inline d (inline d k (written (expr_text (SliceTree s h l)))) (written w) ≡ inline d k (written (wrapped false (expr_text s) ⊕ w))
scalar-slice-then d k s h l w e z = rw (inline-scalar-slice d k s h l e z) (simp (inline-then, inline-bare))

pub part-select-then : (d : ℕ) (k : Output) (s i : ExprTree) (width : ℤ) (w : Printed) →
    inline d (inline d k (written (expr_text (PartSelectTree s i width)))) (written w)
    ≡ inline d k (written (wrapped (select_wraps s) (expr_text s) ⊕ (plain_text (codes "[") ⊕ (wrapped false (expr_text i) ⊕ (plain_text (codes " +: ") ⊕ (plain_text (signed_decimal width) ⊕ (plain_text (codes "]") ⊕ w)))))))
unfolding expr_text
part-select-then d k s i width w = simp (inline-then, inline-bare)

pub member-then : (d : ℕ) (k : Output) (s : ExprTree) (n : List ℕ) (w : Printed) →
    inline d (inline d k (written (expr_text (MemberOfTree s n)))) (written w)
    ≡ inline d k (written (wrapped (select_wraps s) (expr_text s) ⊕ (plain_text (codes ".") ⊕ (plain_text n ⊕ w))))
unfolding expr_text
member-then d k s n w = simp (inline-then, inline-bare)

-- lists

pub list-none : (ps : List Expr) (b : Bench) (i : ℕ) → length ps ≤ i → rest_text i (trees_of b (drop i ps)) ≡ plain_text []
unfolding list_text more_text
list-none ps b zero h = ap (λ x. list_text (trees_of b x)) (drop_all zero ps h)
list-none ps b (suc i) h = ap (λ x. more_text (trees_of b x)) (drop_all (suc i) ps h)

more-one : (b : Bench) (ps : List Expr) (i : ℕ) (x : Expr) → i < length ps → x ≡ get_or ps i x →
    more_text (trees_of b (drop i ps)) ≡ plain_text (codes ", ") ⊕ (expr_text (tree_of b x) ⊕ more_text (trees_of b (drop (i + 1) ps)))
unfolding more_text expr_text
more-one b [] i x h g = absurd (omega arith)
more-one b (p ∷ ps) zero x h g = rw g (sym (then-assoc (plain_text (codes ", ")) (expr_text (tree_of b p)) (more_text (trees_of b ps))))
more-one b (p ∷ ps) (suc i) x h g = rw (add-one (suc i)) (rw (add-one i) at (more-one b ps i x (omega arith) g))

pub list-one : (b : Bench) (ps : List Expr) (i : ℕ) (x : Expr) → i < length ps → x ≡ get_or ps i x →
    rest_text i (trees_of b (drop i ps)) ≡ plain_text (separator i (codes ", ")) ⊕ (expr_text (tree_of b x) ⊕ rest_text (i + 1) (trees_of b (drop (i + 1) ps)))
unfolding list_text more_text expr_text
list-one b [] i x h g = absurd (omega arith)
list-one b (p ∷ ps) zero x h g = rw g (sym (then-empty (expr_text (tree_of b p) ⊕ more_text (trees_of b ps))))
list-one b (p ∷ ps) (suc i) x h g = rw (add-one (suc i)) (rw (add-one (suc i)) at (more-one b (p ∷ ps) (suc i) x h g))

pub weight-none : (b : Bench) (ps : List Expr) (i : ℕ) → length ps ≤ i → exprs_weight (trees_of b (drop i ps)) ≡ 0
weight-none b ps i h = ap (λ x. exprs_weight (trees_of b x)) (drop_all i ps h)

pub weight-one : (b : Bench) (ps : List Expr) (i : ℕ) (x : Expr) → i < length ps → x ≡ get_or ps i x →
    exprs_weight (trees_of b (drop i ps)) ≡ expr_weight (tree_of b x) + 2 + exprs_weight (trees_of b (drop (i + 1) ps))
weight-one b [] i x h g = absurd (omega arith)
weight-one b (p ∷ ps) zero x h g = rw g refl
weight-one b (p ∷ ps) (suc i) x h g = rw (add-one (suc i)) (rw (add-one i) at (weight-one b ps i x (omega arith) g))

pub bare-part : (p : Printed) → wrapped false p ≡ p
unfolding wrapped
bare-part p = refl

pub ruleset list_parts = (list-none, weight-none, then-empty, bare-part)

pub ruleset begins = (inline-then, inline-bare, inline-unary-sign, inline-word)

pub ruleset indexes = (inline-then, inline-bare, inline-refused, inline-word)

pub ruleset slices = (slice-then, scalar-slice-then, inline-refused-slice)

pub ruleset part_selects = (part-select-then)

pub ruleset member_selects = (member-then)

pub ruleset lists = (inline-then, inline-bare, inline-word, inline-empty)

pub ruleset cast_parts = (inline-then, inline-bare, inline-type-cast, inline-width-cast, inline-scalar-cast, inline-vector-cast, inline-integer-cast, inline-int-cast, inline-external-cast, inline-package-cast, inline-word, inline-double-close, inline-scalar-closing, inline-number-closing)

pub ruleset begun_casts = (cast_parts, inline-packed-cast, inline-unpacked-cast)

pub ruleset parts = (inline-then, inline-wrapped, inline-bare, inline-word, word-stopped)

pub ruleset pieces = (inline-number, inline-bare)

pub ruleset wholes = (inline-name, inline-bare)

pub ruleset works = (text-push, weight-push, owned-pop, no-pieces-text, no-pieces-weight, no-pieces-owned, then-nothing, inline-then, inline-empty, inline-bare, inline-stopped)
