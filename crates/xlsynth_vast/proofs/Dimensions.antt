-- Dimensions of arrays: those that are made, and the test of those that are expressions.
use Rattle.std.proofs.Common.{◌≡◌, ℤ, zero, suc, pos, negsuc, Bool, true, false, IsTrue, List, [], ◌∷◌, map, length, All, Bor, refl, ap, arith}
use Rattle.std.specs.Prelude.{◌≤ℤ◌, ◌&&◌, ◌==◌, Option, Some, None, IfSome}
use Rattle.std.proofs.lemmas.Int.{ints}
use Rattle.std.proofs.lemmas.Bool.{eqb-true}
use Rattle.std.proofs.lemmas.List.{drop_more, drop_all}
use Rattle.vast_literal.specs.Tree.{Exprs, NoExprs, MoreExprs}
use Rattle.vast_literal.specs.Shape.{literal_value}
use Rattle.vast_core.specs.declared.handle.Expr.{Expr}
use Rattle.vast_core.specs.declared.node.Dimension.TheVariants.{Count, Size}
use Rattle.vast_core.specs.Nodes.{Nodes, expr_in, exprs_in, sizes_in, SizeHolds}
use Rattle.vast_core.specs.Types.{AreDimensions, EachUsable, AreSizes}
use Rattle.vast_core.specs.Growth.{counts}
use Rattle.vast_core.proofs.Lists.{All-head, All-tail, All-cons}
use Rattle.xlsynth_vast.specs.Conditions.{is_usable_value, is_usable_width, each_usable, are_usable_dimensions}

-- Dimensions that are numbers.

pub counts-in : (b : Nodes) (ds : List ℤ) → sizes_in b (map Count ds) ≡ counts ds
counts-in b [] = refl
counts-in b (d ∷ ds) = rw (counts-in b ds) refl

pub counts-hold : (P : Expr → Type 0) (ds : List ℤ) → All (SizeHolds P) (map Count ds)
counts-hold P [] = λ k d below. absurd (omega arith)
counts-hold P (d ∷ ds) = All-cons (SizeHolds P) (Count d) (map Count ds) tt (counts-hold P ds)

each-count : (ds : List ℤ) → All (λ d. pos 1 ≤ℤ d) ds → EachUsable (counts ds)
each-count [] h = tt
each-count (d ∷ ds) h = let P : ℤ → Type 0 = λ x. pos 1 ≤ℤ x in (All-head P d ds h, each-count ds (All-tail P d ds h))

pub counts-usable : (ds : List ℤ) → AreDimensions ds → AreSizes (counts ds)
counts-usable [] h = absurd (let any = h.any in omega arith)
counts-usable (d ∷ ds) h = each-count (d ∷ ds) h.each

-- Dimensions that are expressions.

pub sizes-in : (b : Nodes) (es : List (Bor Expr)) → sizes_in b (map (λ e. Size e.now) es) ≡ exprs_in b (map (λ e. e.now) es)
sizes-in b [] = refl
sizes-in b (e ∷ es) = ap (λ sizes. MoreExprs (expr_in b e.now) sizes) (sizes-in b es)

pub sizes-hold : (P : Expr → Type 0) (es : List (Bor Expr)) → All (λ e. P e.now) es → All (SizeHolds P) (map (λ e. Size e.now) es)
sizes-hold P [] h = λ k d below. absurd (omega arith)
sizes-hold P (e ∷ es) h = All-cons (SizeHolds P) (Size e.now) (map (λ e. Size e.now) es) (All-head (λ x. P x.now) e es h) (sizes-hold P es (All-tail (λ x. P x.now) e es h))

-- The test.

value-usable : (value : Option ℤ) → IsTrue (is_usable_value value) → IfSome value (λ v. pos 1 ≤ℤ v)
value-usable None h = tt
value-usable (Some (pos zero)) h = absurd cc
value-usable (Some (pos (suc n))) h = omega (arith, ints)
value-usable (Some (negsuc n)) h = absurd cc

both : (a b : Bool) → IsTrue (a && b) → IsTrue a × IsTrue b
both true b h = (refl, h)
both false b h = absurd cc

each-usable : (sizes : Exprs) → IsTrue (each_usable sizes) → EachUsable sizes
each-usable NoExprs h = tt
each-usable (MoreExprs size sizes) h = let p = both (is_usable_width size) (each_usable sizes) h in (value-usable (literal_value size) p.0, each-usable sizes p.1)

pub usable-meant : (sizes : Exprs) → IsTrue (are_usable_dimensions sizes) → AreSizes sizes
unfolding are_usable_dimensions
usable-meant NoExprs h = absurd cc
usable-meant (MoreExprs size sizes) h = each-usable (MoreExprs size sizes) h

pub usable-none : {A : Type 0} (b : Nodes) (f : A → Expr) (xs : List A) → (length xs == 0) ≡ true → are_usable_dimensions (exprs_in b (map f xs)) ≡ false
unfolding are_usable_dimensions
usable-none b f [] h = refl
usable-none b f (x ∷ xs) h = let zero : length (x ∷ xs) ≡ 0 = eqb-true _ _ h in absurd (omega arith)

pub usable-some : {A : Type 0} (b : Nodes) (f : A → Expr) (xs : List A) → (length xs == 0) ≡ false → are_usable_dimensions (exprs_in b (map f xs)) ≡ each_usable (exprs_in b (map f xs))
unfolding are_usable_dimensions
usable-some b f [] h = absurd cc
usable-some b f (x ∷ xs) h = refl

pub ruleset dimensions = (counts-in, counts-hold, counts-usable, sizes-in, sizes-hold, usable-meant, usable-none, usable-some, drop_more, drop_all)
