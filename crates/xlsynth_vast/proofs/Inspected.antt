-- Laws of what inspections return.
use Rattle.std.proofs.Common.{◌≡◌, ℕ, zero, suc, ℤ, pos, negsuc, Bool, true, IsTrue, Option, Some, None, List, [], ◌∷◌, take, filter, All, refl, ap, arith}
use Rattle.std.proofs.lemmas.Int.{ints}
use Rattle.std.proofs.lemmas.Bool.Decides.{nat_tests}
use Rattle.std.proofs.lemmas.List.Elements.{All-filter}
use Rattle.vast_literal.specs.Tree.{TypeTree}
use Rattle.vast_core.specs.declared.handle.Expr.{Expr}
use Rattle.vast_core.specs.declared.handle.VastDataType.{VastDataType}
use Rattle.vast_core.specs.declared.handle.ModulePort.{ModulePort}
use Rattle.vast_core.specs.declared.node.ExprNode.{ExprNode}
use Rattle.vast_core.specs.declared.node.ExprNode.TheVariants.{Name}
use Rattle.vast_core.specs.declared.bits.BitCountFault.{BitCountFault}
use Rattle.vast_core.specs.declared.bits.BitCountFault.TheVariants.{Overflow, Symbolic, External, Dimension}
use Rattle.vast_core.specs.Nodes.{Nodes, Root, ExprRoot, TypeRoot, is_name, is_root_of, expr_of_root, expr_tree, expr_in}
use Rattle.vast_core.specs.BitCount.{bit_count, base_bits, unless_unknown, unknown_dimension, multiple, Exceeds, CountRefused, product, dimensions_of}
use Rattle.vast_literal.specs.Shape.{base_of}
use Rattle.vast_core.specs.Bench.{Bench, has_root, tree_of, type_of}
use Rattle.vast_core.proofs.Lists.{All-cons, All-head, All-tail}
use Rattle.xlsynth_vast.proofs.Widths.{unless-none, unknown-external}
use Rattle.xlsynth_vast.specs.Inspections.{known_bits, type_at, width_at}

-- A root that is a name is no other node.

root-named : (o : Option Root) → IsTrue (is_root_of is_name o) → is_name (expr_of_root o) ≡ true
root-named None h = cc
root-named (Some (ExprRoot e)) h = h
root-named (Some (TypeRoot t)) h = cc

pub tree-named : (b : Bench) (e : Expr) → IsTrue (has_root is_name b e.id.index) → is_name (tree_of b e) ≡ true
unfolding expr_in
tree-named b e h = root-named _ h

pub no_other_node : (b : Nodes) (node : ExprNode) → is_name (expr_tree b node) ≡ true → ((name : List ℕ) (type : Option VastDataType) → node ≡ Name name type → ⊥) → ⊥
no_other_node b (Name name type) h other = other name type refl
no_other_node b _ h other = cc

-- Bits that aren't known.

bits-exceeding : (o : Option ℤ) → Exceeds o → known_bits o ≡ pos 0
bits-exceeding None h = absurd h
bits-exceeding (Some (pos n)) h = grind (arith, nat_tests)
bits-exceeding (Some (negsuc n)) h = absurd (omega (arith, ints))

pub bits-refused : (b : Bench) (t : TypeTree) (fault : BitCountFault) → CountRefused b t fault → known_bits (bit_count t) ≡ pos 0
unfolding bit_count
bits-refused b t Overflow h = bits-exceeding (unless_unknown (unknown_dimension t) (multiple (product (dimensions_of t)) (base_bits (base_of t)))) h
bits-refused b t (Symbolic e) h = rw (h.2, unless-none (unknown_dimension t)) refl
bits-refused b t (External u) h = rw (unknown-external (base_of t) h.2, unless-none (unknown_dimension t)) refl
bits-refused b t (Dimension e) h = rw h.1 refl

pub width_refused : (b : Bench) (p : ModulePort) (t : VastDataType) (fault : BitCountFault) → type_at b p ≡ Some t → CountRefused b (type_of b t) fault → width_at b p ≡ Some (pos 0)
width_refused b p t fault e h = rw e (ap Some (bits-refused b (type_of b t) fault h))

-- A part of a list of ports.

All-take : {A : Type 0} (P : A → Type 0) (i : ℕ) (xs : List A) → All P xs → All P (take i xs)
All-take P zero xs h = λ k d below. absurd (omega arith)
All-take P (suc i) [] h = h
All-take P (suc i) (x ∷ xs) h = All-cons P x (take i xs) (All-head P x xs h) (All-take P i xs (All-tail P x xs h))

pub owned_part : {A : Type 0} (P : A → Type 0) (test : A → Bool) (i : ℕ) (xs ys zs : List A) → ys ≡ filter test (take i xs) → xs ≡ zs → All P zs → All P ys
owned_part P test i xs ys zs e same h = rw (e, same) (All-filter test P (take i zs) (All-take P i zs h))
