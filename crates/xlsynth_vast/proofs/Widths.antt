-- Why a type has no width and no bit count: which words each case has.
use Rattle.std.proofs.Common.{◌≡◌, ℕ, ℤ, List, IsTrue, IsSome, Option, Some, None, Result, Ok, Err, IfOk, MatchResult, String, string_bytes, ◌++◌, true≢false, append_assoc, subst, refl, ap, ◌∙◌, sym, codes}
use Rattle.std.specs.declared.alloc.AllocError.{AllocError}
use Rattle.std.specs.declared.alloc.Global.{Global}
use Rattle.vast_literal.specs.Tree.{ExprTree, TypeTree, VectorTree, ExternalTree, PackageTree, MaybeExpr, SomeExpr, NoExpr}
use Rattle.vast_literal.specs.declared.error.VastFault.{VastFault}
use Rattle.vast_literal.specs.declared.error.VastFault.TheVariants.{Refused, Memory}
use Rattle.vast_literal.specs.Fault.{HasText, OnlyRefusedBy}
use Rattle.vast_core.specs.Types.{vector_width}
use Rattle.vast_literal.specs.Shape.{base_of}
use Rattle.vast_core.specs.BitCount.{base_bits, declared_bits, unless_unknown, unknown_dimension, bit_count}
use Rattle.vast_literal.specs.Shape.{is_external}
use Rattle.vast_print.specs.declared.refusal.Refusal.{Refusal}
use Rattle.vast_print.specs.Printed.{Printed}
use Rattle.vast_print.specs.Text.{expr_text}
use Rattle.vast_print.specs.Emits.{EmitsText, words_of}
use Rattle.xlsynth_vast.specs.Widths.{unless_refused, no_literal, no_known_width, undeclared, uncounted, unknown_bits, declared_width, flat_bits}

-- The refusal of a text that was made, or out of memory where it was not.
pub worded :
    (made : Result (String Global) AllocError) (words : List ℕ) (fault : VastFault) → IfOk made (λ t. string_bytes t ≡ words) →
    MatchResult made (λ t. HasText fault (string_bytes t)) (λ error. fault ≡ Memory error) → HasText fault words
worded (Ok t) words fault is has = rw is at has
worded (Err error) words fault is has = rw has tt

-- A width without a value whose text was printed, and one whose printing is refused.
pub printed : (p : Printed) (text : List ℕ) (fault : VastFault) → p.fault ≡ None → text ≡ p.text → HasText fault (codes "Width is not a literal: " ++ text) → HasText fault (no_literal p)
unfolding no_literal unless_refused
printed p text fault none same has = let h = rw same at has in rw none h

first_words : (f : Option Refusal) (words first : List ℕ) → words_of f ≡ Some first → first ≡ unless_refused f words
unfolding unless_refused
first_words None words first h = absurd cc
first_words (Some r) words first h = cc

pub unprinted : (p : Printed) (fault : VastFault) → EmitsText p (Err fault) → HasText fault (no_literal p)
unfolding no_literal
unprinted p (Refused e) h = first_words p.fault _ (string_bytes e.0) h
unprinted p (Memory e) h = tt

pub external : (t : TypeTree) (name : List ℕ) (fault : VastFault) → t ≡ ExternalTree name → HasText fault (no_known_width name) → HasText fault (uncounted t)
unfolding uncounted
external t name fault is has = rw is has

pub packaged :
    (t : TypeTree) (scope name : List ℕ) (fault : VastFault) → t ≡ PackageTree scope name →
    HasText fault (codes "external type `" ++ (scope ++ (codes "::" ++ (name ++ codes "` has no known bit width")))) → HasText fault (uncounted t)
unfolding uncounted no_known_width
packaged t scope name fault is has =
    let tail : List ℕ = codes "` has no known bit width" in
    let flat : ((scope ++ codes "::") ++ name) ++ tail ≡ scope ++ (codes "::" ++ (name ++ tail)) = append_assoc (scope ++ codes "::") name tail ∙ append_assoc scope (codes "::") (name ++ tail) in
    rw is (subst (λ (w : List ℕ). HasText fault (codes "external type `" ++ w)) (sym flat) has)

-- A fault with the rule's words is the rule's refusal.
pub refused_by : {A : Type 0} (rule : Result A (List ℕ)) (words : List ℕ) (fault : VastFault) → rule ≡ Err words → HasText fault words → OnlyRefusedBy rule fault
refused_by rule words (Refused e) is has = is ∙ ap Err (sym has)
refused_by rule words (Memory e) is has = rw is refl

symbolic : (t : TypeTree) (e : ExprTree) → vector_width t ≡ SomeExpr e → (undeclared t ≡ no_literal (expr_text e)) × (uncounted t ≡ no_literal (expr_text e))
unfolding undeclared uncounted
symbolic (VectorTree width value signed) e h = let same : width ≡ e = cc in rw same (refl, refl)
symbolic _ e h = absurd cc

without_width : (t : TypeTree) → vector_width t ≡ NoExpr → undeclared t ≡ codes "data type does not have a declared bit-vector width"
unfolding undeclared
without_width (VectorTree width value signed) h = absurd cc
without_width _ h = refl

pub symbolic_width : (t : TypeTree) (e : ExprTree) → vector_width (base_of t) ≡ SomeExpr e → declared_bits (base_of t) ≡ None → declared_width t ≡ Err (no_literal (expr_text e))
symbolic_width t e h none = rw none (ap Err (symbolic (base_of t) e h).0)

pub no_width : (t : TypeTree) → vector_width (base_of t) ≡ NoExpr → declared_bits (base_of t) ≡ None → declared_width t ≡ Err (codes "data type does not have a declared bit-vector width")
no_width t h none = rw none (ap Err (without_width (base_of t) h))

pub unless-none : (size : MaybeExpr) → unless_unknown size None ≡ None
unless-none NoExpr = refl
unless-none (SomeExpr size) = refl

pub symbolic_count : (t : TypeTree) (e : ExprTree) → vector_width (base_of t) ≡ SomeExpr e → base_bits (base_of t) ≡ None → flat_bits t ≡ Err (no_literal (expr_text e))
unfolding bit_count unknown_bits
symbolic_count t e h none = rw (none, unless-none (unknown_dimension t)) (ap Err (symbolic (base_of t) e h).1)

pub unknown-external : (t : TypeTree) → IsTrue (is_external t) → base_bits t ≡ None
unknown-external (ExternalTree name) h = refl
unknown-external (PackageTree package_name name) h = refl
unknown-external _ h = absurd (true≢false (sym h))

pub external_count : (t u : TypeTree) → u ≡ base_of t → IsTrue (is_external (base_of t)) → flat_bits t ≡ Err (uncounted u)
unfolding bit_count unknown_bits
external_count t u same h = rw (unknown-external (base_of t) h, unless-none (unknown_dimension t), same) refl

dimension_words : (bits : Option ℤ) (base : TypeTree) (e : ExprTree) → IsSome bits → unknown_bits bits base (SomeExpr e) ≡ no_literal (expr_text e)
unfolding unknown_bits
dimension_words None base e h = absurd cc
dimension_words (Some bits) base e h = refl

pub dimension_count : (t : TypeTree) (e : ExprTree) → unknown_dimension t ≡ SomeExpr e → IsSome (base_bits (base_of t)) → flat_bits t ≡ Err (no_literal (expr_text e))
unfolding bit_count
dimension_count t e h some = rw h (ap Err (dimension_words (base_bits (base_of t)) (base_of t) e some))
