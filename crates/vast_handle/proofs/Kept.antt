-- A handle: a struct of a pointer and a `Global` that owns what `owns_box` says. Assumes `Logic`.
--     kept                what such a struct owns, whatever its name
--     kept_good           its machine value has its type
--     kept_out, kept_in   the struct by value is [what it holds; the allocator's handle]
--     either              null, or a value at a pointer that may be compared with null
--     owns_box_keyless    any thread may have it, where the value may go to another thread
use Rattle.std.proofs.Common.{◌≡◌, ℕ, List, [], ◌∷◌, ◌++◌, refl, subst, lit<}
use Rattle.std.specs.Prelude.{Option, None, Some}
use mathlib.Core.Bool.{true, ◌&&◌}
use lib.Dec.{T}
use seplogic.Ra.Ura.{Ura}
use mir.Syntax.{impl, tnil, dnil, ty_ptr}
use mir.Raw.{raw as bare}
use mir.Val.{Val, vstruct, of_list, has_ty, WT}
use base.Fraction.{full_share}
use base.Fml.{Fml, fsep}
use base.Shift.{Keyless}
use base.Logic.{ent, guard, via, snd∗, fst∗, never, guard_i}
use types.Logic.{Logic, sem}
use types.Kit.{Item, Goal, Seq, Step, step, ‵, given, ◌$◌, move, drop, fsplit, fjoin, fpick, fpack, feq_i, feq_l, use1, learn}
use contract.Monad.{fact_use}
use denote.RattleType.{RattleType, Valss}
use denote.Builtin.{RawPtr}
use denote.Memory.{lone}
use denote.RawPtr.{Ptr, block_ptr, null_ptr, ptr_val, in_a_block, lies_at, Testable}
use denote.Steps.{nothing}
use denote.Param.{layout}
use denote.Param.Send.{IsSend}
use denote.Struct.Struct.{Shape, Struct, within}
use Rattle.core.proofs.alloc.Calls.{Al, handle_tells}
use Rattle.core.proofs.cell.Inside.{Good}
use Rattle.std.proofs.Crossing.{frees}
use Rattle.std_alloc.specs.Box.Ownership.{box_owns}
use Rattle.std_alloc.proofs.SendSync.{lies}
use Rattle.std_alloc.proofs.ResultValues.{and_tt}
use Rattle.std_heap.specs.declared.Global.{Global}
use Rattle.std_heap.specs.contracts.Global.{the_row as Z, the_field}
use Rattle.std_heap.proofs.Global.TheLaws.{the_row_laws as LZ}
use Rattle.std_heap.specs.contracts.GlobalAllocator.TheImpl.{ghosts}
use Rattle.std_heap.proofs.GlobalToken.{dealloc_token-Testable}
use Rattle.vast_handle.specs.Internal.Kept.{owns_box}
use Rattle.vast_handle.proofs.Values.{both}

abbrev pub al : Al
al = record { row = Z; laws = LZ; g = ghosts; d = impl [] tnil dnil; drops = impl [] tnil dnil }

abbrev shape : Shape
shape = record { name = []; args = []; types = []; fields = RawPtr ∷ the_field.row ∷ [] }

pub kept_good : (p : Ptr) (h : Val) → Good (layout Z) h → T (has_ty ty_ptr (ptr_val p) && (has_ty (layout Z) h && true)) × WT (both (ptr_val p) h)
kept_good (block_ptr b o) h fits = (and_tt (has_ty (layout Z) h) fits.0, (tt, (fits.1, tt)))
kept_good null_ptr h fits = (and_tt (has_ty (layout Z) h) fits.0, (record { fits = lit< tt }, (fits.1, tt)))

module _ (R : RattleType) where
  abbrev pub kept : Ptr → Global → Option R.Denot → List Val → Fml
  kept p a k vs = fsep ((Struct shape).own_val (p, (the_field.into a, tt)) vs) (owns_box R a p k)

  pub owns_box_keyless : IsSend R → (a : Global) (p : Ptr) (k : Option R.Denot) → Keyless (owns_box R a p k)
  owns_box_keyless s a p None = tt
  owns_box_keyless s a p (Some x) = (lies R s p x, frees.frees a (bare (lone R.mir)) p)

  module _ {M : Type 1} {𝓤 : Ura M} (𝓛 : Logic 𝓤) where
    tested : (a : Global) (p : Ptr) (x : R.Denot) → ent 𝓤 (sem 𝓛 (box_owns (ghosts.dealloc_token a) R p x)) (guard 𝓤 (Testable p) (sem 𝓛 (box_owns (ghosts.dealloc_token a) R p x)))
    tested a p x = fact_use 𝓤 (Testable p) (via 𝓤 _ (snd∗ 𝓤 (sem 𝓛 (lies_at R full_share p x)) (sem 𝓛 (ghosts.dealloc_token a (bare (lone R.mir)) p))) (dealloc_token-Testable 𝓛 a (bare (lone R.mir)) p)) (guard_i 𝓤 (Testable p) (sem 𝓛 (box_owns (ghosts.dealloc_token a) R p x)))

  module _ {M : Type 1} {𝓤 : Ura M} {𝓛 : Logic 𝓤} {K : Type 0} {Γ : List (Item 𝓤)} {G : Goal 𝓤 𝓛.H} where
    pub kept_out : K → (p : Ptr) (a : Global) (k : Option R.Denot) (vs : List Val)
        → ((h : Val) → vs ≡ both (ptr_val p) h ∷ [] → Good (layout Z) h → Seq K 𝓛 (‵ (owns_box R a p k) ∷ ‵ (Z.own_val a (h ∷ [])) ∷ Γ) G)
        → Seq K 𝓛 (‵ (kept p a k vs) ∷ Γ) G
    kept_out t p a k vs s =
        fsplit t $ fpick t (λ vss. fsplit t $ feq_l t (λ ev. fsplit t $ feq_l t (λ ep. fsplit t $ handle_tells al t a vss.1.0 (λ h ea fits. move t (1 ∷ []) $ drop t $ move t (1 ∷ []) $ s h
        (subst (λ (ws : List Val). vs ≡ vstruct (of_list (ptr_val p ∷ (ws ++ []))) ∷ []) ea (subst (λ (ps : List Val). vs ≡ vstruct (of_list (ps ++ (vss.1.0 ++ []))) ∷ []) ep ev)) fits))))

    pub kept_in : K → (p : Ptr) (a : Global) (k : Option R.Denot) (h : Val)
        → Step K 𝓛 (‵ (kept p a k (both (ptr_val p) h ∷ [])) ∷ Γ) G (‵ (owns_box R a p k) ∷ ‵ (Z.own_val a (h ∷ [])) ∷ Γ) G
    kept_in t p a k h = step (λ s. let v : Val = both (ptr_val p) h in
        nothing t $ move t (2 ∷ 0 ∷ []) $ fjoin t $ feq_i t (List Val) (ptr_val p ∷ []) (ptr_val p ∷ []) refl $ fjoin t $ feq_i t (List Val) (v ∷ []) (v ∷ []) refl $ fjoin t $
        fpack t (Valss shape.fields) (within shape (p, (the_field.into a, tt)) (v ∷ [])) (ptr_val p ∷ [], (h ∷ [], tt)) $ fjoin t $ s)

    pub either : K → (a : Global) (p : Ptr) (k : Option R.Denot)
        → (k ≡ None → p ≡ null_ptr → Seq K 𝓛 Γ G)
        → ((b o : ℕ) (x : R.Denot) → k ≡ Some x → p ≡ block_ptr b o → Testable (block_ptr b o) → Seq K 𝓛 (‵ (box_owns (ghosts.dealloc_token a) R (block_ptr b o) x) ∷ Γ) G)
        → Seq K 𝓛 (‵ (owns_box R a p k) ∷ Γ) G
    either t a p None none one = feq_l t (λ e. none refl e)
    either t a p (Some x) none one =
        use1 𝓛 (given (Testable p) (‵ (box_owns (ghosts.dealloc_token a) R p x))) (tested 𝓛 a p x) $ learn t (λ able.
        in_a_block t p (λ q. box_owns (ghosts.dealloc_token a) R q x) (fst∗ 𝓤 (never 𝓤) (sem 𝓛 (ghosts.dealloc_token a (bare (lone R.mir)) null_ptr))) (λ b o e. one b o x refl e (subst Testable e able)))
