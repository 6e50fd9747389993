-- `from_box` takes the box apart: its pointer, its allocator's handle, and what it owned.
use Rattle.std.proofs.Common.{◌≡◌, List, [], ◌∷◌, ◌++◌, refl, sym, ap, ◌∙◌, subst}
use mir.Syntax.{Fn, Args, a_type, dcons, dnil}
use mir.MapTy.{inst_fn}
use mir.Raw.{raw as bare}
use mir.Val.{Val, vptr}
use base.Logic.{SProp, ent, emp, id⊢, fst∗, never}
use contract.Monad.{fact, fact_i}
use contract.Running.{tables}
use denote.Exit.{no}
use denote.Memory.{lone}
use denote.Param.{bounded, param}
use denote.Param.Laws.{param_laws}
use types.Logic.{sem}
use denote.RattleType.{owns}
use denote.RawPtr.{Ptr, RawPtr, block_ptr, null_ptr, ptr_val, in_a_block}
use denote.Signature.{plain}
use denote.Steps.{nothing, heard, only}
use denote.Struct.Tuple.{Tuple}
use denote.Triple.Call.{calls_at}
use denote.Triple.Clauses.{lasts}
use denote.Triple.Entry.{alive}
use denote.Triple.Spec.{triple_of}
use denote.Triple.Table.{framed}
use denote.Triple.Walked.{Stays, stay_dropped, walk_of}
use prog.Wp.{WpFn}
use types.ByLocal.{alloc_all, pass_all, free_all, look_at, get, get_in, sets, lands_as}
use types.Kit.{‵, raw, ◌⊛◌, some, later, ◌$◌, ◌∵◌, !, qed, by, move, keep, drop, use0, use1, split, split3, join, fsplit, fjoin, pick, await, rewrite, suffices}
use types.Part.{agg, sub, whole}
use types.Run.{stop, fld, of_opd, no_more, and_then, returns, enter}
use Rattle.core.proofs.alloc.Calls.{Goes-blank}
use Rattle.std.proofs.raw_atomic.Walks.{proved_at, leaves}
use Rattle.std_alloc.specs.Box.Ownership.{box_owns}
use Rattle.std_alloc.specs.contracts.boxed.Box.into_raw_with_allocator as g
use Rattle.std_alloc.proofs.boxed.Box.into_raw_with_allocator.Met.{met}
use Rattle.vast_handle.proofs.Values.{both, pointer_good, pointer_in, Boxed, box_tells, pair_out}
use Rattle.vast_handle.specs.contracts.OwnedPointer.from_box as f
use Rattle.vast_handle.proofs.OwnedPointer.from_box.Statement.{statement}
use Rattle.vast_handle.proofs.OwnedPointer.from_box.Code as code

pub from_box_spec : {M : Type 1} → statement M
from_box_spec 𝓤 𝓛 𝓜 𝓡 wired R Z LR LZ ga da dr dz bound glue_r glue_z =
    let H = 𝓛.H in let 𝓣 = tables 𝓤 H 𝓜 𝓡 𝓡.env in
    let T = f.ended R Z ga da dr dz in let S = T.signature in let c = f.clauses R Z ga da dr dz 𝓛 𝓜.mem 𝓡.returns in
    let args : Args = bounded (a_type ∷ a_type ∷ []) (R, (Z, tt)) (dcons da (dcons dr (dcons dz dnil))) in
    let fn : Fn = inst_fn args code.function in
    let hs : Stays S.params T.kept = (stay_dropped (plain (λ _. Boxed R Z LZ ga)) no, tt) in
    proved_at 𝓛 T hs c 𝓜 𝓡 (Goes-blank 𝓛 2 (plain (λ _. Boxed R Z LZ ga)) no (λ κs x f. tt), tt) (f.Key.name args) fn (code.unfolded 𝓤 H 𝓜 𝓡 wired (R, (Z, tt)) da dr dz) (λ z are.
    let κs = z.0.0 in let qs = z.0.1 in let v = z.0.3.0 in
    let Post : Val → SProp 𝓤 = (walk_of 𝓛 T hs c).post z in let Run : List Val → SProp 𝓤 = λ ws. WpFn 𝓤 H 𝓣.C 𝓣.Λ fn ws Post in
    qed 𝓛 ((raw (alive 𝓛 S κs qs) ⊛ ‵ (owns (Boxed R Z LZ ga ∷ []) z.0.3 z.0.4)) ∷ raw ((c κs z.0.3).requires z.1) ∷ []) ∵ split ! $ move ! (1 ∷ []) $ fsplit ! $
    box_tells R Z LZ ga LR ! v z.0.4.0 (λ w is good.
    suffices ! (Run (w ∷ [])) (subst (λ (us : List Val). ent 𝓤 (Run (w ∷ [])) (Run us)) (sym (λ i. is i ++ [])) (id⊢ 𝓤 (Run (w ∷ [])))) $
    enter ! 𝓣.C 𝓣.Λ fn (w ∷ []) Post $ alloc_all ! (λ l. pass_all ! refl (good, tt) $
    sets ! (of_opd ! (get ! refl)) refl good $
    -- [the box; nothing; the tokens; the requires]
    let G = triple_of 𝓛 (g.signature R Z ga da dz dr) (g.spec R Z ga da dz dr 𝓛 𝓜.mem 𝓡.returns) in
    let y : G.Ghost = ((κs, qs, tt, (v, tt), (w ∷ [], tt)), tt) in
    fjoin ! $ move ! (1 ∷ 0 ∷ []) $ join ! $ join ! $ use1 𝓛 (raw (G.pre y)) (id⊢ 𝓤 _) $
    calls_at ! (framed 𝓤 H 𝓜 𝓣) G (met 𝓤 𝓛 𝓜 𝓡 (code.calls-std_alloc::boxed::Box::into_raw_with_allocator 𝓡.env wired) R Z LR LZ ga da dz dr bound glue_z glue_r) y (and_then ! (get ! refl) (no_more !)) (λ u.
    use1 𝓛 (later (some (λ (r : Ptr × Z.Denot). (raw (alive 𝓛 S κs qs) ⊛ ‵ ((Tuple (RawPtr ∷ param 1 Z ∷ [])).own_val r (u ∷ []))) ⊛
    some (λ (ws : (Unit {0} × (Unit {0} × Unit {0})) × Unit {0}). ‵ (lasts (g.ended R Z ga da dz dr) κs (v, tt) ws) ⊛ (raw (fact 𝓤 (r.1 ≡ v.alloc)) ⊛ ‵ (box_owns (ga.dealloc_token v.alloc) (param 0 R) r.0 v.value)))))) (id⊢ 𝓤 _) $
    await ! tt $ pick ! (λ r. split ! $ move ! (1 ∷ []) $ pick ! (λ ws. split3 ! $ drop ! $ heard ! (r.1 ≡ v.alloc) (λ same.
    in_a_block ! r.0 (λ p. box_owns (ga.dealloc_token v.alloc) (param 0 R) p v.value) (fst∗ 𝓤 (never 𝓤) (sem 𝓛 (ga.dealloc_token v.alloc (bare (lone (param 0 R).mir)) null_ptr))) (λ b o e.
    move ! (1 ∷ []) $ split ! $ move ! (1 ∷ []) $ pair_out R Z LZ ga ! r (u ∷ []) (λ h eu fits.
    let W = both (vptr b o) h in let typed = pointer_good (param 0 R) (param 1 Z) (param_laws 1 Z LZ) ga b o h fits in
    rewrite ! 0 (λ (a : Z.Denot). ‵ (Z.own_val a (h ∷ []))) same refl $
    lands_as ! (ap only (eu ∙ (λ i. both (ptr_val (e i)) h ∷ []))) refl typed $
    sets ! (of_opd ! (get_in ! (fld ! refl (stop !)) (sub ! 0 refl (whole !)))) refl (tt, tt) $ sets ! (of_opd ! (get_in ! (fld ! refl (stop !)) (sub ! 1 refl (whole !)))) refl fits $
    sets ! (of_opd ! (get ! refl)) refl fits $ sets ! (agg ! (and_then ! (get ! refl) (and_then ! (get ! refl) (no_more !)))) refl typed $
    returns ! (look_at ! 0 refl) $ free_all ! refl $
    -- [the handle; the tokens; what the box owned]
    move ! (2 ∷ 0 ∷ []) $ pointer_in (param 0 R) (param 1 Z) (param_laws 1 Z LZ) ga ! b o h v.alloc v.value $
    use0 𝓛 (raw (fact 𝓤 (v.value ≡ v.value))) (fact_i 𝓤 _ (emp 𝓤) refl) $ nothing ! $ nothing ! $ fjoin ! $
    keep ! (3 ∷ 0 ∷ 2 ∷ 1 ∷ []) $ by ! (leaves 𝓛 T hs c z W (record { at = block_ptr b o; alloc = v.alloc; value = v.value }) ((tt, (tt, tt)), tt) (tt, tt)))))))))))
