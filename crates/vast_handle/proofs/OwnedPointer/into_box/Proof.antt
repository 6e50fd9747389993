-- `into_box` puts the pointer and the allocator's handle together, with what they own.
use Rattle.std.proofs.Common.{◌≡◌, List, [], ◌∷◌, ◌++◌, refl, sym, ap, subst}
use mir.Syntax.{Fn, Args, a_type, dcons, dnil}
use mir.MapTy.{inst_fn}
use mir.Val.{Val, vptr}
use base.Logic.{SProp, ent, emp, id⊢}
use contract.BorrowLft.{◌⊑◌}
use contract.Monad.{fact, fact_i}
use contract.Running.{tables}
use denote.Exit.{no}
use denote.Param.{bounded, param, layout}
use Rattle.core.proofs.cell.Inside.{Good}
use denote.Param.Laws.{param_laws}
use denote.RattleType.{RattleType, owns}
use denote.RawPtr.{block_ptr}
use denote.Signature.{plain}
use denote.Steps.{nothing, heard, only}
use denote.Triple.Call.{calls_at_last}
use denote.Triple.Clauses.{lasts}
use denote.Triple.Entry.{alive}
use denote.Triple.Spec.{triple_of}
use denote.Triple.Table.{framed}
use denote.Triple.Walked.{Stays, stay_dropped, walk_of}
use prog.Wp.{WpFn}
use types.ByLocal.{alloc_all, pass_all, free_all, look_at, get, get_in, sets, lands_last, env}
use Rattle.std.proofs.VecSteps.Shapes.{after}
use types.Kit.{‵, raw, ◌⊛◌, some, later, at_ret, ◌$◌, ◌∵◌, !, qed, by, move, keep, drop, use0, use1, split, split3, join, fsplit, fjoin, feq_i, pick, await, rewrite, suffices}
use types.Part.{sub, whole}
use types.Run.{stop, fld, of_opd, no_more, and_then, returns, enter, first, blocks, exec}
use Rattle.core.proofs.alloc.Calls.{Goes-blank}
use Rattle.std.proofs.raw_atomic.Walks.{proved_at, leaves}
use Rattle.std_alloc.specs.contracts.boxed.Box.from_raw as g
use Rattle.std_alloc.proofs.boxed.Box.from_raw.Met.{met}
use Rattle.vast_handle.proofs.Values.{both, OwnedPointer, pointer_good, pointer_out, Boxed, box_tells}
use Rattle.vast_handle.specs.contracts.OwnedPointer.into_box as f
use Rattle.vast_handle.proofs.OwnedPointer.into_box.Statement.{statement}
use Rattle.vast_handle.proofs.OwnedPointer.into_box.Code as code

pub into_box_spec : {M : Type 1} → statement M
into_box_spec 𝓤 𝓛 𝓜 𝓡 wired R Z LR LZ ga da dr dz bound glue_r glue_z =
    let H = 𝓛.H in let 𝓣 = tables 𝓤 H 𝓜 𝓡 𝓡.env in
    let T = f.ended R Z ga da dr dz in let S = T.signature in let c = f.clauses R Z ga da dr dz 𝓛 𝓜.mem 𝓡.returns in
    let args : Args = bounded (a_type ∷ a_type ∷ []) (R, (Z, tt)) (dcons da (dcons dr (dcons dz dnil))) in
    let fn : Fn = inst_fn args code.function in let L : RattleType = OwnedPointer (param 0 R) (param 1 Z) (param_laws 1 Z LZ) ga in
    let hs : Stays S.params T.kept = (stay_dropped (plain (λ _. L)) no, tt) in
    proved_at 𝓛 T hs c 𝓜 𝓡 (Goes-blank 𝓛 2 (plain (λ _. L)) no (λ κs x f. tt), tt) (f.Key.name args) fn (code.unfolded 𝓤 H 𝓜 𝓡 wired (R, (Z, tt)) da dr dz) (λ z are.
    let κs = z.0.0 in let qs = z.0.1 in let v = z.0.3.0 in
    let Post : Val → SProp 𝓤 = (walk_of 𝓛 T hs c).post z in let Run : List Val → SProp 𝓤 = λ ws. WpFn 𝓤 H 𝓣.C 𝓣.Λ fn ws Post in
    qed 𝓛 ((raw (alive 𝓛 S κs qs) ⊛ ‵ (owns (L ∷ []) z.0.3 z.0.4)) ∷ raw ((c κs z.0.3).requires z.1) ∷ []) ∵ split ! $ move ! (1 ∷ []) $ fsplit ! $
    pointer_out (param 0 R) (param 1 Z) (param_laws 1 Z LZ) ga ! v z.0.4.0 (λ b o h e ws fits.
    let w : Val = both (vptr b o) h in let typed = pointer_good (param 0 R) (param 1 Z) (param_laws 1 Z LZ) ga b o h fits in
    suffices ! (Run (w ∷ [])) (subst (λ (us : List Val). ent 𝓤 (Run (w ∷ [])) (Run us)) (sym (λ i. ws i ++ [])) (id⊢ 𝓤 (Run (w ∷ [])))) $
    enter ! 𝓣.C 𝓣.Λ fn (w ∷ []) Post $ alloc_all ! (λ l. pass_all ! refl (typed, tt) $ let Ev = env fn.locals l in
    sets ! (of_opd ! (get_in ! (fld ! refl (stop !)) (sub ! 0 refl (whole !)))) refl (tt, tt) $ sets ! (of_opd ! (get_in ! (fld ! refl (stop !)) (sub ! 1 refl (whole !)))) refl fits $
    first ! $ blocks ! $ sets ! (of_opd ! (get ! refl)) refl fits $
    -- [what the box owns; the handle; nothing; the tokens; the requires]
    let G = triple_of 𝓛 (g.signature R Z ga da dz) (g.spec R Z ga da dz 𝓛 𝓜.mem 𝓡.returns) in
    let y : G.Ghost = ((κs, qs, tt, (v.alloc, (block_ptr b o, tt)), (h ∷ [], (vptr b o ∷ [], tt))), v.value) in
    move ! (4 ∷ []) $ use1 𝓛 (raw (fact 𝓤 (κs.0 ⊑ R.lives)) ⊛ (raw (fact 𝓤 (κs.1.0 ⊑ Z.lives)) ⊛ raw (emp 𝓤))) (id⊢ 𝓤 _) $ split3 ! $ move ! (2 ∷ []) $ drop ! $ move ! (1 ∷ 2 ∷ []) $ join ! $ move ! (1 ∷ 0 ∷ []) $ join ! $
    move ! (2 ∷ []) $ feq_i ! (List Val) (vptr b o ∷ []) (vptr b o ∷ []) refl $ fjoin ! $ move ! (2 ∷ 0 ∷ []) $ fjoin ! $
    move ! (2 ∷ 0 ∷ []) $ join ! $ join ! $ use1 𝓛 (raw (G.pre y)) (id⊢ 𝓤 _) $
    calls_at_last ! (framed 𝓤 H 𝓜 𝓣) G (met 𝓤 𝓛 𝓜 𝓡 (code.calls-std_alloc::boxed::Box::from_raw 𝓡.env wired) R Z LR LZ ga da dz bound glue_z) y (and_then ! (get ! refl) (and_then ! (get ! refl) (no_more !))) (λ u.
    use1 𝓛 (later (some (λ (r : (Boxed R Z LZ ga).Denot). (raw (alive 𝓛 S κs qs) ⊛ ‵ ((Boxed R Z LZ ga).own_val r (u ∷ []))) ⊛
    some (λ (ws : Unit {0} × (Unit {0} × Unit {0})). ‵ (lasts (g.ended R Z ga da dz) κs (v.alloc, (block_ptr b o, tt)) ws) ⊛ (raw (fact 𝓤 (r.value ≡ v.value)) ⊛ raw (fact 𝓤 (r.alloc ≡ v.alloc))))))) (id⊢ 𝓤 _) $
    await ! tt $ pick ! (λ r. split ! $ move ! (1 ∷ []) $ pick ! (λ ws. split3 ! $ drop ! $ heard ! (r.value ≡ v.value) (λ same. drop ! $
    split ! $ move ! (1 ∷ []) $ box_tells R Z LZ ga LR ! r (u ∷ []) (λ w is good.
    let fits = subst (Good (layout (Boxed R Z LZ ga))) (sym (ap only is)) good in
    lands_last ! refl fits $ exec ! 𝓣.C 𝓣.Λ Ev (after 3 fn.body) (at_ret Ev Post) $ sets ! (of_opd ! (get ! refl)) refl fits $
    returns ! (look_at ! 0 refl) $ free_all ! refl $
    -- [the box; the tokens]
    use0 𝓛 (raw (fact 𝓤 (r.value ≡ v.value))) (fact_i 𝓤 _ (emp 𝓤) same) $ nothing ! $ nothing ! $ fjoin ! $
    rewrite ! 2 (λ (us : List Val). ‵ ((Boxed R Z LZ ga).own_val r us)) (sym is) refl $
    keep ! (3 ∷ 0 ∷ 2 ∷ 1 ∷ []) $ by ! (leaves 𝓛 T hs c z u r ((tt, (tt, tt)), tt) (tt, tt))))))))))
