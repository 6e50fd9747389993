-- `into_pointer` compares the pointer with null, and hands on what it owns.
use Rattle.std.proofs.Common.{List, [], ◌∷◌, ◌++◌, refl, sym, subst, ap, ◌∙◌, lit<}
use Rattle.std.specs.Prelude.{◌≡◌, None, Some}
use mir.Val.{Val, vptr, vcons, vnil}
use base.Logic.{SProp, ent, emp, id⊢}
use prog.Wp.{WpFn}
use types.Kit.{‵, raw, ◌⊛◌, at_ret, ◌$◌, ◌∵◌, !, qed, by, move, keep, split, fsplit, fjoin, suffices, use0, use1}
use types.Run.{stop, fld, lit, of_opd, bin, no_more, and_then, first, branches, exec, returns, enter}
use types.ByLocal.{alloc_all, pass_all, free_all, look_at, get, get_in, sets, sets_last, env}
use types.Part.{agg, sub, whole}
use types.Match.{live}
use contract.Monad.{fact, fact_i}
use contract.Running.{tables}
use denote.Exit.{yes}
use denote.RattleType.{RattleType, owns}
use denote.Signature.{type_at, plain}
use denote.RawPtr.{Ptr, block_ptr, null_ptr, ptr_val, tests_null}
use denote.Steps.{nothing}
use denote.Param.{layout}
use denote.Triple.Entry.{alive}
use denote.Triple.Walked.{Stays, stay_dropped, walk_of, Goes-dropped}
use Rattle.core.proofs.alloc.Shapes.{after}
use Rattle.core.proofs.atomic.Steps.{Ptr-Good}
use Rattle.core.proofs.cell.Inside.{Good}
use Rattle.core.proofs.option.Made.{Some-of, none_of}
use Rattle.std_alloc.proofs.ResultValues.{and_tt}
use Rattle.std.proofs.raw_atomic.Walks.{proved_at, leaves}
use Rattle.std_heap.specs.contracts.Global.{the_row as Z}
use Rattle.std_heap.proofs.Global.TheLaws.{the_row_laws as LZ}
use Rattle.std_heap.specs.contracts.GlobalAllocator.TheImpl.{ghosts}
use Rattle.vast_c.specs.contracts.kept.Kept.{the_row as R}
use Rattle.vast_handle.proofs.Values.{both, OwnedPointer, pointer_good, pointer_in}
use Rattle.vast_handle.proofs.Kept.{kept_good, kept_out, either}
use Rattle.vast_c.specs.contracts.handle.Handle.{the_row as Row}
use Rattle.vast_c.specs.contracts.handle.Handle.into_pointer as f
use Rattle.vast_c.proofs.handle.Handle.into_pointer.Statement.{statement}
use Rattle.vast_c.proofs.handle.Handle.into_pointer.Code as code

abbrev L : RattleType
L = OwnedPointer R Z LZ ghosts

abbrev hs : Stays f.ended.signature.params f.ended.kept
hs = (stay_dropped (plain (λ _. Row)) yes, tt)

pub into_pointer_spec : {M : Type 1} → statement M
into_pointer_spec 𝓤 𝓛 𝓜 𝓡 wired =
    let H = 𝓛.H in let 𝓣 = tables 𝓤 H 𝓜 𝓡 𝓡.env in let c = f.clauses 𝓛 𝓜.mem 𝓡.returns in let fn = code.function in
    proved_at 𝓛 f.ended hs c 𝓜 𝓡 (Goes-dropped 𝓛 0 (plain (λ _. Row)) yes (λ κs x g. refl), tt) f.Key.name fn (code.unfolded 𝓤 H 𝓜 𝓡 wired) (λ z are.
    let v = z.0.3.0 in let a = v.alloc in let Out : RattleType = type_at f.signature.result z.0.0 in let Post : Val → SProp 𝓤 = (walk_of 𝓛 f.ended hs c).post z in let Run : List Val → SProp 𝓤 = λ ws. WpFn 𝓤 H 𝓣.C 𝓣.Λ fn ws Post in
    qed 𝓛 ((raw (alive 𝓛 f.signature z.0.0 z.0.1) ⊛ ‵ (owns (Row ∷ []) z.0.3 z.0.4)) ∷ raw ((c z.0.0 z.0.3).requires z.1) ∷ []) ∵ split ! $ move ! (1 ∷ []) $ fsplit ! $
    kept_out R ! v.at a v.kept z.0.4.0 (λ h ws fits. either R ! a v.at v.kept
    (λ none is. let w : Val = both (ptr_val null_ptr) h in
    -- [the handle; nothing; the tokens; the requires]
    suffices ! (Run (w ∷ [])) (subst (λ (us : List Val). ent 𝓤 (Run (w ∷ [])) (Run us)) (sym (λ i. (ws ∙ ap (λ (p : Ptr). both (ptr_val p) h ∷ []) is) i ++ [])) (id⊢ 𝓤 (Run (w ∷ [])))) $
    enter ! 𝓣.C 𝓣.Λ fn (w ∷ []) Post $ alloc_all ! (λ l. pass_all ! refl (kept_good null_ptr h fits, tt) $ let Ev = env fn.locals l in
    sets ! (of_opd ! (get_in ! (fld ! refl (stop !)) (sub ! 0 refl (whole !)))) refl (Ptr-Good null_ptr) $ sets ! (of_opd ! (get_in ! (fld ! refl (stop !)) (sub ! 1 refl (whole !)))) refl fits $
    sets ! (bin ! (get ! refl) (lit ! tt) tt) refl (tt, tt) $ first ! $ branches ! (get ! refl)
    (λ _. sets_last ! (agg ! (and_then ! (lit ! tt) (no_more !))) refl (tt, (record { fits = lit< tt }, tt)) $ exec ! 𝓣.C 𝓣.Λ Ev (after 4 fn.body) (at_ret Ev Post) $ sets ! (of_opd ! (get ! refl)) refl (tt, (record { fits = lit< tt }, tt)) $
    use0 𝓛 (‵ (Out.own_val None (live 0 vnil ∷ []))) (none_of 𝓛 L) $ use0 𝓛 (raw (fact 𝓤 (v.kept ≡ None))) (fact_i 𝓤 _ (emp 𝓤) none) $ nothing ! $ nothing ! $ fjoin ! $
    returns ! (look_at ! 0 refl) $ free_all ! refl $ keep ! (5 ∷ 0 ∷ 2 ∷ 1 ∷ []) $ by ! (leaves 𝓛 f.ended hs c z (live 0 vnil) None (tt, tt) (tt, tt)))
    (λ wrong. absurd wrong)))
    (λ b o x some is able. let w : Val = both (vptr b o) h in let typed = pointer_good R Z LZ ghosts b o h fits in let v₁ : Val = live 1 (vcons w vnil) in let d : L.Denot = record { at = block_ptr b o; alloc = a; value = x } in
    let good : Good (layout Out) v₁ = (and_tt _ typed.0, (record { fits = lit< tt }, (typed.1, tt))) in
    -- [what is kept; the handle; nothing; the tokens; the requires]
    suffices ! (Run (w ∷ [])) (subst (λ (us : List Val). ent 𝓤 (Run (w ∷ [])) (Run us)) (sym (λ i. (ws ∙ ap (λ (p : Ptr). both (ptr_val p) h ∷ []) is) i ++ [])) (id⊢ 𝓤 (Run (w ∷ [])))) $
    enter ! 𝓣.C 𝓣.Λ fn (w ∷ []) Post $ alloc_all ! (λ l. pass_all ! refl (kept_good (block_ptr b o) h fits, tt) $ let Ev = env fn.locals l in
    sets ! (of_opd ! (get_in ! (fld ! refl (stop !)) (sub ! 0 refl (whole !)))) refl (tt, tt) $ sets ! (of_opd ! (get_in ! (fld ! refl (stop !)) (sub ! 1 refl (whole !)))) refl fits $
    sets ! (bin ! (get ! refl) (lit ! tt) (tests_null (block_ptr b o) able)) refl (tt, tt) $ first ! $ branches ! (get ! refl) (λ wrong. absurd wrong) (λ _.
    sets ! (agg ! (and_then ! (get ! refl) (and_then ! (get ! refl) (no_more !)))) refl typed $ sets_last ! (agg ! (and_then ! (lit ! tt) (and_then ! (get ! refl) (no_more !)))) refl good $
    exec ! 𝓣.C 𝓣.Λ Ev (after 4 fn.body) (at_ret Ev Post) $ sets ! (of_opd ! (get ! refl)) refl good $ pointer_in R Z LZ ghosts ! b o h a x $
    use1 𝓛 (‵ (Out.own_val (Some d) (v₁ ∷ []))) (Some-of 𝓛 L d w) $ use0 𝓛 (raw (fact 𝓤 (v.kept ≡ Some x))) (fact_i 𝓤 _ (emp 𝓤) some) $ nothing ! $ nothing ! $ fjoin ! $
    returns ! (look_at ! 0 refl) $ free_all ! refl $ keep ! (4 ∷ 0 ∷ 2 ∷ 1 ∷ []) $ by ! (leaves 𝓛 f.ended hs c z v₁ (Some d) (tt, tt) (tt, tt)))))))
