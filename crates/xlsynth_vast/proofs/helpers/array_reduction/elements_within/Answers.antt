use Rattle.std.proofs.Common.{rules, ◌≡◌, ℤ, pos, get_or, to_z, of_z, w64}
use Rattle.std.proofs.lemmas.List.{get_or_default}
use Rattle.xlsynth_vast.proofs.Reduced.{more-more}
use Rattle.xlsynth_vast.proofs.ArrayReduced.{makes_none, deepened-start, deepened-step}
use Rattle.xlsynth_vast.proofs.helpers.array_reduction.elements_within.Goals as goal

pub loop-dimension-init : goal.loop-dimension-init
loop-dimension-init c = rw (c.in_ok-push.ensures.items, c.new-arrays.ensures.items) (deepened-start _ c.args.array c.args.dimensions.now c.requires)

pub returns-in_err-push_all_slots : goal.returns-in_err-push_all_slots
returns-in_err-push_all_slots c = makes_none _ _ _ _ (search rules) (more-more _ _ _ c.loop-dimension.invariant.more c.in_err-push_all_slots.ensures)

pub loop-dimension-preserved : goal.loop-dimension-preserved
loop-dimension-preserved c =
    let ds = c.args.dimensions.now in
    let i = c.loop-dimension.dimension-index in
    let d : ℤ = get_or ds i (pos 0) in
    let read : to_z w64 (of_z w64 d) ≡ d = search rules in
    deepened-step _ _ _ _ ds i d _ _ _ c.loop-dimension.invariant c.loop-dimension-test.true (get_or_default ds i (pos 0) d c.loop-dimension-test.true) read
    (rw (c.new-made.ensures.items, c.deref.ensures.value) at c.in_ok-push_all_slots.ensures)
