use Rattle.std.proofs.Common.{rules, ◌≡◌, ℤ, pos, get_or, refl, to_z, of_z, w64}
use Rattle.xlsynth_vast.proofs.ArrayReduced.{all_positive, count-kept, count-over}
use Rattle.xlsynth_vast.proofs.helpers.array_checks.product.Goals as goal

pub returns-in_err-total-clause-none : goal.returns-in_err-total-clause-none
returns-in_err-total-clause-none c =
    let ds = c.args.dimensions.now in
    let i = c.loop-dimension.dimension-index in
    let d : ℤ = get_or ds i (pos 0) in
    let read : to_z w64 (of_z w64 d) ≡ d = search rules in
    rw c.from_residual.ensures
    (count-over ds i d _ _ c.loop-dimension-test.true (all_positive ds c.requires) refl read c.loop-dimension.invariant.some c.loop-dimension.invariant.same c.in_err-total.ensures)

pub loop-dimension-preserved : goal.loop-dimension-preserved
loop-dimension-preserved c =
    let ds = c.args.dimensions.now in
    let i = c.loop-dimension.dimension-index in
    let d : ℤ = get_or ds i (pos 0) in
    let read : to_z w64 (of_z w64 d) ≡ d = search rules in
    let kept = count-kept ds i d _ _ _ c.loop-dimension-test.true (all_positive ds c.requires) refl read c.loop-dimension.invariant.some c.loop-dimension.invariant.same c.in_ok-total.ensures.1 in
    record { some = kept.0; same = kept.1 }
