use Rattle.std.proofs.Common.{rules, ◌≡◌, ◌*ℤ◌, ◌<◌, ℤ, pos, [], length, get_or, drop, ap, ◌∙◌, FitsSigned, to_z, of_z, w64}
use Rattle.std.proofs.lemmas.List.{drop_all}
use Rattle.vast_core.specs.Nodes.{sizes_in}
use Rattle.vast_core.specs.BitCount.{product, size_values}
use Rattle.vast_core.specs.View.{bench}
use Rattle.vast_core.proofs.Arrays.{array-end}
use Rattle.vast_core.proofs.Products.{values-length, value-at, dimension-kept, dimension-over}
use Rattle.vast_core.proofs.ast.Ast.multiplied.Goals as goal

pub returns-in_err-total-clause-none : goal.returns-in_err-total-clause-none
returns-in_err-total-clause-none c =
    let b = (bench c.args.self.now).nodes in
    let ds = c.args.dimensions.now in
    let values = size_values (sizes_in b ds) in
    let i = c.loop-dimension.dimension-index in
    let below : i < length values = rw (values-length b ds) c.loop-dimension-test.true in
    let same : to_z w64 (of_z w64 c.value_or_one.result) ≡ c.value_or_one.result = search rules in
    let read : to_z w64 (of_z w64 c.value_or_one.result) ≡ get_or values i (pos 0) = same ∙ c.value_or_one.ensures ∙ value-at b ds i _ c.loop-dimension-test.true in
    let count : to_z w64 (of_z w64 c.args.count) ≡ c.args.count = search rules in
    rw c.from_residual.ensures
    (dimension-over values i _ _ _ (product values *ℤ c.args.count) below c.requires.each read c.loop-dimension.invariant.some c.loop-dimension.invariant.same
    (ap (λ (n : ℤ). product values *ℤ n) count) c.in_err-total.ensures)

pub loop-dimension-preserved : goal.loop-dimension-preserved
loop-dimension-preserved c =
    let b = (bench c.args.self.now).nodes in
    let ds = c.args.dimensions.now in
    let values = size_values (sizes_in b ds) in
    let i = c.loop-dimension.dimension-index in
    let below : i < length values = rw (values-length b ds) c.loop-dimension-test.true in
    let same : to_z w64 (of_z w64 c.value_or_one.result) ≡ c.value_or_one.result = search rules in
    let read : to_z w64 (of_z w64 c.value_or_one.result) ≡ get_or values i (pos 0) = same ∙ c.value_or_one.ensures ∙ value-at b ds i _ c.loop-dimension-test.true in
    let fits : FitsSigned w64 c.in_ok-total.total = rw c.in_ok-total.ensures.1 c.in_ok-total.ensures.0 in
    let next : to_z w64 (of_z w64 c.in_ok-total.total) ≡ c.in_ok-total.total = search rules in
    let kept = dimension-kept values i _ _ c.in_ok-total.total _ below c.requires.each read c.loop-dimension.invariant.some c.loop-dimension.invariant.same c.in_ok-total.ensures.1 in
    rw next (record { some = kept.0; same = kept.1 })

pub returns-clause-some : goal.returns-clause-some
returns-clause-some c =
    let b = (bench c.args.self.now).nodes in
    let ds = c.args.dimensions.now in
    let values = size_values (sizes_in b ds) in
    let i = c.loop-dimension.dimension-index in
    let none : drop i values ≡ [] = drop_all i values (rw (values-length b ds) c.loop-dimension-test.false) in
    let count : to_z w64 (of_z w64 c.args.count) ≡ c.args.count = search rules in
    array-end (drop i values) _ _ c.loop-dimension.invariant.some none c.loop-dimension.invariant.same ∙ ap (λ (n : ℤ). product values *ℤ n) count
