use Rattle.std.proofs.Common.{rules, ◌≡◌, ◌+ℤ◌, ◌<ℤ◌, ◌≤ℤ◌, pos, to_z, of_z, w64}
use Rattle.xlsynth_vast.proofs.ArrayReduced.{slotted-start, slot-subject, slotted-step, slotted-refused, slotted-end}
use Rattle.xlsynth_vast.proofs.helpers.array_reduction.push_slots.Goals as goal

pub loop-index-init : goal.loop-index-init
loop-index-init c = slotted-start _ _ _ _ c.requires.made

pub make_index-requires-clause-subject : goal.make_index-requires-clause-subject
make_index-requires-clause-subject c = rw c.make_indexable_expression-array.ensures (slot-subject _ _ _ _ _ _ _ c.loop-index.invariant c.requires.array)

pub loop-index-preserved : goal.loop-index-preserved
loop-index-preserved c =
    let plus : to_z w64 (of_z w64 (c.loop-index.index +ℤ pos 1)) ≡ c.loop-index.index +ℤ pos 1 = search rules in
    let next : to_z w64 (of_z w64 (to_z w64 c.loop-index.index-bits +ℤ pos 1)) ≡ to_z w64 c.loop-index.index-bits +ℤ pos 1 = rw c.loop-index.index-is plus in
    let below : to_z w64 c.loop-index.index-bits <ℤ to_z w64 (of_z w64 c.args.dimension) = search rules in
    slotted-step _ _ _ _ _ _ _ _ _ _ c.in_ok-slot.slot c.loop-index.invariant c.requires.array below next
    (rw c.make_indexable_expression-array.ensures at c.in_ok-slot.ensures.built) (rw c.to_expr.ensures at c.in_ok-push.ensures.items)

pub returns-in_err-push : goal.returns-in_err-push
returns-in_err-push c =
    slotted-refused _ _ _ c.from_residual-in_err-push.result _ _ _ _ _ _ _ _ _ _ c.from_residual-in_err-push.ensures.0 c.loop-index.invariant c.in_ok-slot.ensures.built.1

pub returns : goal.returns
returns c =
    let whole : to_z w64 (of_z w64 c.args.dimension) ≡ c.args.dimension = search rules in
    let past : to_z w64 (of_z w64 c.args.dimension) ≤ℤ to_z w64 c.loop-index.index-bits = search rules in
    rw whole at (slotted-end _ _ _ _ _ _ _ c.loop-index.invariant past)
