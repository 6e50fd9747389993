use Rattle.std.proofs.Common.{rules, ◌≡◌, to_z, of_z, w64}
use Rattle.xlsynth_vast.proofs.ArrayReduced.{deeper, undivided}
use Rattle.xlsynth_vast.proofs.helpers.array_reduction.counted_elements.Goals as goal

pub returns-in_default : goal.returns-in_default
returns-in_default c =
    undivided _ c.args.array c.args.dimensions.now _ c.in_default.ensures.cases c.requires (rw c.in_ok-made.ensures.items at c.in_ok-push.ensures.items)

pub returns : goal.returns
returns c =
    let read : to_z w64 (of_z w64 c.in-Some.last.now) ≡ c.in-Some.last.now = search rules in
    rw c.in-Some.ensures.cases.0
    (deeper _ _ _ c.args.array c.in-Some.outer.now c.in-Some.last.now c.in_ok-arrays.arrays.items _ c.in_ok-arrays.ensures.2 c.in_ok-arrays.ensures.1
    (rw (c.in_ok-made.ensures.items, c.deref.ensures.value, read) at c.in_ok-push_all_slots.ensures))
