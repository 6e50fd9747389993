use Rattle.std.proofs.Common.{rules, ◌≡◌, get_or, to_z, of_z, w64}
use Rattle.std.proofs.lemmas.List.{get_or_default}
use Rattle.vast_core.specs.declared.handle.Expr.{Expr}
use Rattle.xlsynth_vast.proofs.Reduced.{more-more}
use Rattle.xlsynth_vast.proofs.ArrayReduced.{adds_none, leveled-start, leveled-step, leveled-end}
use Rattle.xlsynth_vast.proofs.helpers.array_reduction.push_all_slots.Goals as goal

abbrev none : Expr
none = record { id = record { file_id = 0; index = 0 } }

pub loop-array-init : goal.loop-array-init
loop-array-init c = leveled-start _ _ _ _ c.requires.made

pub returns-in_err-push_slots : goal.returns-in_err-push_slots
returns-in_err-push_slots c = adds_none _ _ _ _ _ _ (search rules) (more-more _ _ _ c.loop-array.invariant.more c.in_err-push_slots.ensures)

pub loop-array-preserved : goal.loop-array-preserved
loop-array-preserved c =
    let arrays = c.args.arrays.now in
    let i = c.loop-array.array-index in
    let array : Expr = get_or arrays i none in
    leveled-step _ _ _ _ arrays i array _ _ _ c.loop-array.invariant c.requires.arrays c.loop-array-test.true (get_or_default arrays i none array c.loop-array-test.true) c.in_ok-push_slots.ensures

pub returns : goal.returns
returns c =
    let whole : to_z w64 (of_z w64 c.args.dimension) ≡ c.args.dimension = search rules in
    rw whole at (leveled-end _ _ _ c.args.arrays.now _ _ _ c.loop-array.invariant c.loop-array-test.false)
