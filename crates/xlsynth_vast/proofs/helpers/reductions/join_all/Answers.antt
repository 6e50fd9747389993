use Rattle.std.proofs.Common.{Ok, get_or}
use Rattle.std.proofs.lemmas.List.{get_or_default}
use Rattle.vast_core.specs.declared.handle.Expr.{Expr}
use Rattle.xlsynth_vast.proofs.Reduced.{value_owned, joining-step}
use Rattle.xlsynth_vast.proofs.helpers.reductions.join_all.Goals as goal

abbrev none : Expr
none = record { id = record { file_id = 0; index = 0 } }

pub join-requires : goal.join-requires
join-requires g c =
    let rest = c.in-Some.rest.now in
    let i = c.loop-value.value-index in
    let value : Expr = get_or rest i none in
    c.requires.1.0 _ _ _ _ c.loop-value.invariant.owned (value_owned g.operator _ _ _ _ _ _ c.loop-value.invariant _ c.requires.1.1.1 c.in-Some.ensures.cases.0 i value c.loop-value-test.true (get_or_default rest i none value c.loop-value-test.true))

pub loop-value-preserved : goal.loop-value-preserved
loop-value-preserved g c =
    let rest = c.in-Some.rest.now in
    let i = c.loop-value.value-index in
    let value : Expr = get_or rest i none in
    joining-step g.operator _ _ _ _ _ _ _ c.loop-value.invariant _ c.requires.1.1.1 c.in-Some.ensures.cases.0 value c.loop-value-test.true (get_or_default rest i none value c.loop-value-test.true) c.in_ok-whole.whole (c.requires.1.1.0 _ _ _ _ (Ok c.in_ok-whole.whole) _ _ c.in_ok-whole.ensures)
