use Rattle.std.proofs.Common.{◌∙◌}
use Rattle.std.proofs.lemmas.List.{get_or_default}
use Rattle.vast_list.proofs.Outputs.{answering-next, answering-none}
use Rattle.vast_list.proofs.output.answered.Goals as goal

pub loop-number-init : goal.loop-number-init
loop-number-init c = answering-none c.args.tries c.args.dialect c.new-answering.result (c.new-answering.ensures.trial ∙ c.in_ok-trial.ensures) c.new-answering.ensures.going c.new-answering.ensures.built

pub loop-number-preserved : goal.loop-number-preserved
loop-number-preserved c =
    let inside = c.loop-number-test.true in
    answering-next c.args.tries c.args.dialect c.args.lines.now c.loop-number.number-index _ c.loop-number.answering c.take.new.self inside (get_or_default c.args.lines.now c.loop-number.number-index _ _ inside) c.loop-number.invariant c.in_ok-take.ensures
