use Rattle.std.proofs.Common.{false}
use Rattle.std.proofs.lemmas.List.{get_or_default}
use Rattle.vast_list.proofs.Built.{no-lines}
use Rattle.vast_list.proofs.JsonLines.{answers-next}
use Rattle.vast_list.proofs.json_line.answered.Goals as goal

pub loop-number-init : goal.loop-number-init
loop-number-init c = λ _. no-lines false c.args.dialect c.new.result c.new.ensures.file c.new.ensures.answers c.new.ensures.names c.new.ensures.skipped

pub loop-number-preserved : goal.loop-number-preserved
loop-number-preserved c =
    let inside = c.loop-number-test.true in
    answers-next c.args.dialect c.args.lines.now c.loop-number.number-index _ c.loop-number.answers c.take.new.self inside (get_or_default c.args.lines.now c.loop-number.number-index _ _ inside) c.loop-number.invariant c.in_ok-take.ensures
