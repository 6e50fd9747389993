use Rattle.vast_list.proofs.TextLines.{more_begin}
use Rattle.vast_list.proofs.origins.shared_begin.Goals as goal

pub loop-place-preserved : goal.loop-place-preserved
loop-place-preserved c =
    more_begin c.args.lines.now c.args.text.now c.loop-place.rest.now c.in-Some.more.now c.as_slice.result.now c.loop-place.place c.index-lines-place.result
    c.loop-place-test.true c.index-lines-place.is c.as_slice.ensures.value c.loop-place.invariant c.in-Some.ensures.cases.0 c.in-Some.ensures.cases.1
