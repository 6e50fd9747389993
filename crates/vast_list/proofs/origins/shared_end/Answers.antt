use Rattle.std.proofs.Common.{◌-◌, arith}
use Rattle.vast_list.proofs.TextLines.{more_end}
use Rattle.vast_list.proofs.origins.shared_end.Goals as goal

pub loop-place-preserved : goal.loop-place-preserved
loop-place-preserved c = (
  omega arith,
  omega arith,
  more_end c.args.lines.now c.args.text.now c.loop-place.rest.now c.in-Some.before.now c.as_slice.result.now (c.loop-place.place - 1) c.loop-place.place c.index-lines-place.result
      (omega arith) (omega arith) c.index-lines-place.is c.as_slice.ensures.value c.loop-place.invariant.2 c.in-Some.ensures.cases.0 c.in-Some.ensures.cases.1,
)
