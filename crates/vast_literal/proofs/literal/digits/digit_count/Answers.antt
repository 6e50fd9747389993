use Rattle.std.proofs.Common.{arith}
use Rattle.vast_literal.proofs.Numbers.{one_division, count_bound, digit_count-zero, digit_count-more}
use Rattle.vast_literal.proofs.literal.digits.digit_count.Goals as goal

pub overflow_add-count : goal.overflow_add-count
overflow_add-count c = let k = count_bound c.args.radix c.loop-rest.count c.loop-rest.rest c.args.value c.requires c.ranges.value.fits c.loop-rest.invariant in omega arith

pub loop-rest-preserved : goal.loop-rest-preserved
loop-rest-preserved c = one_division c.args.radix c.loop-rest.count c.loop-rest.rest _ c.requires c.loop-rest-test.true c.loop-rest.invariant

pub returns-then-count-eq0-clause-count : goal.returns-then-count-eq0-clause-count
returns-then-count-eq0-clause-count c = digit_count-zero c.args.radix c.args.value c.loop-rest.count c.loop-rest.rest c.loop-rest-test.false c.if-count-eq0.true c.loop-rest.invariant

pub returns-else-count-eq0-clause-count : goal.returns-else-count-eq0-clause-count
returns-else-count-eq0-clause-count c = digit_count-more c.args.radix c.args.value c.loop-rest.count c.loop-rest.rest c.loop-rest-test.false c.if-count-eq0.false c.loop-rest.invariant

pub returns-else-count-eq0-clause-few : goal.returns-else-count-eq0-clause-few
returns-else-count-eq0-clause-few c = count_bound c.args.radix c.loop-rest.count c.loop-rest.rest c.args.value c.requires c.ranges.value.fits c.loop-rest.invariant
