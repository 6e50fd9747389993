use Rattle.std.proofs.Common.{arith, inl, inr, ◌+◌, ◌/◌}
use Rattle.std.proofs.lemmas.Int.{ints}
use Rattle.vast_calls.proofs.packed.unfolded.Goals as goal

pub returns-then-number-eq0 : goal.returns-then-number-eq0
returns-then-number-eq0 c = inl (c.args.number / 2, omega (arith, ints), omega (arith, c.if-number-eq0.true))

pub returns-else-number-eq0 : goal.returns-else-number-eq0
returns-else-number-eq0 c = inr (c.args.number / 2 + 1, omega (arith, ints), omega (arith, c.if-number-eq0.false))
