use Rattle.std.proofs.Common.{arith}
use Rattle.vast_calls.proofs.PackedWords.{digit_more}
use Rattle.vast_calls.proofs.packed.+digits_front.Goals as goal

pub returns : goal.returns
returns t c =
    let first = c.in_ok-first in
    digit_more first.first.now _ c.in_ok-more.more c.in_ok-high.high c.args.bytes.now first.behind.now c.in_ok-more.behind.now (omega (arith, c.if-digit-lt128.false)) first.ensures.cases.0 c.in_ok-more.ensures
    (omega (arith, c.in_ok-high.ensures)) (omega (arith, c.in_ok-checked_add.ensures))
