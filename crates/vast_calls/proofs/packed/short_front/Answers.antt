use Rattle.std.proofs.Common.{arith, refl}
use Rattle.vast_calls.proofs.PackedWords.{digit_above, digit_last}
use Rattle.vast_calls.proofs.packed.short_front.Goals as goal

pub returns-in-Some-split_first-clause-front : goal.returns-in-Some-split_first-clause-front
returns-in-Some-split_first-clause-front c =
    let first = c.in-Some in
    let last = c.in-Some-split_first in
    digit_above first.first.now _ last.last.now c.args.bytes.now first.behind.now last.behind.now (omega (arith, c.if-digit-lt128.false)) first.ensures.cases.0
    (digit_last last.last.now first.behind.now last.behind.now (omega (arith, c.if-last-lt128.true)) last.ensures.cases.0) refl
