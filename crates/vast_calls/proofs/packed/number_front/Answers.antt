use Rattle.std.proofs.Common.{arith, refl}
use Rattle.vast_calls.proofs.PackedWords.{digit_above}
use Rattle.vast_calls.proofs.packed.number_front.Goals as goal

pub returns-in-Some-short_front : goal.returns-in-Some-short_front
returns-in-Some-short_front c =
    let first = c.in-Some in
    let more = c.in-Some-short_front in
    digit_above first.first.now _ more.more c.args.bytes.now first.behind.now more.behind.now (omega (arith, c.if-digit-lt128.false)) first.ensures.cases.0 more.ensures.front refl
