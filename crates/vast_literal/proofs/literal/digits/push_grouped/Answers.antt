use Rattle.std.proofs.Common.{refl, ◌-◌, arith, string_bytes}
use Rattle.vast_literal.proofs.Numbers.{one_separated, none_left}
use Rattle.vast_literal.proofs.literal.digits.push_grouped.Goals as goal
use Rattle.vast_literal.specs.Digits.{grouped}

pub loop-place-preserved : goal.loop-place-preserved
loop-place-preserved c =
    one_separated (string_bytes c.loop-place.text) _ _ _ c.loop-place.place (c.loop-place.place - 1) _ c.digit_at.result (omega arith) c.digit_at.ensures.digit
    c.in_ok-push_separated.ensures c.loop-place.invariant

pub returns : goal.returns
returns c = none_left grouped refl _ _ c.loop-place.place _ _ c.loop-place-test.false c.loop-place.invariant
