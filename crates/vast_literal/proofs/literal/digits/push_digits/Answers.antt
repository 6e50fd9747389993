use Rattle.std.proofs.Common.{refl, ◌-◌, ◌∙◌, ap, arith, string_bytes, ◌++◌, ◌∷◌, []}
use Rattle.vast_literal.proofs.Numbers.{one_digit, none_left}
use Rattle.vast_literal.proofs.literal.digits.push_digits.Goals as goal
use Rattle.vast_literal.specs.Digits.{characters}

pub loop-place-preserved : goal.loop-place-preserved
loop-place-preserved c =
    one_digit (string_bytes c.loop-place.text) _ _ _ c.loop-place.place (c.loop-place.place - 1) _ c.digit_at.result (omega arith) c.digit_at.ensures.digit
    (c.in_ok-push.ensures.bytes ∙ ap (λ t. string_bytes c.loop-place.text ++ t) (c.in_ok-push.ensures.ascii c.digit_character.ensures.ascii ∙ ap (λ x. x ∷ []) c.digit_character.ensures.value)) c.loop-place.invariant

pub returns : goal.returns
returns c = none_left characters refl _ _ c.loop-place.place _ _ c.loop-place-test.false c.loop-place.invariant
