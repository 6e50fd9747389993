-- What the names of answers stand for.
use Rattle.std.specs.Prelude.{◌^◌, ltb, pos, if◌then◌else◌}
use Rattle.vast_calls.specs.declared.names.Named.{Named}
use Rattle.vast_calls.specs.declared.names.Named.TheVariants.{Number as NumberNamed, Other}
use Rattle.vast_session.specs.declared.questions.answered.Value.{Value}
use Rattle.vast_session.specs.declared.questions.answered.Value.TheVariants.{Text, Nothing, Truth, Number, Count, Ports}

-- What the name of a question's answer stands for: a number of 64 bits with a sign, or what is none.
abbrev pub value_named : Value → Named
value_named (Text text) = Other
value_named Nothing = Other
value_named (Truth truth) = Other
value_named (Number z) = NumberNamed z
value_named (Count n) = if ltb n (2 ^ 63) then NumberNamed (pos n) else Other
value_named (Ports ports) = Other
