-- Beside `specs/Literal.antt`: what private contracts and proofs say, and no public one.
use Rattle.std.specs.Prelude.{◌^◌, ◌<◌, ◌≤◌}
use Rattle.vast_literal.specs.Literal.{Bits}

-- What a literal is: 1 to 1,048,576 bits, and a number below 2 to the power of the width and below 2^128.
pub record IsLiteral (bits : Bits) : Type 0 where
  pub positive : 1 ≤ bits.width
  pub narrow : bits.width ≤ 1048576
  pub fits : bits.value < 2 ^ bits.width
  pub small : bits.value < 2 ^ 128
