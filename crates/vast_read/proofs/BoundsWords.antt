-- Beside `specs/Internal/Bounds.antt`: what proofs alone say.
use Rattle.std.specs.Prelude.{Bool, true, false}
use Rattle.vast_literal.specs.declared.token.Sign.{Sign as Op}
use Rattle.vast_literal.specs.declared.token.Sign.TheVariants.{Less}

abbrev pub is_less : Op → Bool
is_less Less = true
is_less _ = false
