use Rattle.std.proofs.Common.{◌≡◌, filter, drop, ℕ, List, ◌<◌, ◌^◌}
use Rattle.std.specs.Char.{is_digit}
use Rattle.vast_literal.specs.Digits.{weighted}
use Rattle.vast_literal.proofs.Numbers.{weighted_after}
use Rattle.vast_literal.proofs.literal.digits.magnitude.Given as goal

-- the number so far, with the digits that are left, is the whole number
pub record IsSoFar (radix total : ℕ) (left all : List ℕ) : Type 0 where
  pub small : total < 2 ^ 128
  pub whole : weighted_after radix total (filter (λ c. is_digit c radix) left) ≡ weighted radix (filter (λ c. is_digit c radix) all)

abbrev pub invariant-loop-byte : goal.invariant-loop-byte
invariant-loop-byte l = IsSoFar l.radix l.total (drop l.byte-index l.digits) l.digits
