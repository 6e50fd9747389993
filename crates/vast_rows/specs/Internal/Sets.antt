-- Sets of kinds.
use Rattle.std.specs.Prelude.{ℕ, ◌^◌, List, [], ◌∷◌, Bool, nat_eq}
use Rattle.std.specs.Int.Bits.{bit_and, bit_or}

-- The set of one kind, and of those listed.
abbrev pub only : ℕ → ℕ
only kind = 2 ^ kind

abbrev pub set_of : List ℕ → ℕ
set_of [] = 0
set_of (k ∷ ks) = bit_or (only k) (set_of ks)

-- Whether all of the first are in the second.
abbrev pub within : (first second : ℕ) → Bool
within first second = nat_eq (bit_and first second) first

-- Whether none is in both.
abbrev pub none_shared : (first second : ℕ) → Bool
none_shared first second = nat_eq (bit_and first second) 0
