-- The number by which a name finds its slot.
use Rattle.std.specs.Prelude.{ℕ, ◌*◌, ◌/◌, ◌%◌, ◌-◌, ◌^◌, List, bit_and, bit_xor, fold}
use Rattle.vast_names.specs.declared.hash.TheConstants.{BASIS, PRIME}

-- One byte more.
unfoldable pub hash_step : ℕ → ℕ → ℕ
hash_step hash byte = (bit_xor hash byte * PRIME) % 2 ^ 64

-- FNV-1a of 64 bits, with its upper half mixed into the lower.
unfoldable pub hash : List ℕ → ℕ
hash name = let all = fold hash_step BASIS name in bit_xor all (all / 2 ^ 32)

-- The name's slot among that many.
unfoldable pub slot_among : ℕ → List ℕ → ℕ
slot_among slots name = bit_and (hash name) (slots - 1)
