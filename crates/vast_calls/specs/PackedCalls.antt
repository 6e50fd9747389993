-- Packed calls: a number, and arguments.
use Rattle.std.specs.Prelude.{◌≡◌, ◌⊎◌, ℕ, List, [], ◌++◌, length, Some}
use Rattle.vast_steps.specs.declared.step.Step.{Step}
use Rattle.vast_calls.specs.declared.table.numbered.Place.{Place}
use Rattle.vast_calls.specs.declared.packed_call.PackedCall.{PackedCall}
use Rattle.vast_calls.specs.Actions.{Acts}
use Rattle.vast_calls.specs.CallArguments.{step_pieces}
use Rattle.vast_calls.specs.CallNames.{step_name}
use Rattle.vast_calls.specs.CallNumbers.{IsNumberOf, name_at, name_numbered}
use Rattle.vast_calls.specs.Packed.{ArePacked, IsNumberFront, IsPackedNumber}

-- The number of the call of this name stands at the front, and this after it.
abbrev pub IsCallFront : (bytes name behind : List ℕ) → Type 0
IsCallFront bytes name behind = (front : List ℕ) × (number : ℕ) × IsPackedNumber front number × IsNumberOf number name × (bytes ≡ front ++ behind)

-- The name is that of the number at the front, or empty.
abbrev pub NamesPacked : (bytes name : List ℕ) → Type 0
NamesPacked bytes name = (name ≡ []) ⊎ ((behind : List ℕ) × IsCallFront bytes name behind)

-- The call's bytes stand at the front, after how many they are, and this after them.
abbrev pub IsCallSplit : (bytes call behind : List ℕ) → Type 0
IsCallSplit bytes call behind = (front : List ℕ) × IsPackedNumber front (length call) × (bytes ≡ front ++ (call ++ behind))

-- The number of the call of this place stands at the front, and this after it.
abbrev pub IsPlaceFront : (bytes : List ℕ) → Place → (behind : List ℕ) → Type 0
IsPlaceFront bytes place behind = (n : ℕ) × IsNumberFront bytes n behind × (name_at place ≡ name_numbered n)

-- The bytes are this call, of which these numbers were passed over.
abbrev pub IsUnpacked : (skipped bytes : List ℕ) → PackedCall → Type 0
IsUnpacked skipped bytes packed =
    (arguments : List ℕ) × IsCallFront bytes packed.call.now arguments × Acts (λ pieces. ArePacked skipped pieces arguments) packed.call.now packed.action

-- The arguments are those of this step, which the place is.
abbrev pub IsStepAt : (skipped : List ℕ) → Place → (arguments : List ℕ) → Step → Type 0
IsStepAt skipped place arguments step = (name_at place ≡ Some (step_name step)) × ArePacked skipped (step_pieces step) arguments
