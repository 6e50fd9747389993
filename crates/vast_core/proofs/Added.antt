-- A list with an element more, or with none.
use Rattle.std.proofs.Common.{◌≡◌, ℕ, ◌<◌, ◌≤◌, List, [], ◌∷◌, length, Option, Some, None, slice_get, refl, arith, length-append}
use Rattle.std.specs.Prelude.{IfSome}
use Rattle.vast_core.specs.Sound.{Each}
use Rattle.vast_core.specs.Internal.Containers.{added}
use Rattle.vast_core.proofs.Lists.{slice_get-append, Each-push}
use Rattle.vast_core.proofs.Nests.{get-before}

pub added-get : {A : Type 0} (xs : List A) (o : Option A) (i : ℕ) (x : A) → slice_get xs i ≡ Some x → slice_get (added xs o) i ≡ Some x
added-get xs None i x h = h
added-get xs (Some y) i x h = slice_get-append xs (y ∷ []) i x h

pub length-added : {A : Type 0} (xs : List A) (o : Option A) → length xs ≤ length (added xs o)
length-added xs None = omega arith
length-added xs (Some y) = omega (arith, length-append xs (y ∷ []))

pub Each-added : {A : Type 0} (P : A → Type 0) (xs : List A) (o : Option A) → Each P xs → IfSome o P → Each P (added xs o)
Each-added P xs None h k = h
Each-added P xs (Some y) h k = Each-push P xs y h k

pub get-added : {A : Type 0} (xs : List A) (o : Option A) (i : ℕ) → i < length xs → slice_get (added xs o) i ≡ slice_get xs i
get-added xs None i below = refl
get-added xs (Some y) i below = get-before xs (y ∷ []) i below
