-- Packed calls: what was read, and where one ends.
use Rattle.std.proofs.Common.{◌≡◌, ℕ, ◌++◌, List, Some, refl, ap, subst, sym, ◌∙◌}
use Rattle.std.proofs.lemmas.List.{take-append-drop}
use Rattle.std.specs.Borrow.{Bor}
use Rattle.std.specs.List.{IsSplitAt}
use Rattle.vast_steps.specs.declared.step.Step.{Step}
use Rattle.vast_calls.specs.declared.arguments.Arguments.{Arguments}
use Rattle.vast_calls.specs.declared.arguments.Known.{Known}
use Rattle.vast_calls.specs.declared.arguments.Rest.TheVariants.{Packed}
use Rattle.vast_calls.specs.declared.line.Action.{Action}
use Rattle.vast_calls.specs.declared.table.numbered.Place.{Place}
use Rattle.vast_calls.specs.declared.packed_call.PackedCall.{PackedCall}
use Rattle.vast_calls.specs.CallArguments.{step_pieces}
use Rattle.vast_calls.specs.CallNames.{step_name}
use Rattle.vast_calls.specs.CallNumbers.{name_at}
use Rattle.vast_calls.specs.Packed.{ArePacked, IsNumberFront, IsPackedNumber}
use Rattle.vast_calls.specs.PackedCalls.{IsCallFront, IsCallSplit, IsStepAt, IsUnpacked}
use Rattle.vast_calls.specs.Internal.Actions.{ActsAt}
use Rattle.vast_calls.specs.Internal.Written.{AreLeft}
use Rattle.vast_calls.proofs.Acted.{acts_packed, left_over}

pub unpacked_action :
    (a : Arguments) (known : Known) (behind : Bor (List ℕ)) (bytes : List ℕ) (place : Place) (name : Bor (List ℕ)) (action : Action) (packed : PackedCall) → IsCallFront bytes name.now behind.now →
    name_at place ≡ Some name.now → ActsAt (AreLeft a) place action → a.known ≡ known → a.rest ≡ Packed behind → packed ≡ record { call = name; action = action } → IsUnpacked known.skipped.now bytes packed
unpacked_action a known behind bytes place name action packed front at acts k r e =
    subst (λ (p : PackedCall). IsUnpacked known.skipped.now bytes p) (sym e) (behind.now, front, acts_packed a known behind place name.now action at acts k r)

pub ruleset unpacking = (unpacked_action)

pub split_at :
    (bytes behind call rest : List ℕ) (n : ℕ) → IsNumberFront bytes n behind → IsSplitAt behind n call rest → IsCallSplit bytes call rest
split_at bytes behind call rest n h s =
    (h.0, subst (λ (m : ℕ). IsPackedNumber h.0 m) (sym s.3) h.1, h.2 ∙ ap (λ (xs : List ℕ). h.0 ++ xs) (sym (take-append-drop n behind) ∙ rw (← s.1, ← s.2) refl))

pub ruleset splitting = (split_at)

pub step_here :
    (a : Arguments) (known : Known) (bytes : Bor (List ℕ)) (place : Place) (step : Step) (skipped : List ℕ) → name_at place ≡ Some (step_name step) → AreLeft a (step_pieces step) →
    a.known ≡ known → a.rest ≡ Packed bytes → known.skipped.now ≡ skipped → IsStepAt skipped place bytes.now step
step_here a known bytes place step skipped n h k r s =
    (n, subst (λ (skipped : List ℕ). ArePacked skipped (step_pieces step) bytes.now) s (left_over a known (Packed bytes) (step_pieces step) k r h))

pub ruleset steps = (step_here)
