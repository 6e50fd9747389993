-- The names of calls by their places and by their numbers.
use Rattle.std.proofs.Common.{◌≡◌, ℕ, ◌%◌, ◌/◌, List, [], Option, Some, get_or, ap, sym, subst, ◌∙◌}
use Rattle.std.proofs.lemmas.Option.{slice_get-map}
use Rattle.std.specs.Borrow.{Bor}
use Rattle.std.specs.Prelude.{IfSome, map, option_map, slice_get, unwrap_or}
use Rattle.vast_calls.specs.declared.table.CallRow.{CallRow}
use Rattle.vast_calls.specs.declared.table.numbered.Place.{Place}
use Rattle.vast_steps.specs.declared.step.Step.{Step}
use Rattle.vast_calls.specs.CallNames.{step_name}
use Rattle.vast_calls.specs.CallNumbers.{group_names, name_numbered, name_at}
use Rattle.vast_calls.specs.Lines.{LineKind, word_kind}
use Rattle.vast_calls.specs.PackedCalls.{IsCallFront}
use Rattle.vast_calls.specs.Internal.CallRows.{StandsAt}
use Rattle.vast_calls.specs.Packed.{IsNumberFront}

pub row_at :
    (self place : Place) (found : Option (Bor CallRow)) → self ≡ place → IfSome found (λ row. name_at place ≡ Some row.now.0.now) → IfSome found (λ row. name_at self ≡ Some row.now.0.now)
row_at self place found e h = subst (λ (p : Place). IfSome found (λ row. name_at p ≡ Some row.now.0.now)) (sym e) h

-- Where all names are of one kind, the one at this place is.
pub kind_at : (names : List (List ℕ)) (kind : LineKind) (place : ℕ) (name : List ℕ) → map word_kind names ≡ map (λ (_ : List ℕ). kind) names → StandsAt names place name → word_kind name ≡ kind
kind_at names kind place name e h =
    let same : (f : List ℕ → LineKind) → slice_get (map f names) place ≡ Some (f name) = λ f. slice_get-map f names place ∙ ap (option_map f) h in
    ap (λ (k : Option LineKind). unwrap_or k kind) (sym (same word_kind) ∙ ap (λ (kinds : List LineKind). slice_get kinds place) e ∙ same (λ _. kind))

pub named_step : (self place : Place) (step : Step) → self ≡ place → name_at place ≡ Some (step_name step) → name_at self ≡ Some (step_name step)
named_step self place step e h = ap name_at e ∙ h

-- A call by its number: the group is that of the rest.
pub numbered_in : (n group : ℕ) → n % 16 ≡ group → slice_get (get_or group_names group []) (n / 16) ≡ name_numbered n
numbered_in n group e = ap (λ (g : ℕ). slice_get (get_or group_names g []) (n / 16)) (sym e)

-- The call at the front by its number.
pub call_in_front : (bytes behind name : List ℕ) (place : Place) (n : ℕ) → IsNumberFront bytes n behind → name_at place ≡ name_numbered n → name_at place ≡ Some name → IsCallFront bytes name behind
call_in_front bytes behind name place n h e s = (h.0, n, h.1, sym e ∙ s, h.2)

pub ruleset named = (call_in_front)

pub ruleset steps = (named_step)
