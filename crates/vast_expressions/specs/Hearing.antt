-- What is heard, event by event.
use Rattle.std.specs.Prelude.{◌≡◌, List, [], ◌∷◌}
use Rattle.vast_expressions.specs.Events.{Event}

-- From `a` to `b` all of the events were heard, in turn.
abbrev pub HearsAll : {A : Type 0} → (A → Event → A → Type 0) → A → List Event → A → Type 0
HearsAll hears a [] b = a ≡ b
HearsAll {A = A} hears a (e ∷ es) c = (b : A) × hears a e b × HearsAll hears b es c
