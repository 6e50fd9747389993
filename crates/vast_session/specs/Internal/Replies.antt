-- Beside `specs/Replies.antt`: what private contracts and proofs say, and no public one.
use Rattle.std.specs.Prelude.{◌≡◌, ℕ, List, ◌++◌, codes}
use Rattle.std.specs.List.{flat_map}
use Rattle.vast_session.specs.declared.questions.answered.PortValue.{PortValue}
use Rattle.vast_session.specs.declared.session.Session.{Session}
use Rattle.vast_session.specs.Replies.{IsHelperJson, port_object}

-- The text grew by what stands for the answer of the helper of this number.
abbrev pub AddsHelper : Session → (number : ℕ) → (old new : List ℕ) → Type 0
AddsHelper session number old new = (value : List ℕ) × IsHelperJson session number value × (new ≡ old ++ value)

-- Ports after the first.
abbrev pub more_ports : List PortValue → List ℕ
more_ports ports = flat_map (λ (port : PortValue). codes "," ++ port_object port) ports
