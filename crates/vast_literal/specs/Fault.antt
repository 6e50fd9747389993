-- What a call returns that may be refused by name, or for lack of memory.
use Rattle.std.specs.Prelude.{◌≡◌, ℕ, List, Result, Err, IsErr, ⊤, string_bytes}
use Rattle.vast_literal.specs.declared.error.VastFault.{VastFault}
use Rattle.vast_literal.specs.declared.error.VastFault.TheVariants.{Refused, Memory}

-- The fault has this text; nothing is said where memory was refused.
abbrev pub HasText : VastFault → List ℕ → Type 0
HasText (Refused e) message = string_bytes e.0 ≡ message
HasText (Memory _) message = ⊤

-- The fault is the refusal that the rule returns; nothing is said where memory was refused.
abbrev pub RefusedBy : {A : Type 0} → Result A (List ℕ) → VastFault → Type 0
RefusedBy rule (Refused e) = rule ≡ Err (string_bytes e.0)
RefusedBy rule (Memory _) = ⊤

-- The same of a call that wants memory only for a refusal's text.
abbrev pub OnlyRefusedBy : {A : Type 0} → Result A (List ℕ) → VastFault → Type 0
OnlyRefusedBy rule (Refused e) = rule ≡ Err (string_bytes e.0)
OnlyRefusedBy rule (Memory _) = IsErr rule
