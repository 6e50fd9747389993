-- Beside `specs/Emits.antt`: what private contracts and proofs say, and no public one.
use Rattle.std.specs.Prelude.{◌≡◌, string_bytes}
use Rattle.vast_literal.specs.declared.error.VastFault.{VastFault}
use Rattle.vast_literal.specs.declared.error.VastFault.TheVariants.{Refused as RefusedBy, Memory as NoMemory}
use Rattle.vast_print.specs.declared.refusal.PrintFault.{PrintFault}
use Rattle.vast_print.specs.declared.refusal.PrintFault.TheVariants.{Refused, Memory}
use Rattle.vast_print.specs.Printed.{refusal_text}

-- a refusal keeps its words, unless memory for them was refused
abbrev pub Faults : PrintFault → VastFault → Type 0
Faults (Refused r) (RefusedBy e) = string_bytes e.0 ≡ refusal_text r
Faults (Memory error) (RefusedBy e) = ⊥
Faults fault (NoMemory e) = Unit {0}
