-- Beside `specs/Linted.antt`: what private contracts and proofs say, and no public one.
use Rattle.std.specs.Prelude.{Result, Ok, Err, Bool, true, false}
use Rattle.vast_session.specs.declared.fault.Fault.{Fault}
use Rattle.vast_session.specs.declared.fault.Fault.TheVariants.{Line, Memory}

-- Memory was refused.
abbrev pub is_memory : {X : Type 0} → Result X Fault → Bool
is_memory (Ok given) = false
is_memory (Err (Line fault)) = false
is_memory (Err Memory) = true
