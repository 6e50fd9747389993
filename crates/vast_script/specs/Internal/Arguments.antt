-- Beside `specs/Arguments.antt`: what private contracts and proofs say, and no public one.
use Rattle.std.specs.Prelude.{◌≡◌, List, Vec, Option, Result, Ok, Err}
use Rattle.std.specs.declared.alloc.Global.{Global}
use Rattle.vast_script.specs.declared.fault.StepFault.{StepFault}
use Rattle.vast_script.specs.Outcome.{Cause, cause_of}
use Rattle.vast_script.specs.Arguments.{IsCause}

abbrev pub FindsWithAll : {A B : Type 0} → Result (A × Vec B Global) StepFault → Result (A × List B) Cause → Type 0
FindsWithAll (Ok p) looked = looked ≡ Ok (p.0, p.1.items)
FindsWithAll (Err fault) looked = IsCause (cause_of fault) looked

abbrev pub FindsOpen : {A : Type 0} → Result (Vec A Global × Vec (Option A) Global) StepFault → Result (List A × List (Option A)) Cause → Type 0
FindsOpen (Ok p) looked = looked ≡ Ok (p.0.items, p.1.items)
FindsOpen (Err fault) looked = IsCause (cause_of fault) looked
