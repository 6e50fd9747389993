-- Beside `specs/Outcome.antt`: what private contracts and proofs say, and no public one.
use Rattle.std.specs.Prelude.{◌≡◌, Result, Ok, Err}
use Rattle.std.specs.declared.alloc.AllocError.{AllocError}
use Rattle.vast_literal.specs.declared.error.VastFault.{VastFault}
use Rattle.vast_literal.specs.declared.error.VastFault.TheVariants.{Refused as CallRefused, Memory as CallMemory}
use Rattle.vast_script.specs.declared.answer.Answer.{Answer}
use Rattle.vast_script.specs.declared.fault.StepFault.{StepFault}
use Rattle.vast_script.specs.declared.fault.StepFault.TheVariants.{Refused, Memory}

abbrev pub of_call : VastFault → StepFault
of_call (CallRefused e) = Refused e
of_call (CallMemory e) = Memory

-- What a call made as an answer, or out of memory.
abbrev pub Wraps : {A : Type 0} → Result A AllocError → Result Answer StepFault → (A → Answer) → Type 0
Wraps (Ok x) result wrap = result ≡ Ok (wrap x)
Wraps (Err error) result wrap = result ≡ Err Memory

abbrev pub WrapsRefusable : {A : Type 0} → Result A VastFault → Result Answer StepFault → (A → Answer) → Type 0
WrapsRefusable (Ok x) result wrap = result ≡ Ok (wrap x)
WrapsRefusable (Err fault) result wrap = result ≡ Err (of_call fault)
