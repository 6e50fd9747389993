-- What becomes of a step: it is made, or it is at fault.
use Rattle.std.specs.Prelude.{◌≡◌, ℕ, Bool, true, false, List, Option, Some, None, Result, Ok, Err, ⊤, string_bytes}
use Rattle.vast_core.specs.Bench.{Bench}
use Rattle.vast_script.specs.declared.answer.Answer.{Answer}
use Rattle.vast_script.specs.declared.fault.StepFault.{StepFault}
use Rattle.vast_script.specs.declared.fault.StepFault.TheVariants.{NoAnswer, WrongKind, Condition, Refused, Memory}
use Rattle.vast_script.specs.declared.fault.ScriptFault.{ScriptFault}
use Rattle.vast_script.specs.declared.fault.ScriptFault.TheVariants.{NoAnswer as NoAnswerAt, WrongKind as WrongKindAt, Condition as ConditionAt, Refused as RefusedAt, Memory as ScriptMemory}

-- Why a step is not made: there is no such answer, or it is of another kind, or the call's condition is not met, or the
-- call refuses in these words.
pub data Cause : Type 0 where
  Missing : Cause
  OtherKind : Cause
  NotMet : Cause
  InWords : List ℕ → Cause

-- A step returns this and leaves this bench, or it is at fault and leaves all as it was.
pub data Outcome : Type 0 where
  Made : Answer → Bench → Outcome
  AtFault : Cause → Outcome

-- What becomes of a call, at a bench and over the answers so far.
abbrev pub Call : Type 0
Call = Bench → List Answer → Outcome

-- The call makes this part of the file, and returns its handle.
abbrev pub makes : {H : Type 0} → (H → Answer) → (Bench → H) → (Bench → Bench) → Bench → Outcome
makes answer handle after b = Made (answer (handle b)) (after b)

-- The fault's cause, if it is not memory.
abbrev pub cause_of : StepFault → Option Cause
cause_of NoAnswer = Some Missing
cause_of WrongKind = Some OtherKind
cause_of Condition = Some NotMet
cause_of (Refused e) = Some (InWords (string_bytes e.0))
cause_of Memory = None

abbrev pub FaultOf : Option Cause → Outcome → Type 0
FaultOf None outcome = ⊤
FaultOf (Some cause) outcome = outcome ≡ AtFault cause

-- The code did what becomes of the call, or memory was refused and nothing changed.
abbrev pub Becomes : (old new : Bench) → Result Answer StepFault → Outcome → Type 0
Becomes old new (Ok answer) outcome = outcome ≡ Made answer new
Becomes old new (Err fault) outcome = FaultOf (cause_of fault) outcome × (new ≡ old)

abbrev pub Replays : (old new : Bench) → List Answer → Result Answer StepFault → Call → Type 0
Replays old new answers result call = Becomes old new result (call old answers)

-- Go on with what was looked for, or stop at the fault.
abbrev pub given : {A : Type 0} → Result A Cause → (A → Outcome) → Outcome
given (Err cause) next = AtFault cause
given (Ok x) next = next x

-- Go on where the condition is met.
abbrev pub provided : Bool → Outcome → Outcome
provided false next = AtFault NotMet
provided true next = next

-- Go on where the call's rule allows it.
abbrev pub allowed : {A : Type 0} → Result A (List ℕ) → (A → Outcome) → Outcome
allowed (Err words) next = AtFault (InWords words)
allowed (Ok x) next = next x

-- Go on with what a container holds.
abbrev pub holding : {A : Type 0} → Option A → (A → Outcome) → Outcome
holding None next = AtFault NotMet
holding (Some x) next = next x

abbrev pub at_step : ℕ → StepFault → ScriptFault
at_step i NoAnswer = NoAnswerAt i
at_step i WrongKind = WrongKindAt i
at_step i Condition = ConditionAt i
at_step i (Refused e) = RefusedAt i e
at_step i Memory = ScriptMemory
