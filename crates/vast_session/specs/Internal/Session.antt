-- Beside `specs/Session.antt`: what private contracts and proofs say, and no public one.
use Rattle.std.specs.Prelude.{◌≡◌, ℕ, true, List, length, Option, Some, None, IfSome, is_some, Result, Ok, Err, string_bytes, ⊤}
use Rattle.std.specs.Borrow.{Bor}
use Rattle.vast_script.specs.declared.fault.StepFault.{StepFault}
use Rattle.vast_script.specs.declared.fault.StepFault.TheVariants.{Memory as OutOfMemory}
use Rattle.vast_session.specs.declared.fault.Fault.{Fault}
use Rattle.vast_session.specs.declared.fault.Fault.TheVariants.{Line, Memory}
use Rattle.vast_calls.specs.declared.line.Call.{Call}
use Rattle.vast_session.specs.declared.session.Session.{Session}
use Rattle.vast_calls.specs.declared.names.Named.{Named}
use Rattle.vast_calls.specs.declared.names.Named.TheVariants.{Handle}
use Rattle.vast_calls.specs.declared.questions.Question.{Question}
use Rattle.vast_session.specs.Questions.{Asks}
use Rattle.vast_session.specs.Session.{Calls, IsMade, IsSameKnown, Enters, IsFileLeft, next_number}
use Rattle.vast_calls.specs.Actions.{NamesWord}

-- Refused memory is told as such; any other fault as a line's, unless memory for its words was refused.
abbrev pub IsToldAs : StepFault → Fault → Type 0
IsToldAs OutOfMemory told = told ≡ Memory
IsToldAs _ told = ⊤

-- A line's fault is of the line of this number, names this call, and has this step's number and this cause.
abbrev pub IsToldOf : (number : ℕ) → (name : List ℕ) → (step : Option ℕ) → (cause : Option StepFault) → Fault → Type 0
IsToldOf number name step cause (Line fault) =
    (fault.line ≡ number) × (string_bytes fault.call ≡ name) × (fault.step ≡ step) × (fault.cause ≡ cause)
IsToldOf number name step cause Memory = ⊤

-- The fault of a text that is not in the form.
abbrev pub IsMisread : (named : List ℕ → Option Named) → (number : ℕ) → (text : List ℕ) → Fault → Type 0
IsMisread named number text fault = (name : List ℕ) × NamesWord named text name × IsToldOf number name None None fault

-- The number of what is told, if it is a call.
abbrev pub made_number : Session → (made : Option (Bor Call)) → Option ℕ
made_number session None = None
made_number session (Some call) = Some (next_number session)

-- A line's fault names the call, has its number, and its cause is what became of it.
abbrev pub IsCallFault : (old new : Session) → (name : List ℕ) → Call → Fault → Type 0
IsCallFault old new name call (Line fault) =
    (string_bytes fault.call ≡ name) × (fault.step ≡ Some (next_number old)) × (cause : StepFault) × (fault.cause ≡ Some cause) × Calls old.file new.file old.answers.items (Err cause) call
IsCallFault old new name call Memory = ⊤

-- A line's fault names the question, has no number, and has a cause.
abbrev pub IsAskFault : (number : ℕ) → (name : List ℕ) → Fault → Type 0
IsAskFault number name (Line fault) =
    (fault.line ≡ number) × (string_bytes fault.call ≡ name) × (fault.step ≡ None) × (is_some fault.cause ≡ true)
IsAskFault number name Memory = ⊤

-- The cause of a line's fault, if it has one, is what became of the question.
abbrev pub IsQuestionFault : Session → Question → Fault → Type 0
IsQuestionFault session question (Line fault) = IfSome fault.cause (λ cause. Asks session.file session.answers.items (Err cause) question)
IsQuestionFault session question Memory = ⊤

-- What a call does to a session.
abbrev pub Makes : (old new : Session) → Call → Result (Unit {0}) Fault → Type 0
Makes old new call (Ok done) = IsMade old new call
Makes old new call (Err fault) = IsFileLeft old new fault

-- A call's name stands from now on for the place of its answer.
abbrev pub MakesName : (old new : Session) → (name : Option (List ℕ)) → Result (Unit {0}) Fault → Type 0
MakesName old new name (Ok done) = Enters old new name (Handle (length old.answers.items))
MakesName old new name (Err fault) = IsSameKnown old new
