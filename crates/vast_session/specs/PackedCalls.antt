-- What a packed call does to a session.
use Rattle.std.specs.Prelude.{◌≡◌, ◌⊎◌, ℕ, List, Option, Some, None, Result, Ok, Err, string_bytes, ⊤}
use Rattle.vast_script.specs.declared.fault.StepFault.{StepFault}
use Rattle.vast_steps.specs.declared.step.Step.{Step as ScriptStep}
use Rattle.vast_session.specs.declared.fault.Fault.{Fault}
use Rattle.vast_session.specs.declared.fault.Fault.TheVariants.{Line, Memory}
use Rattle.vast_session.specs.declared.fault.LineFault.{LineFault}
use Rattle.vast_calls.specs.declared.helpers.Helper.{Helper as HelperOf}
use Rattle.vast_calls.specs.declared.line.Action.{Action}
use Rattle.vast_calls.specs.declared.line.Action.TheVariants.{Ask, Call as CallAction}
use Rattle.vast_calls.specs.declared.line.Call.{Call}
use Rattle.vast_calls.specs.declared.line.Call.TheVariants.{Step as StepCall, Helper as HelperCall}
use Rattle.vast_session.specs.declared.session.LineResult.{LineResult}
use Rattle.vast_session.specs.declared.session.LineResult.TheVariants.{Nothing, Step, Helper, Answer as Answered}
use Rattle.vast_session.specs.declared.session.Session.{Session}
use Rattle.vast_calls.specs.declared.questions.Question.{Question}
use Rattle.vast_session.specs.declared.questions.answered.Value.{Value}
use Rattle.vast_calls.specs.CallArguments.{Piece, call_pieces}
use Rattle.vast_calls.specs.CallNames.{call_name}
use Rattle.vast_calls.specs.Packed.{ArePacked}
use Rattle.vast_session.specs.Questions.{Asks}
use Rattle.vast_calls.specs.Questions.{question_words}
use Rattle.vast_session.specs.Session.{Calls, IsMade, IsSame, IsSameKnown, next_number}
use Rattle.vast_calls.specs.PackedCalls.{IsCallFront, NamesPacked}

-- The name and the arguments of what is called or asked.
abbrev pub action_words : Action → List ℕ × List Piece
action_words (Ask question) = question_words question
action_words (CallAction call) = (call_name call, call_pieces call)

-- The bytes are this: the number of its name, and its arguments.
abbrev pub IsPackedAction : Session → Action → (bytes : List ℕ) → Type 0
IsPackedAction session action bytes =
    (arguments : List ℕ) × IsCallFront bytes (action_words action).0 arguments × ArePacked session.skipped.items (action_words action).1 arguments

-- The call that the bytes are was made, and has this name; names stand for what they did.
abbrev pub MakesPacked : (old new : Session) → Call → (name bytes : List ℕ) → Type 0
MakesPacked old new call name bytes = (call_name call ≡ name) × IsPackedAction old (CallAction call) bytes × IsMade old new call × IsSameKnown old new

-- The question that the bytes are has this answer, and changes nothing.
abbrev pub AnswersPacked : (old new : Session) → Question → Result Value StepFault → (name bytes : List ℕ) → Type 0
AnswersPacked old new question answer name bytes =
    ((question_words question).0 ≡ name) × IsPackedAction old (Ask question) bytes × Asks old.file old.answers.items answer question × IsSame old new

-- A packed call is a step or a helper, which is made and has the next number, or a question, which is answered.
abbrev pub GivesPacked : (old new : Session) → (bytes : List ℕ) → LineResult → Type 0
GivesPacked old new bytes Nothing = ⊥
GivesPacked old new bytes (Step number name) = (number ≡ next_number old) × (step : ScriptStep) × MakesPacked old new (StepCall step) name.now bytes
GivesPacked old new bytes (Helper number name) = (number ≡ next_number old) × (helper : HelperOf) × MakesPacked old new (HelperCall helper) name.now bytes
GivesPacked old new bytes (Answered name value) = (question : Question) × AnswersPacked old new question (Ok value) name.now bytes

-- Bytes that are no call have neither a cause nor a number.
abbrev pub IsMispacked : (bytes : List ℕ) → LineFault → Type 0
IsMispacked bytes fault = (fault.cause ≡ None) × (fault.step ≡ None) × NamesPacked bytes (string_bytes fault.call)

-- This becomes of what is called or asked, over the answers so far.
abbrev pub FailsBy : (old new : Session) → Action → StepFault → Type 0
FailsBy old new (Ask question) cause = Asks old.file old.answers.items (Err cause) question
FailsBy old new (CallAction call) cause = Calls old.file new.file old.answers.items (Err cause) call

-- Steps and helpers are counted, and questions are not.
abbrev pub action_number : Session → Action → Option ℕ
action_number session (Ask question) = None
action_number session (CallAction call) = Some (next_number session)

-- The fault names what the bytes are, and has its number and its cause.
abbrev pub IsPackedFault : (old new : Session) → (bytes : List ℕ) → LineFault → Type 0
IsPackedFault old new bytes fault =
    (action : Action) × IsPackedAction old action bytes × ((action_words action).0 ≡ string_bytes fault.call) × (fault.step ≡ action_number old action)
    × (cause : StepFault) × (fault.cause ≡ Some cause) × FailsBy old new action cause

-- What is told of a packed call that gave nothing, the call of this number in the input.
abbrev pub IsToldOfPacked : (old new : Session) → (number : ℕ) → (bytes : List ℕ) → Fault → Type 0
IsToldOfPacked old new number bytes (Line fault) = (fault.line ≡ number) × (IsMispacked bytes fault ⊎ IsPackedFault old new bytes fault)
IsToldOfPacked old new number bytes Memory = ⊤
