-- What a line of a list does to a session: to its file and the answers so far.
use Rattle.std.specs.Prelude.{◌≡◌, ◌⊎◌, ℕ, ◌+◌, ◌-◌, ◌^◌, List, [], ◌∷◌, ◌++◌, length, min, Option, IfSome, Some, None, Result, Ok, Err, if◌then◌else◌, string_bytes, ⊤}
use Rattle.std.specs.Str.{IsUtf8}
use Rattle.vast_core.specs.Bench.{Bench, start}
use Rattle.vast_core.specs.FileTree.{tree}
use Rattle.vast_literal.specs.Tree.{FileTree}
use Rattle.vast_literal.specs.declared.error.VastError.{VastError}
use Rattle.vast_print.specs.Derived.{FileDerivesIfPlain}
use Rattle.vast_print.specs.Emits.{words_of}
use Rattle.vast_print.specs.Layout.{layout}
use Rattle.vast_print.specs.Page.{print}
use Rattle.vast_script.specs.declared.answer.Answer.{Answer}
use Rattle.vast_script.specs.declared.fault.StepFault.{StepFault}
use Rattle.vast_script.specs.declared.fault.StepFault.TheVariants.{Refused}
use Rattle.vast_steps.specs.declared.step.Step.{Step as ScriptStep}
use Rattle.vast_script.specs.Outcome.{Replays}
use Rattle.vast_script.specs.Script.{call_of}
use Rattle.vast_session.specs.declared.fault.Fault.{Fault}
use Rattle.vast_session.specs.declared.fault.Fault.TheVariants.{Line, Memory}
use Rattle.vast_calls.specs.declared.line.Call.{Call}
use Rattle.vast_calls.specs.declared.line.Call.TheVariants.{Step as StepCall, Helper as HelperCall}
use Rattle.vast_session.specs.declared.session.LineResult.{LineResult}
use Rattle.vast_session.specs.declared.session.LineResult.TheVariants.{Nothing, Step, Helper, Answer as Answered}
use Rattle.vast_session.specs.declared.session.Session.{Session}
use Rattle.vast_calls.specs.declared.names.Named.{Named}
use Rattle.vast_calls.specs.declared.names.Named.TheVariants.{Handle, Skipped}
use Rattle.vast_calls.specs.declared.questions.Question.{Question}
use Rattle.vast_session.specs.declared.questions.answered.Value.{Value}
use Rattle.vast_calls.specs.CallArguments.{call_pieces}
use Rattle.vast_calls.specs.CallNames.{call_name}
use Rattle.vast_session.specs.Helpers.{Helps}
use Rattle.vast_calls.specs.Lines.{Passed, Asked, Helped, Stepped, is_call_line, line_arguments, line_kind, line_name, line_word, without_return}
use Rattle.vast_calls.specs.Names.{IsEntered, IsFree}
use Rattle.vast_session.specs.Names.{value_named}
use Rattle.vast_session.specs.Questions.{Asks}
use Rattle.vast_calls.specs.Questions.{IsQuestionOf}
use Rattle.vast_calls.specs.Written.{AreWritten, meaning}
use Rattle.vast_literal.specs.declared.kind.VastFileType.{VastFileType}
use Rattle.vast_calls.specs.Actions.{call_kind, IsFront}

-- What becomes of a call that is counted: of a step what becomes of it in a replay, of a helper what its equation says.
abbrev pub Calls : (old new : Bench) → List Answer → Result Answer StepFault → Call → Type 0
Calls old new answers result (StepCall step) = Replays old new answers result (call_of step)
Calls old new answers result (HelperCall helper) = Helps old new answers result helper

-- The call was made over the answers so far, and its answer stands after them.
abbrev pub IsMade : (old new : Session) → Call → Type 0
IsMade old new call = (answer : Answer) × Calls old.file new.file old.answers.items (Ok answer) call × (new.answers.items ≡ old.answers.items ++ answer ∷ [])

-- The arguments of the call are written so, over the session's names and the numbers that were passed over.
abbrev pub IsWrittenIn : Session → Call → (arguments : List ℕ) → Type 0
IsWrittenIn session call arguments = AreWritten (meaning session.names) session.skipped.items (call_pieces call) arguments

-- The line's call is this one, with its arguments written so.
abbrev pub IsCallOf : Session → Call → (line : List ℕ) → Type 0
IsCallOf session call line = (call_name call ≡ line_word line) × IsWrittenIn session call (line_arguments line)

-- The line is this step.
abbrev pub IsStepIn : Session → ScriptStep → (line : List ℕ) → Type 0
IsStepIn session step line = (line_kind line ≡ Stepped) × IsCallOf session (StepCall step) line

-- The line is this question.
abbrev pub IsQuestionIn : Session → Question → (line : List ℕ) → Type 0
IsQuestionIn session question line = (line_kind line ≡ Asked) × IsQuestionOf (meaning session.names) session.skipped.items question line

-- The line is a question of which this becomes.
abbrev pub HasAsked : Session → (line : List ℕ) → Result Value StepFault → Type 0
HasAsked session line result = (question : Question) × IsQuestionIn session question line × Asks session.file session.answers.items result question

-- The line is in the form: it is blank or a comment, or the name of its answer stands for nothing so far and it is a question,
-- or a call of its kind.
abbrev pub IsInForm : Session → (line : List ℕ) → Type 0
IsInForm session line =
    (line_kind line ≡ Passed)
    ⊎ (IsFree (meaning session.names) (line_name line) × (((question : Question) × IsQuestionIn session question line) ⊎ ((call : Call) × (line_kind line ≡ call_kind call) × IsCallOf session call line)))

-- A call of this name was made, with these arguments.
abbrev pub HasMade : (old new : Session) → (name arguments : List ℕ) → Type 0
HasMade old new name arguments = (call : Call) × (call_name call ≡ name) × IsMade old new call × IsWrittenIn old call arguments

-- The file and the answers are as before.
abbrev pub IsSameFile : (old new : Session) → Type 0
IsSameFile old new = (new.file ≡ old.file) × (new.answers.items ≡ old.answers.items)

-- Names stand for what they did, and the same numbers are those that were passed over.
abbrev pub IsSameKnown : (old new : Session) → Type 0
IsSameKnown old new = (meaning new.names ≡ meaning old.names) × (new.skipped.items ≡ old.skipped.items)

-- File, answers, names and the numbers that were passed over are as before.
abbrev pub IsSame : (old new : Session) → Type 0
IsSame old new = IsSameFile old new × IsSameKnown old new

-- The name, if there is one, stood for nothing and stands for this from now on, and nothing more was passed over.
abbrev pub Enters : (old new : Session) → (name : Option (List ℕ)) → Named → Type 0
Enters old new name meant = IsEntered (meaning old.names) (meaning new.names) name meant × (new.skipped.items ≡ old.skipped.items)

-- After a fault the file and the answers are as before; where memory was refused, a helper may have left nodes that nothing
-- uses.
abbrev pub IsFileLeft : (old new : Session) → Fault → Type 0
IsFileLeft old new (Line fault) = IsSameFile old new
IsFileLeft old new Memory = (tree new.file ≡ tree old.file) × (new.answers.items ≡ old.answers.items)

-- And names stand for what they did.
abbrev pub IsLeft : (old new : Session) → Fault → Type 0
IsLeft old new fault = IsFileLeft old new fault × IsSameKnown old new

-- A call was made with the line's arguments, and the line's name stands for the place of its answer from now on.
abbrev pub GivesCall : (old new : Session) → (name line : List ℕ) → Type 0
GivesCall old new name line = HasMade old new name (line_arguments line) × Enters old new (line_name line) (Handle (length old.answers.items))

-- The line is a question that has this answer, and changes but what its name stands for, which is the answer from now on.
abbrev pub GivesAnswer : (old new : Session) → (line : List ℕ) → Value → Type 0
GivesAnswer old new line value = HasAsked old line (Ok value) × IsSameFile old new × Enters old new (line_name line) (value_named value)

-- A step or a helper is a call that was made, a question is answered; a comment and a blank line change nothing.
abbrev pub Gives : (old new : Session) → (line : List ℕ) → LineResult → Type 0
Gives old new line Nothing = IsSame old new
Gives old new line (Step number name) = GivesCall old new name.now line
Gives old new line (Helper number name) = GivesCall old new name.now line
Gives old new line (Answered name value) = GivesAnswer old new line value

-- The line is of the kind that gives this, under its call's name.
abbrev pub IsGivenBy : (line : List ℕ) → LineResult → Type 0
IsGivenBy line Nothing = line_kind line ≡ Passed
IsGivenBy line (Step number name) = (line_kind line ≡ Stepped) × (name.now ≡ line_word line)
IsGivenBy line (Helper number name) = (line_kind line ≡ Helped) × (name.now ≡ line_word line)
IsGivenBy line (Answered name value) = (line_kind line ≡ Asked) × (name.now ≡ line_word line)

-- What a line does to a session.
abbrev pub Takes : (old new : Session) → (line : List ℕ) → Result LineResult Fault → Type 0
Takes old new line (Ok given) = Gives old new line given
Takes old new line (Err fault) = IsLeft old new fault

-- The number of the next step or helper: how many there are so far, those that were passed over included.
abbrev pub next_number : Session → ℕ
next_number session = min (length session.answers.items + length session.skipped.items) (2 ^ 64 - 1)

-- The number that is told of a line that gave nothing: of a step or a helper that is in the form the next one, else none.
abbrev pub told_number : Session → (line : List ℕ) → (cause : Option StepFault) → Option ℕ
told_number session line None = None
told_number session line (Some cause) = if is_call_line line then Some (next_number session) else None

-- A step or a helper has the next number, whether it was made or is at fault.
abbrev pub IsNumbered : Session → (line : List ℕ) → Result LineResult Fault → Type 0
IsNumbered session line (Ok Nothing) = ⊤
IsNumbered session line (Ok (Step number name)) = number ≡ next_number session
IsNumbered session line (Ok (Helper number name)) = number ≡ next_number session
IsNumbered session line (Ok (Answered name value)) = ⊤
IsNumbered session line (Err (Line fault)) = fault.step ≡ told_number session line fault.cause
IsNumbered session line (Err Memory) = ⊤

-- A session of the dialect in which nothing was done.
abbrev pub IsNew : VastFileType → Session → Type 0
IsNew dialect session =
    (session.file ≡ start dialect 1) × (session.answers.items ≡ []) × (meaning session.names ≡ (λ (name : List ℕ). None)) × (session.skipped.items ≡ [])

-- A line's fault is told of the line of this number.
abbrev pub IsOfLine : ℕ → Fault → Type 0
IsOfLine number (Line fault) = fault.line ≡ number
IsOfLine number Memory = ⊤

-- The line is a question or a call of which this becomes.
abbrev pub IsCause : (old new : Session) → (line : List ℕ) → StepFault → Type 0
IsCause old new line cause =
    HasAsked old line (Err cause)
    ⊎ ((call : Call) × (line_kind line ≡ call_kind call) × IsCallOf old call line × Calls old.file new.file old.answers.items (Err cause) call)

-- The cause that a line's fault has, if it has one, is true.
abbrev pub IsCausedBy : (old new : Session) → (line : List ℕ) → Fault → Type 0
IsCausedBy old new line (Line fault) = IfSome fault.cause (IsCause old new line)
IsCausedBy old new line Memory = ⊤

-- What stands before the call of a line is in the form, and the line is UTF-8.
abbrev pub IsBegun : Session → (line : List ℕ) → Type 0
IsBegun session line = IsUtf8 (without_return line) × IsFront (meaning session.names) (without_return line)

-- A line's fault names the call that stands in the line, where what stands before it is in the form; else it names none, and
-- has no cause.
abbrev pub NamesCall : Session → (line : List ℕ) → Fault → Type 0
NamesCall session line (Line fault) =
    (IsBegun session line × (string_bytes fault.call ≡ line_word line))
    ⊎ ((IsBegun session line → ⊥) × (fault.cause ≡ None) × (string_bytes fault.call ≡ []))
NamesCall session line Memory = ⊤

-- The numbers that are passed over with a line: that of a step or a helper.
abbrev pub passed_numbers : Session → (line : List ℕ) → List ℕ
passed_numbers session line = if is_call_line line then next_number session ∷ [] else []

-- The line's number is passed over, and its name, if it is free, stands for what was passed over.
pub record IsSkipped (old new : Session) (line : List ℕ) : Type 0 where
  pub numbers : new.skipped.items ≡ old.skipped.items ++ passed_numbers old line
  pub free : IsFree (meaning old.names) (line_name line) → IsEntered (meaning old.names) (meaning new.names) (line_name line) Skipped
  pub taken : (IsFree (meaning old.names) (line_name line) → ⊥) → meaning new.names ≡ meaning old.names

-- A line that is passed over changes neither the file nor the answers, and one that is no UTF-8 nothing at all.
pub record Skips (old new : Session) (line : List ℕ) : Type 0 where
  pub file : IsSameFile old new
  pub known : IsUtf8 (without_return line) → IsSkipped old new line
  pub other : (IsUtf8 (without_return line) → ⊥) → IsSameKnown old new

-- The text is the printed layout of the tree, which nothing refuses; where the file is plain, the grammar derives its normal
-- form from the text, and no other tree.
abbrev pub IsTextOf : FileTree → (text : List ℕ) → Type 0
IsTextOf file text = ((layout file).fault ≡ None) × (text ≡ print (layout file)) × FileDerivesIfPlain text file

-- A line's fault is the first refusal of the layout of the tree, in its words.
abbrev pub IsRefusedText : FileTree → Fault → Type 0
IsRefusedText file (Line fault) =
    (error : VastError) × (fault.cause ≡ Some (Refused error)) × (words_of (layout file).fault ≡ Some (string_bytes error.0)) × (string_bytes fault.words ≡ string_bytes error.0)
IsRefusedText file Memory = ⊤
