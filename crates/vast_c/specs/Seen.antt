-- What C sees of a session, `None` where it is not open.
use Rattle.std.specs.Prelude.{◌≡◌, ℕ, ◌+◌, ◌-◌, ◌^◌, min, ℤ, List, [], ◌∷◌, ◌++◌, length, take, drop, if◌then◌else◌}
use Rattle.std.specs.Prelude.{Option, IfSome, None, Some, String, string_bytes, unwrap_or}
use Rattle.std.specs.Option.{option_map_or}
use Rattle.std.specs.Ordering.{int_eq}
use Rattle.std.specs.declared.alloc.Global.{Global}
use Rattle.vast_core.specs.FileTree.{tree}
use Rattle.vast_literal.specs.declared.kind.VastFileType.{VastFileType}
use Rattle.vast_calls.specs.Lines.{HasKind, Passed}
use Rattle.vast_session.specs.Session.{Gives, IsCausedBy, IsFileLeft, IsGivenBy, IsNew, IsOfLine, IsTextOf}
use Rattle.vast_session.specs.declared.fault.Fault.{Fault}
use Rattle.vast_session.specs.declared.fault.Fault.TheVariants.{Line, Memory as FaultMemory}
use Rattle.vast_session.specs.declared.session.LineResult.{LineResult}
use Rattle.vast_session.specs.declared.session.Session.{Session}
use Rattle.vast_script.specs.declared.fault.StepFault.{StepFault}
use Rattle.vast_script.specs.declared.fault.StepFault.TheVariants.{NoAnswer, WrongKind, Condition as NotMet, Refused as IsRefused, Memory as OutOfMemory}
use Rattle.vast_c.specs.declared.TheConstants.{ANSWER, MESSAGE, WORDS, CALL, FILE, COUNT, LINE, COLUMN, REFUSED, CONDITION, FORM, MEMORY}
use Rattle.vast_c.specs.declared.kept.Cause.{Cause}
use Rattle.vast_c.specs.declared.kept.Cause.TheVariants.{Refused, Condition, Form, Memory}
use Rattle.vast_c.specs.declared.kept.Kept.{Kept}
use Rattle.vast_c.specs.declared.kept.ToldFault.{ToldFault}

-- The file's tree and the answers are as before.
abbrev pub IsSameTree : (before after : Session) → Type 0
IsSameTree before after = IsFileLeft before after FaultMemory

-- so many lines more, as far as they are counted
abbrev pub more_lines : (lines more : ℕ) → ℕ
more_lines lines more = min (lines + more) (2 ^ 64 - 1)

-- The line gave something of its kind.
abbrev pub GaveLine : (before : Session) → (line : List ℕ) → (after : Session) → Type 0
GaveLine before line after = (given : LineResult) × Gives before after line given × IsGivenBy line given

-- Each of the lines gave something, one after another.
abbrev pub Gave : (before : Session) → (lines : List (List ℕ)) → (after : Session) → Type 0
Gave before [] after = after ≡ before
Gave before (line ∷ lines) after = (between : Session) × GaveLine before line between × Gave between lines after

-- The fault is that of the first line: told of this number, with a true cause, and of no blank line or comment.
abbrev pub IsFaultOf : (before after : Session) → (number : ℕ) → (lines : List (List ℕ)) → Fault → Type 0
IsFaultOf before after number [] fault = ⊥
IsFaultOf before after number (line ∷ lines) fault = IsOfLine number fault × IsCausedBy before after line fault × (HasKind line Passed → ⊥)

-- What is told, if anything is, is such a fault.
abbrev pub TellsFault : (before after : Session) → (number : ℕ) → (lines : List (List ℕ)) → Option ToldFault → Type 0
TellsFault before after number lines told = IfSome told (λ t. IsFaultOf before after number lines (Line t.fault))

-- So many of the lines gave what they gave and were counted; since then the session is the same but for what Same leaves
-- out, and what is told, if anything is, is the fault of the next one.
pub record Run (before : Kept) (lines : List (List ℕ)) (taken : ℕ) (Same : Session → Session → Type 0) (after : Kept) : Type 0 where
  pub between : Session
  pub gave : Gave before.session (take taken lines) between
  pub same : Same between after.session
  pub counted : after.lines ≡ more_lines before.lines taken
  pub fault : TellsFault between after.session (more_lines after.lines 1) (drop taken lines) after.told

-- So it was with the session that is open.
abbrev pub Made : Option Kept → (lines : List (List ℕ)) → (taken : ℕ) → (Same : Session → Session → Type 0) → Option Kept → Type 0
Made (Some before) lines taken Same (Some after) = Run before lines taken Same after
Made None lines taken Same None = taken ≡ 0
Made _ lines taken Same _ = ⊥

-- The bytes of a text went to the start of a buffer, as many as it holds, and the text's length is told.
abbrev pub Copied : (text : List ℕ) → (before after : List ℕ) → (told : ℕ) → Type 0
Copied text before after told = (told ≡ length text) × (after ≡ take (length before) text ++ drop (length text) before)

-- That some text was copied.
abbrev pub CopiedSome : (before after : List ℕ) → (told : ℕ) → Type 0
CopiedSome before after told = (text : List ℕ) × Copied text before after told

-- the session
abbrev pub session_in : Option Kept → Option Session
session_in None = None
session_in (Some kept) = Some kept.session

-- how many lines it has taken
abbrev pub lines_in : Option Kept → ℕ
lines_in None = 0
lines_in (Some kept) = kept.lines

-- the last fault, if there is one
abbrev pub told_in : Option Kept → Option ToldFault
told_in None = None
told_in (Some kept) = kept.told

-- the text of this number
abbrev pub text_in : (text : ℤ) → Option Kept → List ℕ
text_in text None = []
text_in text (Some kept) =
    if int_eq text ANSWER then string_bytes kept.answer
    else if int_eq text MESSAGE then option_map_or (λ (told : ToldFault). string_bytes told.message) kept.told []
    else if int_eq text WORDS then option_map_or (λ (told : ToldFault). string_bytes told.fault.words) kept.told []
    else if int_eq text CALL then option_map_or (λ (told : ToldFault). string_bytes told.fault.call) kept.told []
    else if int_eq text FILE then string_bytes kept.file
    else []

-- the number of this number
abbrev pub number_in : (number : ℤ) → Option Kept → ℕ
number_in number None = 0
number_in number (Some kept) =
    if int_eq number COUNT then length kept.session.answers.items
    else if int_eq number LINE then option_map_or (λ (told : ToldFault). told.fault.line) kept.told 0
    else if int_eq number COLUMN then option_map_or (λ (told : ToldFault). unwrap_or told.fault.column 0) kept.told 0
    else 0

-- What a fault's cause is to C: a line that is not in the form has none.
abbrev pub cause_of : Option StepFault → Cause
cause_of None = Form
cause_of (Some NoAnswer) = Condition
cause_of (Some WrongKind) = Condition
cause_of (Some NotMet) = Condition
cause_of (Some (IsRefused error)) = Refused
cause_of (Some OutOfMemory) = Memory

-- the status that tells a cause
abbrev pub status_of : Cause → ℤ
status_of Refused = REFUSED
status_of Condition = CONDITION
status_of Form = FORM
status_of Memory = MEMORY

-- the status of a fault: its cause's; where none is told, memory was refused
abbrev pub status_in : Option Kept → ℤ
status_in kept = option_map_or (λ (told : ToldFault). status_of (cause_of told.fault.cause)) (told_in kept) MEMORY

-- A new session of the dialect is open, with no line, no fault and no text.
abbrev pub IsFresh : VastFileType → Option Kept → Type 0
IsFresh dialect None = ⊥
IsFresh dialect (Some kept) =
    IsNew dialect kept.session × (kept.lines ≡ 0) × (kept.told ≡ None) × (string_bytes kept.answer ≡ []) × (string_bytes kept.file ≡ [])

-- The text is that of the session.
abbrev pub IsPrinted : Session → String Global → Type 0
IsPrinted session file = IsTextOf (tree session.file) (string_bytes file)

-- The text of the open session is kept.
abbrev pub Printed : (before after : Option Kept) → Type 0
Printed (Some before) (Some after) = IsPrinted before.session after.file
Printed _ _ = ⊥
