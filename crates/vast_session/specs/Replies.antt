-- What lines give and what is wrong with them, as JSON: each an object. A text is a list of bytes.
use Rattle.std.specs.Prelude.{◌≡◌, ◌⊎◌, ◌==◌, ℕ, ℤ, List, [], ◌++◌, length, codes, slice_get, String, string_bytes, Bool, if◌then◌else◌, Option, Some, None, Ok}
use Rattle.std.specs.Fmt.{decimal, signed_decimal}
use Rattle.std.specs.List.{join_by}
use Rattle.std.specs.declared.alloc.Global.{Global}
use Rattle.vast_core.specs.Bench.{tree_of}
use Rattle.vast_core.specs.declared.handle.Expr.{Expr}
use Rattle.vast_literal.specs.declared.kind.ModulePortDirection.{ModulePortDirection}
use Rattle.vast_literal.specs.declared.kind.ModulePortDirection.TheVariants.{Input, Output, InOut}
use Rattle.vast_print.specs.Emits.{EmitsText}
use Rattle.vast_print.specs.Text.{expr_text}
use Rattle.vast_script.specs.Arguments.{one}
use Rattle.vast_script.specs.Kinds.{an_expr}
use Rattle.vast_script.specs.declared.answer.Answer.TheVariants.{Nothing as NoAnswerMade}
use Rattle.vast_script.specs.declared.fault.StepFault.{StepFault}
use Rattle.vast_script.specs.declared.fault.StepFault.TheVariants.{NoAnswer, WrongKind, Condition, Refused, Memory}
use Rattle.vast_session.specs.declared.fault.LineFault.{LineFault}
use Rattle.vast_session.specs.declared.questions.answered.PortValue.{PortValue}
use Rattle.vast_session.specs.declared.questions.answered.Value.{Value}
use Rattle.vast_session.specs.declared.questions.answered.Value.TheVariants.{Text, Nothing, Truth, Number, Count, Ports}
use Rattle.vast_session.specs.declared.session.LineResult.{LineResult}
use Rattle.vast_session.specs.declared.session.LineResult.TheVariants.{Nothing as Blank, Step, Helper, Answer as Answered}
use Rattle.vast_session.specs.declared.session.Session.{Session}
use Rattle.vast_calls.specs.Json.{json_text}
use Rattle.vast_calls.specs.Written.{IsPlaceOf}

-- A member whose value is a text, after its name as it stands in the object.
abbrev pub text_member : (name content : List ℕ) → List ℕ
text_member name content = name ++ json_text content

-- The number of a step or a helper, if it has one.
abbrev pub step_member : Option ℕ → List ℕ
step_member None = []
step_member (Some step) = codes ",\"step\":" ++ decimal step

abbrev pub call_members : (call : List ℕ) → (step : Option ℕ) → List ℕ
call_members call step = codes ",\"call\":" ++ json_text call ++ step_member step

abbrev pub column_member : Option ℕ → List ℕ
column_member None = []
column_member (Some column) = codes ",\"column\":" ++ decimal column

-- Why a call is not made, in a word.
abbrev pub cause_word : Option StepFault → List ℕ
cause_word None = codes "form"
cause_word (Some NoAnswer) = codes "no answer"
cause_word (Some WrongKind) = codes "kind"
cause_word (Some Condition) = codes "condition"
cause_word (Some (Refused error)) = codes "refused"
cause_word (Some Memory) = codes "memory"

abbrev pub line_front : ℕ → List ℕ
line_front line = codes "{\"line\":" ++ decimal line

-- The call of a fault; one of the file's text has none.
abbrev pub fault_members : LineFault → List ℕ
fault_members fault = if length (string_bytes fault.call) == 0 then [] else call_members (string_bytes fault.call) fault.step

-- Its cause and its words, and the object's end.
abbrev pub reason_members : LineFault → List ℕ
reason_members fault = text_member (codes ",\"cause\":") (cause_word fault.cause) ++ text_member (codes ",\"words\":") (string_bytes fault.words) ++ codes "}"

-- A fault.
abbrev pub fault_object : LineFault → List ℕ
fault_object fault =
    line_front fault.line
    ++ column_member fault.column
    ++ fault_members fault
    ++ reason_members fault

abbrev pub direction_word : ModulePortDirection → List ℕ
direction_word Input = codes "Input"
direction_word Output = codes "Output"
direction_word InOut = codes "InOut"

abbrev pub truth_word : Bool → List ℕ
truth_word b = if b then codes "true" else codes "false"

abbrev pub port_type : (width : ℤ) → (signed : Bool) → List ℕ
port_type width signed = codes ",\"width\":" ++ signed_decimal width ++ codes ",\"signed\":" ++ truth_word signed

abbrev pub port_front : PortValue → List ℕ
port_front port = text_member (codes "{\"name\":") (string_bytes port.name) ++ text_member (codes ",\"direction\":") (direction_word port.direction)

abbrev pub port_end : PortValue → List ℕ
port_end port = text_member (codes ",\"reference\":") (string_bytes port.reference) ++ codes "}"

-- A port, as an object of JSON.
abbrev pub port_object : PortValue → List ℕ
port_object port = port_front port ++ port_type port.width port.signed ++ port_end port

-- What a question answers.
abbrev pub value_json : Value → List ℕ
value_json (Text text) = json_text (string_bytes text)
value_json Nothing = codes "null"
value_json (Truth truth) = truth_word truth
value_json (Number number) = signed_decimal number
value_json (Count count) = decimal count
value_json (Ports ports) = codes "[" ++ join_by port_object (codes ",") ports.items ++ codes "]"

-- The text of what the step or the helper of this number answered: `ok` for nothing, else that of the expression.
abbrev pub IsAnswerText : Session → (number : ℕ) → String Global → Type 0
IsAnswerText session number text =
    (place : ℕ) × IsPlaceOf session.skipped.items number place
    × (((slice_get session.answers.items place ≡ Some NoAnswerMade) × (string_bytes text ≡ codes "ok"))
    ⊎ ((made : Expr) × (one an_expr session.file session.answers.items place ≡ Ok made) × EmitsText (expr_text (tree_of session.file made)) (Ok text)))

-- What stands for the answer of a helper: its text, or nothing where that is refused.
abbrev pub IsHelperJson : Session → (number : ℕ) → List ℕ → Type 0
IsHelperJson session number value = (value ≡ codes "null") ⊎ ((text : String Global) × IsAnswerText session number text × (value ≡ json_text (string_bytes text)))

-- What a line gave.
abbrev pub IsGivenObject : Session → (line : ℕ) → LineResult → (object : List ℕ) → Type 0
IsGivenObject session line Blank object = object ≡ line_front line ++ codes "}"
IsGivenObject session line (Step number call) object = object ≡ line_front line ++ call_members call.now (Some number) ++ codes "}"
IsGivenObject session line (Helper number call) object =
    (value : List ℕ) × IsHelperJson session number value × (object ≡ line_front line ++ call_members call.now (Some number) ++ codes ",\"answer\":" ++ value ++ codes "}")
IsGivenObject session line (Answered call value) object = object ≡ line_front line ++ call_members call.now None ++ codes ",\"answer\":" ++ value_json value ++ codes "}"

-- The text grew by what the line gave.
abbrev pub AddsGiven : Session → (old new : List ℕ) → (line : ℕ) → LineResult → Type 0
AddsGiven session old new line given = (object : List ℕ) × IsGivenObject session line given object × (new ≡ old ++ object)
