-- What the call of a line does.
use Rattle.std.specs.Prelude.{◌≡◌, ◌⊎◌, ℕ, false, List, [], Option, option_copied}
use Rattle.vast_calls.specs.declared.line.Call.{Call}
use Rattle.vast_calls.specs.declared.line.Call.TheVariants.{Step as StepCall, Helper as HelperCall}
use Rattle.vast_calls.specs.declared.line.Action.{Action}
use Rattle.vast_calls.specs.declared.line.Action.TheVariants.{Ask, Call as CallAction}
use Rattle.vast_calls.specs.declared.line.Line.{Line as ReadLine}
use Rattle.vast_calls.specs.declared.names.Named.{Named}
use Rattle.vast_calls.specs.CallArguments.{Piece, call_pieces}
use Rattle.vast_calls.specs.CallNames.{call_name}
use Rattle.vast_calls.specs.Lines.{LineKind, Asked, Helped, Stepped, begins_blank, behind_call, call_word, text_name, word_kind}
use Rattle.vast_calls.specs.Names.{IsFree}
use Rattle.vast_calls.specs.Questions.{question_words}
use Rattle.vast_calls.specs.Written.{AreWritten}

-- What a line is that is this call.
abbrev pub call_kind : Call → LineKind
call_kind (StepCall step) = Stepped
call_kind (HelperCall helper) = Helped

-- What stands before the call of a text is in the form: no blank is at the front, and the name of the answer is free.
abbrev pub IsFront : (named : List ℕ → Option Named) → (text : List ℕ) → Type 0
IsFront named text = (begins_blank text ≡ false) × IsFree named (text_name text)

-- The call's name where what stands before it is in the form, and else none.
abbrev pub NamesWord : (named : List ℕ → Option Named) → (text name : List ℕ) → Type 0
NamesWord named text name = (IsFront named text × (name ≡ call_word text)) ⊎ ((IsFront named text → ⊥) × (name ≡ []))

-- What a call of this name does, of which these are the arguments.
abbrev pub Acts : (AreThese : List Piece → Type 0) → (name : List ℕ) → Action → Type 0
Acts AreThese name (Ask question) = (word_kind name ≡ Asked) × ((question_words question).0 ≡ name) × AreThese (question_words question).1
Acts AreThese name (CallAction call) = (word_kind name ≡ call_kind call) × (call_name call ≡ name) × AreThese (call_pieces call)

-- What a line does whose call has this name and, over the names so far, these arguments.
abbrev pub IsActionOf : (named : List ℕ → Option Named) → (skipped name arguments : List ℕ) → Action → Type 0
IsActionOf named skipped name arguments action = Acts (λ pieces. AreWritten named skipped pieces arguments) name action

-- The text's call has the name that stands in it, and the arguments after that; the name of its answer is free, and no blank
-- stands at its front.
abbrev pub IsRead : (named : List ℕ → Option Named) → (skipped text : List ℕ) → ReadLine → Type 0
IsRead named skipped text line =
    (line.call.now ≡ call_word text) × IsActionOf named skipped line.call.now (behind_call text) line.action × (option_copied line.name ≡ text_name text) × IsFree named (text_name text) × (begins_blank text ≡ false)
