-- What is replied to a line: an object of JSON, and a line break. A text is a list of bytes.
use Rattle.std.specs.Prelude.{◌≡◌, ◌⊎◌, ℕ, ◌==◌, List, ◌++◌, drop, codes, Bool, true, false, Option, Some, None, Result, Ok, Err, IfErr, IfOk}
use Rattle.std.specs.List.{starts_with}
use Rattle.std.specs.Str.Lossy.{utf8_lossy}
use Rattle.vast_literal.specs.declared.kind.VastFileType.{VastFileType}
use Rattle.vast_session.specs.declared.fault.Fault.{Fault}
use Rattle.vast_session.specs.declared.fault.Fault.TheVariants.{Line, Memory}
use Rattle.vast_session.specs.declared.fault.LineFault.{LineFault}
use Rattle.vast_session.specs.declared.session.LineResult.{LineResult}
use Rattle.vast_session.specs.declared.session.Session.{Session}
use Rattle.vast_talk.specs.declared.warnings.LineWarning.{LineWarning}
use Rattle.vast_calls.specs.Lines.{HasKind, NamesDialect, Passed, dialect_word, without_return}
use Rattle.vast_session.specs.Replies.{IsGivenObject, fault_object, line_front, text_member}
use Rattle.vast_session.specs.Session.{IsCausedBy, IsGivenBy, IsNew, IsNumbered, NamesCall, Takes}
use Rattle.vast_talk.specs.Warnings.{IsWarningList}
use Rattle.vast_talk.specs.declared.repl.Repl.{Repl}

-- A line that begins anew.
abbrev pub is_header : List ℕ → Bool
is_header line = starts_with (λ b c. b == c) line (codes "== ")

-- An object of the line's number and a text.
abbrev pub text_object : (line : ℕ) → (name content : List ℕ) → List ℕ
text_object line name content = line_front line ++ text_member name content ++ codes "}"

-- What is told of a line that a session took: what it gave, or its fault.
abbrev pub IsObjectOf : Session → (line : ℕ) → Result LineResult Fault → (object : List ℕ) → Type 0
IsObjectOf session line (Ok given) object = IsGivenObject session line given object
IsObjectOf session line (Err (Line fault)) object = (fault.line ≡ line) × (object ≡ fault_object fault)
IsObjectOf session line (Err Memory) object = ⊥

-- What is told of a line at fault is true: the line is not blank, and the fault's cause and its call are the line's.
abbrev pub IsTrueOf : (old new : Session) → (line : List ℕ) → Fault → Type 0
IsTrueOf old new line fault = (HasKind line Passed → ⊥) × IsCausedBy old new line fault × NamesCall old line fault

-- What comes of a line that a session takes.
pub record IsTaken (old new : Session) (line : List ℕ) (taken : Result LineResult Fault) : Type 0 where
  pub takes : Takes old new line taken
  pub given : IfOk taken (IsGivenBy line)
  pub fault : IfErr taken (IsTrueOf old new line)
  pub numbered : IsNumbered old line taken

-- The session took the line, and the object tells what came of it.
abbrev pub RepliesToLine : (old new : Session) → (number : ℕ) → (line object : List ℕ) → Type 0
RepliesToLine old new number line object =
    (taken : Result LineResult Fault) × IsTaken old new line taken × IsObjectOf new number taken object

-- The object itself, or with a list of warnings as its last member.
abbrev pub IsWarned : (object told : List ℕ) → Type 0
IsWarned object told =
    (told ≡ object)
    ⊎ ((front : List ℕ) × (warnings : List LineWarning) × (list : List ℕ)
    × (object ≡ front ++ codes "}") × IsWarningList warnings list × (told ≡ front ++ codes ",\"warnings\":" ++ list ++ codes "}"))

-- A session with a lint is asked for what the end of the list would tell.
abbrev pub AsksForWarnings : List ℕ → Type 0
AsksForWarnings line = without_return line ≡ codes "?Warnings"

-- The answer is a list of warnings.
abbrev pub IsWarningsAnswer : (number : ℕ) → (object : List ℕ) → Type 0
IsWarningsAnswer number object =
    (warnings : List LineWarning) × (list : List ℕ) × IsWarningList warnings list × (object ≡ line_front number ++ codes ",\"call\":\"?Warnings\",\"answer\":" ++ list ++ codes "}")

-- With a lint the object that tells what came of a line may have warnings; the session does not take the line that asks for them.
abbrev pub RepliesLinted : (old new : Session) → (number : ℕ) → (line told : List ℕ) → Type 0
RepliesLinted old new number line told =
    (AsksForWarnings line × (new ≡ old) × IsWarningsAnswer number told)
    ⊎ ((AsksForWarnings line → ⊥) × (object : List ℕ) × RepliesToLine old new number line object × IsWarned object told)

-- What is told of a line in a session, with a lint or without.
abbrev pub RepliesInSession : (has_lint : Bool) → (old new : Session) → (number : ℕ) → (line object : List ℕ) → Type 0
RepliesInSession false old new number line object = RepliesToLine old new number line object
RepliesInSession true old new number line object = RepliesLinted old new number line object

-- The fault of a line that is neither blank nor a comment and names no dialect.
abbrev pub IsFirstFault : (number : ℕ) → (line : List ℕ) → LineFault → Type 0
IsFirstFault number line fault = (fault.line ≡ number) × (HasKind line Passed → ⊥) × (NamesDialect line → ⊥)

-- Before a session a blank line and a comment give nothing, a dialect opens a new one, and any other line is at fault.
abbrev pub RepliesToFirst : (new : Option Session) → (number : ℕ) → (line object : List ℕ) → Type 0
RepliesToFirst None number line object =
    (HasKind line Passed × (object ≡ line_front number ++ codes "}"))
    ⊎ ((fault : LineFault) × IsFirstFault number line fault × (object ≡ fault_object fault))
RepliesToFirst (Some new) number line object =
    (dialect : VastFileType) × (without_return line ≡ dialect_word dialect) × IsNew dialect new
    × (object ≡ text_object number (codes ",\"dialect\":") (dialect_word dialect))

-- What is told of a line that is no header: before a session, or in one.
abbrev pub RepliesToTaken : (has_lint : Bool) → (old new : Option Session) → (number : ℕ) → (line object : List ℕ) → Type 0
RepliesToTaken has_lint None new number line object = RepliesToFirst new number line object
RepliesToTaken has_lint (Some old) None number line object = ⊥
RepliesToTaken has_lint (Some old) (Some new) number line object = RepliesInSession has_lint old new number line object

-- A header begins anew; any other line is taken.
abbrev pub RepliesTo : (is_header has_lint : Bool) → (old new : Option Session) → (number : ℕ) → (line object : List ℕ) → Type 0
RepliesTo true has_lint old new number line object = (new ≡ None) × (object ≡ text_object number (codes ",\"title\":") (utf8_lossy (drop 3 line)))
RepliesTo false has_lint old new number line object = RepliesToTaken has_lint old new number line object

-- The reply is the object that tells what came of the line, and a line break.
abbrev pub IsReply : (old new : Repl) → (line reply : List ℕ) → Type 0
IsReply old new line reply =
    (object : List ℕ) × RepliesTo (is_header line) old.has_lint old.session new.session new.number line object × (reply ≡ object ++ codes "\n")
