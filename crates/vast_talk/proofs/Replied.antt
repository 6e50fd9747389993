-- What is replied.
use Rattle.std.proofs.Common.{◌≡◌, ℕ, List, [], ◌++◌, Option, Some, None, Result, Ok, Err, inl, inr, refl, ap, ◌∙◌, Bool, false, IsTrue, sym, ◌↔◌, append_assoc}
use Rattle.std.specs.Prelude.{IfErr, IfOk, codes}
use Rattle.vast_session.specs.declared.fault.Fault.{Fault}
use Rattle.vast_session.specs.declared.fault.Fault.TheVariants.{Line, Memory}
use Rattle.vast_session.specs.declared.session.LineResult.{LineResult}
use Rattle.vast_session.specs.declared.session.Session.{Session}
use Rattle.vast_calls.specs.Lines.{HasKind, NamesDialect, Passed}
use Rattle.vast_session.specs.Replies.{AddsGiven, fault_object, line_front}
use Rattle.vast_session.specs.Session.{IsCausedBy, IsGivenBy, IsNumbered, IsOfLine, NamesCall, Takes}
use Rattle.vast_talk.specs.Replies.{AsksForWarnings, IsTaken, RepliesLinted, RepliesToFirst, RepliesToLine}
use Rattle.vast_talk.specs.Internal.Replies.{AddsAnswer, AddsReply, AddsFault}
use Rattle.vast_talk.specs.Internal.Warnings.{AddsWarningList}
use Rattle.vast_talk.specs.declared.warnings.LineWarning.{LineWarning}

-- What the line gave or its fault stands in a text that was empty, and a line break after it.
pub replied :
    (IsTold : List ℕ → Type 0) (taken : Result (Unit {0}) Fault) (given told reply : List ℕ) → AddsReply [] given taken IsTold → AddsFault given told taken →
    reply ≡ told ++ codes "\n" → (object : List ℕ) × IsTold object × (reply ≡ object ++ codes "\n")
replied IsTold (Ok done) given told reply (object, is, grown) same ended = (object, is, ended ∙ ap (λ (text : List ℕ). text ++ codes "\n") (same ∙ grown))
replied IsTold (Err (Line fault)) given told reply (is, same) grown ended =
    (fault_object fault, is, ended ∙ ap (λ (text : List ℕ). text ++ codes "\n") (grown ∙ ap (λ (text : List ℕ). text ++ fault_object fault) same))
replied IsTold (Err Memory) given told reply adds grown ended = absurd grown

-- A line that is not empty and names no dialect is at fault, and opens no session.
pub first_fault :
    (text : List ℕ) (session : Option Session) (number : ℕ) (line : List ℕ) (fault : Fault) (is_empty : Bool) → session ≡ None → is_empty ≡ false →
    (IsTrue is_empty ↔ HasKind line Passed) → (NamesDialect line → ⊥) → IsOfLine number fault → AddsReply text text (Err fault) (RepliesToFirst session number line)
first_fault text None number line (Line fault) is_empty none full passes no_dialect of_line =
    (inr (fault, (of_line, (λ passed. absurd (cc (sym full ∙ passes.1 passed))), no_dialect), refl), refl)
first_fault text None number line Memory is_empty none full passes no_dialect of_line = tt
first_fault text (Some session) number line fault is_empty none full passes no_dialect of_line = absurd (cc none)

-- A line that a session took.

pub taken_line :
    (old new : Session) (line : List ℕ) (taken : Result LineResult Fault) → Takes old new line taken → IfOk taken (IsGivenBy line) → IfErr taken (IsCausedBy old new line) → IfErr taken (NamesCall old line) →
    IsNumbered old line taken → IfErr taken (λ fault. HasKind line Passed → ⊥) → IsTaken old new line taken
taken_line old new line (Ok given) takes is cause call numbered full = record { takes = takes; given = is; fault = tt; numbered = numbered }
taken_line old new line (Err fault) takes is cause call numbered full = record { takes = takes; given = tt; fault = (full, cause, call); numbered = numbered }

pub replied_fault :
    (old new : Session) (text line : List ℕ) (number : ℕ) (fault : Fault) → IsTaken old new line (Err fault) → IsOfLine number fault → AddsReply text text (Err fault) (RepliesToLine old new number line)
replied_fault old new text line number (Line fault) taken of_line = ((Err (Line fault), taken, (of_line, refl)), refl)
replied_fault old new text line number Memory taken of_line = tt

pub replied_given :
    (old new : Session) (before after line : List ℕ) (number : ℕ) (given : LineResult) → IsTaken old new line (Ok given) → AddsGiven new before after number given → AddsReply before after (Ok tt) (RepliesToLine old new number line)
replied_given old new before after line number given taken (object, is, grown) = (object, (Ok given, taken, is), grown)

-- What is told without warnings is told with a lint, too.
pub told_linted :
    (old new : Session) (text grown line : List ℕ) (number : ℕ) (done : Result (Unit {0}) Fault) → (AsksForWarnings line → ⊥) → AddsReply text grown done (RepliesToLine old new number line) →
    AddsReply text grown done (RepliesLinted old new number line)
told_linted old new text grown line number (Ok done) other (object, is, same) = (object, inr (other, object, is, inl refl), same)
told_linted old new text grown line number (Err (Line fault)) other (is, same) = (inr (other, fault_object fault, is, inl refl), same)
told_linted old new text grown line number (Err Memory) other is = tt

-- The answer to the line that asks for warnings was appended.
pub answered :
    (old opening listed new : List ℕ) (number : ℕ) (warnings : List LineWarning) → opening ≡ old ++ (line_front number ++ codes ",\"call\":\"?Warnings\",\"answer\":") →
    AddsWarningList opening listed warnings → new ≡ listed ++ codes "}" → AddsAnswer old new number
answered old opening listed new number warnings begun (list, are, grown) ended =
    let front = line_front number ++ codes ",\"call\":\"?Warnings\",\"answer\":" in (
      front ++ list ++ codes "}",
      (warnings, list, are, refl),
      ended
          ∙ ap (λ (text : List ℕ). text ++ codes "}") (grown ∙ ap (λ (text : List ℕ). text ++ list) begun ∙ append_assoc old front list)
          ∙ append_assoc old (front ++ list) (codes "}"),
    )

pub ruleset replies = (replied, first_fault)

pub ruleset taken = (taken_line, replied_fault, replied_given)
