-- Beside `specs/JsonLine.antt`: what private contracts and proofs say, and no public one.
use Rattle.std.specs.Prelude.{ℕ, false, List, codes, IsTrue, Option, Some, None, String, string_bytes}
use Rattle.std.specs.declared.alloc.Global.{Global}
use Rattle.vast_core.specs.FileTree.{tree}
use Rattle.vast_literal.specs.declared.kind.VastFileType.{VastFileType}
use Rattle.vast_list.specs.declared.json_line.Answers.{Answers}
use Rattle.vast_list.specs.declared.output.Verdict.{Verdict}
use Rattle.vast_list.specs.declared.output.Verdict.TheVariants.{Made, Refused, NotInForm}
use Rattle.vast_session.specs.declared.session.Session.{Session}
use Rattle.vast_list.specs.Built.{HasBuilt}
use Rattle.vast_list.specs.Internal.Built.{TakesLine}
use Rattle.vast_calls.specs.Json.{json_text}
use Rattle.vast_list.specs.Output.{is_made}
use Rattle.vast_session.specs.Session.{IsTextOf}
use Rattle.vast_list.specs.JsonLine.{EndsWithText}

-- A text as JSON has it, or null.
abbrev pub maybe_json : Option (String Global) → List ℕ
maybe_json None = codes "null"
maybe_json (Some text) = json_text (string_bytes text)

-- Where nothing was at fault, that is the session's text; else there is none.
abbrev pub EndsWithSession : Verdict → Session → (line : List ℕ) → Type 0
EndsWithSession Made session line = (text : List ℕ) × IsTextOf (tree session.file) text × EndsWithText (json_text text) line
EndsWithSession Refused session line = EndsWithText (codes "null") line
EndsWithSession NotInForm session line = EndsWithText (codes "null") line

-- Of a list that is not at fault the line is taken.
pub record AnswersOn (old new : Answers) (line : List ℕ) : Type 0 where
  pub verdict : IsTrue (is_made new.told.verdict) → IsTrue (is_made old.told.verdict)
  pub taken : IsTrue (is_made new.told.verdict) → TakesLine false old.session new.session line

-- All lines were taken; without a fault, the file is what they build.
abbrev pub AreAnswers : VastFileType → (lines : List (List ℕ)) → Answers → Type 0
AreAnswers dialect lines answers = IsTrue (is_made answers.told.verdict) → HasBuilt false dialect lines answers.session
