-- How a line of JSON ends.
use Rattle.std.proofs.Common.{◌≡◌, ℕ, ◌+◌, ◌<◌, length, get_or, take, Bor, true, false, List, ◌++◌, Option, Some, None, String, string_bytes, refl, ap, ◌∙◌}
use Rattle.std.specs.Prelude.{IsTrue, MatchOption, codes}
use Rattle.std.specs.declared.alloc.Global.{Global}
use Rattle.vast_core.specs.FileTree.{tree}
use Rattle.vast_literal.specs.declared.kind.VastFileType.{VastFileType}
use Rattle.vast_list.specs.declared.json_line.Answers.{Answers}
use Rattle.vast_list.specs.declared.output.Verdict.{Verdict}
use Rattle.vast_list.specs.declared.output.Verdict.TheVariants.{Made, Refused, NotInForm}
use Rattle.vast_session.specs.declared.session.Session.{Session}
use Rattle.vast_list.specs.JsonLine.{EndsWithText, IsListJson}
use Rattle.vast_list.specs.Internal.JsonLine.{AnswersOn, AreAnswers, EndsWithSession, maybe_json}
use Rattle.vast_calls.specs.Lines.{BeginsWithDialect, line_texts}
use Rattle.vast_list.specs.Output.{is_made}
use Rattle.vast_list.proofs.Outputs.{lines-next}
use Rattle.vast_session.specs.Session.{IsTextOf}
use Rattle.vast_calls.specs.Written.{meaning}

-- the pieces of the end, one after the other
pub ends_with : (old named told line value : List ℕ) → named ≡ old ++ codes ",\"text\":" → told ≡ named ++ value → line ≡ told ++ codes "}\n" → EndsWithText value line
ends_with old named told line value n t l = (old, l ∙ ap (λ (x : List ℕ). x ++ codes "}\n") (t ∙ ap (λ (x : List ℕ). x ++ value) n))

pub ends_session :
    (verdict : Verdict) (session : Session) (line : List ℕ) (printed : Option (String Global)) → EndsWithText (maybe_json printed) line →
    MatchOption printed (is_made verdict ≡ false) (λ text. (is_made verdict ≡ true) × IsTextOf (tree session.file) (string_bytes text)) → EndsWithSession verdict session line
ends_session Made session line (Some text) e p = (string_bytes text, p.1, e)
ends_session Made session line None e p = absurd (cc p)
ends_session Refused session line None e p = e
ends_session NotInForm session line None e p = e
ends_session Refused session line (Some text) e p = absurd (cc p.0)
ends_session NotInForm session line (Some text) e p = absurd (cc p.0)

pub is_json :
    (verdict : Verdict) (lines behind : List (List ℕ)) (dialect : VastFileType) (answers : Answers) (line : List ℕ) → BeginsWithDialect lines dialect behind → AreAnswers dialect behind answers →
    EndsWithSession verdict answers.session line → (IsTrue (is_made verdict) → IsTrue (is_made answers.told.verdict)) → IsListJson verdict lines line
is_json Made lines behind dialect answers line begun are ends made =
    (ends.0, (dialect, behind, begun, answers.session.file, answers.session.answers.items, meaning answers.session.names, (are (made refl)).0, ends.1), ends.2)
is_json Refused lines behind dialect answers line begun are ends made = ends
is_json NotInForm lines behind dialect answers line begun are ends made = ends

-- Of a list that is not at fault, one line more is taken.
pub answers-next :
    (dialect : VastFileType) (lines : List (ℕ × Bor (List ℕ))) (i : ℕ) (line : ℕ × Bor (List ℕ)) (old new : Answers) → i < length lines → line ≡ get_or lines i line →
    AreAnswers dialect (line_texts (take i lines)) old → AnswersOn old new line.1.now → AreAnswers dialect (line_texts (take (i + 1) lines)) new
answers-next dialect lines i line old new l at are on made =
    lines-next false dialect lines i line old.session new.session l at (are (on.verdict made)) (on.taken made)

pub ruleset endings = (ends_with, ends_session, is_json)
