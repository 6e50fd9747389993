-- Beside `specs/Output.antt`: what private contracts and proofs say, and no public one.
use Rattle.std.specs.Prelude.{◌≡◌, ℕ, is_some, List, ◌++◌, Option, Some, None, IsTrue}
use Rattle.std.specs.Borrow.{Bor}
use Rattle.vast_core.specs.FileTree.{tree}
use Rattle.vast_literal.specs.declared.kind.VastFileType.{VastFileType}
use Rattle.vast_list.specs.declared.answering.ListRun.{ListRun}
use Rattle.vast_list.specs.declared.output.Verdict.{Verdict}
use Rattle.vast_session.specs.declared.session.Session.{Session}
use Rattle.vast_list.specs.declared.tries.Tries.{Tries}
use Rattle.vast_list.specs.Built.{HasBuilt}
use Rattle.vast_list.specs.Internal.Built.{TakesLine}
use Rattle.vast_session.specs.Session.{IsTextOf}
use Rattle.vast_list.specs.Output.{StopsAtFault, header_line, is_again, is_made}

-- What is printed and told goes on; the session is the same, and what was at fault stays so.
pub record Prints (old new : ListRun) : Type 0 where
  pub session : new.session ≡ old.session
  pub trial : is_some new.trial ≡ is_some old.trial
  pub report : is_some new.report ≡ is_some old.report
  pub stopped : new.is_stopped ≡ old.is_stopped
  pub verdict : IsTrue (is_made new.told.verdict) → IsTrue (is_made old.told.verdict)

-- Of a list that is not at fault, the line is taken.
pub record TakesOn (old new : ListRun) (line : List ℕ) : Type 0 where
  pub trial : is_some new.trial ≡ is_some old.trial
  pub stopped : StopsAtFault old → StopsAtFault new
  pub verdict : IsTrue (is_made new.told.verdict) → IsTrue (is_made old.told.verdict)
  pub taken : StopsAtFault old → IsTrue (is_made new.told.verdict) → TakesLine (is_some old.trial) old.session new.session line

-- Nothing of the list was at fault, and the text is its file's.
abbrev pub IsDesign : ListRun → (output : List ℕ) → Type 0
IsDesign answering output = IsTrue (is_made answering.told.verdict) × IsTextOf (tree answering.session.file) output

-- The text of the session's file stands at the end.
abbrev pub EndsWithFile : Session → (output : List ℕ) → Type 0
EndsWithFile session output = (front : List ℕ) × (text : List ℕ) × IsTextOf (tree session.file) text × (output ≡ front ++ text)

-- The header and what stands after it; where nothing was at fault, the text of the file at the end.
abbrev pub IsReport : (title : List ℕ) → ListRun → Verdict → (output : List ℕ) → Type 0
IsReport title answering verdict output =
    (behind : List ℕ) × (output ≡ header_line title ++ behind) × (IsTrue (is_made verdict) → IsTrue (is_made answering.told.verdict) × EndsWithFile answering.session behind)

-- What is printed of the list whose lines were taken.
abbrev pub IsFinished : Option (Bor (List ℕ)) → ListRun → Verdict → (output : List ℕ) → Type 0
IsFinished (Some title) answering verdict output = IsReport title.now answering verdict output
IsFinished None answering verdict output = IsDesign answering output

-- All lines were taken, those after the dialect's; without a fault, the file is what they build.
abbrev pub IsAnswered : Tries → VastFileType → (lines : List (List ℕ)) → ListRun → Type 0
IsAnswered tries dialect lines answering = IsTrue (is_made answering.told.verdict) → HasBuilt (is_again tries) dialect lines answering.session
