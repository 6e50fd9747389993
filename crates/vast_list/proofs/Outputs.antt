-- What is printed of a list.
use Rattle.std.proofs.Common.{◌≡◌, ℕ, ◌+◌, ◌-◌, ◌<◌, length, get_or, Bool, false, List, [], ◌++◌, take, Option, Some, None, Bor, sym, subst, ◌∙◌}
use Rattle.std.specs.Prelude.{IsTrue, is_some}
use Rattle.vast_literal.specs.declared.kind.VastFileType.{VastFileType}
use Rattle.vast_list.specs.declared.answering.ListRun.{ListRun}
use Rattle.vast_session.specs.declared.session.Session.{Session}
use Rattle.vast_list.specs.declared.tries.Tries.{Tries}
use Rattle.vast_core.specs.Bench.{Bench}
use Rattle.vast_core.specs.FileTree.{tree}
use Rattle.vast_list.specs.declared.output.Verdict.{Verdict}
use Rattle.vast_list.specs.Built.{HasBuilt, IsListText}
use Rattle.vast_list.specs.PackedLists.{IsPackedText, packed_front}
use Rattle.vast_session.specs.Session.{IsNew, IsTextOf}
use Rattle.vast_session.specs.PackedFronts.{RunsAll}
use Rattle.vast_list.specs.Internal.Built.{TakesLine}
use Rattle.vast_session.proofs.Dialects.{texts-more}
use Rattle.vast_list.proofs.Built.{lines-more}
use Rattle.vast_calls.specs.Lines.{BeginsWithDialect, line_texts}
use Rattle.vast_list.specs.Output.{IsOutput, StopsAtFault, is_again, is_made}
use Rattle.vast_list.specs.Internal.Output.{IsAnswered, IsDesign, IsFinished, IsReport, Prints, TakesOn}
use Rattle.vast_calls.specs.Written.{meaning}

-- The lines so far were taken, those after the dialect's.
pub record IsAnswering (tries : Tries) (dialect : VastFileType) (lines : List (List ℕ)) (answering : ListRun) : Type 0 where
  pub trial : is_some answering.trial ≡ is_again tries
  pub stopped : StopsAtFault answering
  pub built : IsAnswered tries dialect lines answering

pub without_title :
    (title : Option (Bor (List ℕ))) (answering : ListRun) (verdict : Verdict) (output : List ℕ) → title ≡ None → IsDesign answering output → IsFinished title answering verdict output
without_title title answering verdict output e t = subst (λ (t : Option (Bor (List ℕ))). IsFinished t answering verdict output) (sym e) t

pub with_title :
    (title : Option (Bor (List ℕ))) (words : Bor (List ℕ)) (answering : ListRun) (verdict : Verdict) (output : List ℕ) → title ≡ Some words → IsReport words.now answering verdict output →
    IsFinished title answering verdict output
with_title title words answering verdict output e b = subst (λ (t : Option (Bor (List ℕ))). IsFinished t answering verdict output) (sym e) b

pub ruleset titles = (without_title, with_title)

-- The file is what the list's lines build.
pub list_text :
    (tries : Tries) (lines behind : List (List ℕ)) (dialect : VastFileType) (answering : ListRun) (text : List ℕ) → BeginsWithDialect lines dialect behind → IsAnswered tries dialect behind answering →
    IsTrue (is_made answering.told.verdict) → IsTextOf (tree answering.session.file) text → IsListText (is_again tries) lines text
list_text tries lines behind dialect answering text begun answered made is =
    (dialect, behind, begun, answering.session.file, answering.session.answers.items, meaning answering.session.names, (answered made).0, is)

pub is_output :
    (tries : Tries) (title : Option (Bor (List ℕ))) (lines behind : List (List ℕ)) (dialect : VastFileType) (answering : ListRun) (verdict : Verdict) (output : List ℕ) → BeginsWithDialect lines dialect behind →
    IsAnswered tries dialect behind answering → IsFinished title answering verdict output → IsOutput tries title lines verdict output
is_output tries (Some title) lines behind dialect answering verdict output begun answered (rest, is, ends) =
    (rest, is, λ made. let end = ends made in (end.1.0, end.1.1, list_text tries lines behind dialect answering end.1.1 begun answered end.0 end.1.2, end.1.3))
is_output tries None lines behind dialect answering verdict output begun answered finished = list_text tries lines behind dialect answering output begun answered finished.0 finished.1

pub ruleset outputs = (is_output)

-- The file is what a packed list's calls build.
pub packed_text :
    (input calls : List ℕ) (dialect : VastFileType) (first last now : Session) (text : List ℕ) → input ≡ packed_front dialect ++ calls → IsNew dialect first → RunsAll first last calls → now.file ≡ last.file →
    IsTextOf (tree now.file) text → IsPackedText input text
packed_text input calls dialect first last now text is new runs same t =
    (dialect, calls, runs.0, first, last, is, new, runs.1, subst (λ (file : Bench). IsTextOf (tree file) text) same t)

pub lines-next :
    (again : Bool) (dialect : VastFileType) (lines : List (ℕ × Bor (List ℕ))) (i : ℕ) (line : ℕ × Bor (List ℕ)) (old new : Session) → i < length lines → line ≡ get_or lines i line →
    HasBuilt again dialect (line_texts (take i lines)) old → TakesLine again old new line.1.now → HasBuilt again dialect (line_texts (take (i + 1) lines)) new
lines-next again dialect lines i line old new l at h takes = rw (texts-more lines i line l at) (lines-more again dialect (line_texts (take i lines)) line.1.now old new h takes)

-- Of a list that is not at fault, one line more is taken.
answered-next :
    (tries : Tries) (dialect : VastFileType) (lines : List (ℕ × Bor (List ℕ))) (i : ℕ) (line : ℕ × Bor (List ℕ)) (old new : ListRun) → i < length lines →
    line ≡ get_or lines i line → is_some old.trial ≡ is_again tries → StopsAtFault old → IsAnswered tries dialect (line_texts (take i lines)) old → TakesOn old new line.1.now →
    IsAnswered tries dialect (line_texts (take (i + 1) lines)) new
answered-next tries dialect lines i line old new l at trial stops built on made =
    let takes = subst (λ (again : Bool). TakesLine again old.session new.session line.1.now) trial (on.taken stops made) in
    lines-next (is_again tries) dialect lines i line old.session new.session l at (built (on.verdict made)) takes

pub answering-next :
    (tries : Tries) (dialect : VastFileType) (lines : List (ℕ × Bor (List ℕ))) (i : ℕ) (line : ℕ × Bor (List ℕ)) (old new : ListRun) → i < length lines →
    line ≡ get_or lines i line → IsAnswering tries dialect (line_texts (take i lines)) old → TakesOn old new line.1.now → IsAnswering tries dialect (line_texts (take (i + 1) lines)) new
answering-next tries dialect lines i line old new l at so on = record {
  trial = on.trial ∙ so.trial;
  stopped = on.stopped so.stopped;
  built = answered-next tries dialect lines i line old new l at so.trial so.stopped so.built on;
}

pub answering-none :
    (tries : Tries) (dialect : VastFileType) (answering : ListRun) → is_some answering.trial ≡ is_again tries → answering.is_stopped ≡ false → ((again : Bool) → HasBuilt again dialect [] answering.session) →
    IsAnswering tries dialect [] answering
answering-none tries dialect answering trial going built = record { trial = trial; stopped = λ stops. absurd (cc (sym going ∙ stops)); built = λ _. built (is_again tries) }

pub next-printed : (old now new : ListRun) → Prints old now → Prints now new → Prints old new
next-printed old now new p q = record { session = q.session ∙ p.session; trial = q.trial ∙ p.trial; report = q.report ∙ p.report; stopped = q.stopped ∙ p.stopped; verdict = λ made. p.verdict (q.verdict made) }

pub ruleset printing = (next-printed)
