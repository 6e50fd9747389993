-- What the lines of a list build.
use Rattle.std.specs.Prelude.{◌≡◌, ℕ, Bool, true, false, List, [], ◌∷◌, ◌++◌, length, map, Option, None, Ok}
use Rattle.vast_core.specs.Bench.{Bench, start}
use Rattle.vast_core.specs.FileTree.{tree}
use Rattle.vast_literal.specs.declared.kind.VastFileType.{VastFileType}
use Rattle.xlsynth_vast.specs.Registers.{HasUnused}
use Rattle.vast_script.specs.declared.answer.Answer.{Answer}
use Rattle.vast_steps.specs.declared.step.Step.{Step}
use Rattle.vast_script.specs.Script.{Going, run}
use Rattle.vast_calls.specs.declared.line.Call.{Call}
use Rattle.vast_calls.specs.declared.line.Call.TheVariants.{Step as StepCall}
use Rattle.vast_calls.specs.declared.names.Named.{Named}
use Rattle.vast_calls.specs.declared.names.Named.TheVariants.{Handle}
use Rattle.vast_calls.specs.declared.questions.Question.{Question}
use Rattle.vast_session.specs.declared.questions.answered.Value.{Value}
use Rattle.vast_session.specs.declared.session.Session.{Session}
use Rattle.vast_calls.specs.CallArguments.{call_pieces}
use Rattle.vast_calls.specs.CallNames.{call_name}
use Rattle.vast_calls.specs.Lines.{BeginsWithDialect, LineKind, Passed, Asked, Helped, Stepped, call_words, line_arguments, line_kind, line_name, line_word}
use Rattle.vast_calls.specs.Names.{IsEntered}
use Rattle.vast_session.specs.Names.{value_named}
use Rattle.vast_session.specs.Questions.{Asks}
use Rattle.vast_calls.specs.Questions.{IsQuestionOf}
use Rattle.vast_session.specs.Session.{Calls, IsTextOf}
use Rattle.vast_calls.specs.Written.{AreWritten, meaning}

-- Between two calls the file is the same; where lines are taken again that were refused memory, it may have nodes and
-- containers more that no list names.
abbrev pub Between : (again : Bool) → (old new : Bench) → Type 0
Between false old new = new ≡ old
Between true old new = HasUnused old new

-- What lines have led to, one after another: their calls, in order, the file that these built, their answers, and what names
-- stand for.
pub record Reading : Type 0 where
  pub calls : List Call
  pub file : Bench
  pub answers : List Answer
  pub named : List ℕ → Option Named

-- Nothing but the file, as it is between two lines.
abbrev pub IsBetween : (again : Bool) → (old new : Reading) → Type 0
IsBetween again old new = Between again old.file new.file × (new ≡ record old { file = new.file })

-- The line is a call of the name that stands in it, with its arguments over the names so far, and it is made over the answers
-- so far; its own name stands for the place of the call's answer from then on.
abbrev pub ReadsCall : (old new : Reading) → (line : List ℕ) → Type 0
ReadsCall old new line =
    (call : Call) × (answer : Answer) × (call_name call ≡ line_word line) × AreWritten old.named [] (call_pieces call) (line_arguments line)
    × Calls old.file new.file old.answers (Ok answer) call × IsEntered old.named new.named (line_name line) (Handle (length old.answers))
    × (new.calls ≡ old.calls ++ call ∷ []) × (new.answers ≡ old.answers ++ answer ∷ [])

-- The line is a question, with its arguments over the names so far; its name stands from then on for what is answered about the
-- file, over the answers so far, and nothing else changes.
abbrev pub ReadsQuestion : (old new : Reading) → (line : List ℕ) → Type 0
ReadsQuestion old new line =
    (question : Question) × (value : Value) × IsQuestionOf old.named [] question line × Asks old.file old.answers (Ok value) question
    × IsEntered old.named new.named (line_name line) (value_named value) × (new ≡ record old { named = new.named })

-- A line that is passed over changes nothing; a question is no call; a step or a helper is a call.
abbrev pub ReadsLine : LineKind → (old new : Reading) → (line : List ℕ) → Type 0
ReadsLine Passed old new line = new ≡ old
ReadsLine Asked old new line = ReadsQuestion old new line
ReadsLine Helped old new line = ReadsCall old new line
ReadsLine Stepped old new line = ReadsCall old new line

-- The lines, one after another.
abbrev pub ReadsLines : (again : Bool) → (old new : Reading) → (lines : List (List ℕ)) → Type 0
ReadsLines again old new [] = IsBetween again old new
ReadsLines again old new (line ∷ lines) =
    (here : Reading) × (next : Reading) × IsBetween again old here × ReadsLine (line_kind line) here next line × ReadsLines again next new lines

-- No call, a file of the dialect in which nothing was done, and no name that stands for anything.
abbrev pub nothing_read : VastFileType → Reading
nothing_read dialect = record { calls = []; file = start dialect 1; answers = []; named = λ (name : List ℕ). None }

-- The lines' calls build this file of the dialect, these are their answers, and names stand for this after them.
abbrev pub LinesBuild : (again : Bool) → VastFileType → (lines : List (List ℕ)) → Bench → List Answer → (named : List ℕ → Option Named) → Type 0
LinesBuild again dialect lines file answers named =
    (calls : List Call) × ReadsLines again (nothing_read dialect) (record { calls = calls; file = file; answers = answers; named = named }) lines

-- The session is what the lines build; no line was passed over.
abbrev pub HasBuilt : (again : Bool) → VastFileType → (lines : List (List ℕ)) → Session → Type 0
HasBuilt again dialect lines session =
    LinesBuild again dialect lines session.file session.answers.items (meaning session.names) × (session.skipped.items ≡ [])

-- The text is the printed layout of the tree that the list's lines build.
abbrev pub IsListText : (again : Bool) → (lines : List (List ℕ)) → (text : List ℕ) → Type 0
IsListText again lines text =
    (dialect : VastFileType) × (behind : List (List ℕ)) × BeginsWithDialect lines dialect behind × (file : Bench) × (answers : List Answer) × (named : List ℕ → Option Named) × LinesBuild again dialect behind file answers named × IsTextOf (tree file) text

-- The lines' calls have the names that stand in the lines that are steps and helpers, in order, and there are no others.
abbrev pub CallsAreNamed : Type 0
CallsAreNamed =
    (again : Bool) (dialect : VastFileType) (lines : List (List ℕ)) (read : Reading) → ReadsLines again (nothing_read dialect) read lines → map call_name read.calls ≡ call_words lines

-- Where all calls of lines are steps, they build what a replay of these steps builds, and answer the same.
abbrev pub StepsBuildAsReplayed : Type 0
StepsBuildAsReplayed =
    (dialect : VastFileType) (lines : List (List ℕ)) (read : Reading) (steps : List Step) → ReadsLines false (nothing_read dialect) read lines →
    read.calls ≡ map StepCall steps → run (start dialect 1) steps ≡ Going read.answers read.file
