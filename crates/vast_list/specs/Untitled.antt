-- A list without a title whose lines are taken as they come.
use Rattle.std.specs.Prelude.{◌≡◌, ℕ, List, [], ◌∷◌, ◌++◌, All, IfSome, IsTrue, false, is_some}
use Rattle.vast_literal.specs.declared.kind.VastFileType.{VastFileType}
use Rattle.vast_list.specs.declared.answering.ListRun.{ListRun}
use Rattle.vast_list.specs.declared.output.ListOutput.{ListOutput}
use Rattle.vast_list.specs.declared.untitled.Stage.{Stage}
use Rattle.vast_list.specs.declared.untitled.Stage.TheVariants.{Before, Behind, Astray}
use Rattle.vast_list.specs.declared.untitled.UntitledList.{UntitledList}
use Rattle.vast_list.specs.Built.{HasBuilt, IsListText}
use Rattle.vast_calls.specs.Lines.{BeginsWithDialect, HasKind, NamesDialect, Passed, line_kind}
use Rattle.vast_list.specs.Output.{StopsAtFault, is_made}

-- The lines name a dialect, and the session is what those after it build.
abbrev pub IsBuiltBy : (lines : List (List ℕ)) → ListRun → Type 0
IsBuiltBy lines answering =
    (dialect : VastFileType) × (behind : List (List ℕ)) × BeginsWithDialect lines dialect behind × HasBuilt false dialect behind answering.session

-- Lines are taken once, and where a call was refused they are at fault; where nothing of them was, they built the session.
pub record HasAnswered (lines : List (List ℕ)) (answering : ListRun) : Type 0 where
  pub trial : is_some answering.trial ≡ false
  pub stopped : StopsAtFault answering
  pub built : IsTrue (is_made answering.told.verdict) → IsBuiltBy lines answering

-- The first line that is neither blank nor a comment names no dialect.
abbrev pub NameNoDialect : (lines : List (List ℕ)) → Type 0
NameNoDialect lines =
    (passed : List (List ℕ)) × (line : List ℕ) × (behind : List (List ℕ)) × All (λ l. line_kind l ≡ Passed) passed × (HasKind line Passed → ⊥) × (NamesDialect line → ⊥) × (lines ≡ passed ++ line ∷ behind)

-- These lines led to this.
abbrev pub HaveLedTo : (lines : List (List ℕ)) → Stage → Type 0
HaveLedTo lines Before = All (λ line. line_kind line ≡ Passed) lines
HaveLedTo lines (Behind answering) = HasAnswered lines answering
HaveLedTo lines (Astray fault) = NameNoDialect lines

-- The lines of the list so far are these.
abbrev pub HasTaken : (lines : List (List ℕ)) → UntitledList → Type 0
HasTaken lines list = HaveLedTo lines list.stage

-- Whatever the lines before were, this is one more.
abbrev pub GoesOnTo : (old new : UntitledList) → (line : List ℕ) → Type 0
GoesOnTo old new line = (lines : List (List ℕ)) → HasTaken lines old → HasTaken (lines ++ line ∷ []) new

-- Whatever its lines were, what is printed is the text that they build, and nothing else.
abbrev pub IsPrintedOf : UntitledList → ListOutput → Type 0
IsPrintedOf list made = (lines : List (List ℕ)) → HasTaken lines list → IfSome made.output (λ output. IsListText false lines output.items)
