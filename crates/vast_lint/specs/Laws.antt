-- Laws of lists that are linted.
use Rattle.std.specs.Prelude.{◌≡◌, List, [], ◌∷◌, fold, Option}
use Rattle.vast_literal.specs.declared.kind.VastFileType.{VastFileType}
use Rattle.vast_steps.specs.declared.step.Step.{Step}
use Rattle.vast_lint.specs.declared.lint.Lint.{Lint}
use Rattle.vast_lint.specs.declared.notes.Note.{Note}
use Rattle.vast_lint.specs.Notes.{noted, told_at_end}
use Rattle.vast_lint.specs.Lint.{NotesAnswer, told_of}

-- The lint notes these answers, one after another.
abbrev pub NotesEach : (old new : Lint) → List (Option Step) → Type 0
NotesEach old new [] = new ≡ old
NotesEach old new (step ∷ steps) = (between : Lint) × NotesAnswer old between step × NotesEach between new steps

-- The notes that a list leaves: each step notes its own answer, and mends earlier ones.
abbrev pub notes_left : List (Option Step) → List Note
notes_left steps = fold noted [] steps

-- The end of a list tells of each answer what its step has noted, unless a later step has mended it.
abbrev pub EndTellsUnmended : Type 0
EndTellsUnmended =
    (dialect : VastFileType) (steps : List (Option Step)) (first last : Lint) →
    first.dialect ≡ dialect → first.answers.items ≡ [] → NotesEach first last steps →
    told_of last ≡ told_at_end dialect 0 (notes_left steps)
