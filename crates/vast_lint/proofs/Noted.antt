-- Lists of answers that a lint notes.
use Rattle.std.proofs.Common.{◌≡◌, ℕ, zero, suc, ◌≤◌, List, [], ◌∷◌, length, map, Option, refl, ap, ◌∙◌, arith}
use Rattle.std.specs.List.{fold}
use Rattle.vast_core.specs.Records.{changed_at}
use Rattle.vast_steps.specs.declared.step.Step.{Step}
use Rattle.vast_lint.specs.declared.lint.Lint.{Lint}
use Rattle.vast_lint.specs.declared.notes.Note.{Note}
use Rattle.vast_lint.specs.Notes.{notes, noted}
use Rattle.vast_lint.specs.Laws.{NotesEach, notes_left, EndTellsUnmended}

-- The notes after a list are those of its answers, one after another.
notes-after : (old new : Lint) (steps : List (Option Step)) → NotesEach old new steps → notes new.answers.items ≡ fold noted (notes old.answers.items) steps
notes-after old new [] h = ap (λ (l : Lint). notes l.answers.items) h
notes-after old new (step ∷ steps) h = notes-after h.0 new steps h.2 ∙ ap (λ (ns : List Note). fold noted ns steps) h.1.notes

dialect-after : (old new : Lint) (steps : List (Option Step)) → NotesEach old new steps → new.dialect ≡ old.dialect
dialect-after old new [] h = ap (λ (l : Lint). l.dialect) h
dialect-after old new (step ∷ steps) h = dialect-after h.0 new steps h.2 ∙ h.1.dialect

pub end_tells_unmended : EndTellsUnmended
end_tells_unmended dialect steps first last same none each =
    let spoken : last.dialect ≡ dialect = dialect-after first last steps each ∙ same in
    let left : notes last.answers.items ≡ notes_left steps =
    notes-after first last steps each ∙ ap (λ answers. fold noted (notes answers) steps) none in
    rw (spoken, left)

-- Nothing is changed after the end of a list.
pub changed-past : {A B : Type 0} (v : A → B) (f : B → B) (xs : List A) (i : ℕ) → length xs ≤ i → map v xs ≡ changed_at i f (map v xs)
changed-past v f [] i past = refl
changed-past v f (x ∷ xs) zero past = absurd (omega arith)
changed-past v f (x ∷ xs) (suc i) past = ap (λ ys. v x ∷ ys) (changed-past v f xs i (omega arith))
