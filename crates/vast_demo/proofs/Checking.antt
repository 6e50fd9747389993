-- What a check finds, and how it ends.
use Rattle.std.proofs.Common.{◌≡◌, ◌↔◌, ℕ, Bool, true, false, List, Option, Result, Ok, Err, IsTrue, IfOk, codes, refl, subst}
use Rattle.std.specs.Bool.{MatchBool}
use Rattle.std.specs.Prelude.{if◌then◌else◌}
use Rattle.std.specs.Io.KnownBytes.{Appends}
use Rattle.std.specs.declared.alloc.AllocError.{AllocError}
use Rattle.vast_literal.specs.NormalFile.{NormalFile}
use Rattle.vast_literal.specs.FileGrammar.{DerivesFile}
use Rattle.vast_shell.specs.Input.{GivesSome}
use Rattle.vast_shell.specs.Output.{AppendsPart, AppendsFront}
use Rattle.vast_demo.specs.Check.{IsDerivedText, IsAnswer, answer_line, CheckEnds, derived, not_derived, unwritten, unread, refused}

untrue : IsTrue false → ⊥
untrue e = cc e

-- what is decided is what the grammar derives
decided :
    (text : List ℕ) (answer : Bool) → MatchBool answer ((t : NormalFile) × DerivesFile text t) ((t : NormalFile) → DerivesFile text t → ⊥) →
    IsTrue answer ↔ IsDerivedText text
decided text true d = (λ _. d, λ _. refl)
decided text false d = (λ h. absurd (untrue h), λ h. absurd (d h.0 h.1))

pub decided_answer :
    (text : List ℕ) (r : Result Bool AllocError) → IfOk r (λ answer. MatchBool answer ((t : NormalFile) × DerivesFile text t) ((t : NormalFile) → DerivesFile text t → ⊥)) →
    IfOk r (λ answer. IsTrue answer ↔ IsDerivedText text)
decided_answer text (Ok answer) d = decided text answer d
decided_answer text (Err e) d = tt

module _ (before after old : Option (List ℕ)) where
  pub ends_answered :
      (new err : Option (List ℕ)) (answer : Bool) (line : List ℕ) (status : ℕ) → IsAnswer before after answer → line ≡ answer_line answer → Appends old new line → status ≡ (if answer then 0 else 1) →
      CheckEnds before after old new err err status
  ends_answered new err true line status h e w s = rw s (derived h (subst (Appends old new) e w) refl)
  ends_answered new err false line status h e w s = rw s (not_derived h (subst (Appends old new) e w) refl)

  pub ends_unwritten :
      (new untold told : Option (List ℕ)) (answer : Bool) (line : List ℕ) (status : ℕ) → IsAnswer before after answer → line ≡ answer_line answer → AppendsPart old new line →
      AppendsFront untold told (codes "write fault\n") → status ≡ 1 → CheckEnds before after old new untold told status
  ends_unwritten new untold told answer line status h e part front one = rw one (unwritten answer h (subst (AppendsPart old new) e part) front)

  pub ends_unread :
      (untold told : Option (List ℕ)) (status : ℕ) → GivesSome before after → AppendsFront untold told (codes "read fault\n") → status ≡ 1 →
      CheckEnds before after old old untold told status
  ends_unread untold told status h front one = rw one (unread h refl front)

  pub ends_refused :
      (untold told : Option (List ℕ)) (status : ℕ) → GivesSome before after → AppendsFront untold told (codes "out of memory\n") → status ≡ 1 →
      CheckEnds before after old old untold told status
  ends_refused untold told status h front one = rw one (refused h refl front)
