-- What is found of two texts, by what is told of them.
use Rattle.std.proofs.Common.{◌≡◌, ◌⊎◌, inl, inr, ℕ, List, [], Bool, true, false, Option, Some, None, sym, ap, subst, ◌∙◌}
use Rattle.vast_literal.specs.FileGrammar.{DerivesFile}
use Rattle.vast_literal.specs.NormalFile.{NormalFile}
use Rattle.vast_rows.proofs.Builds.{trace_is_one}
use Rattle.vast_rows.proofs.OneEach.{file_once}
use Rattle.vast_rows.specs.Trace.{trace}
use Rattle.vast_read.specs.Compared.{Compares, IsOneFile}
use Rattle.vast_read.specs.Internal.Compared.{IsToldOf, IsFollowed}
use Rattle.vast_read.specs.Internal.Transcripts.{written, entries}
use Rattle.vast_read.specs.declared.same.Comparison.{Comparison}
use Rattle.vast_read.specs.declared.same.Comparison.TheVariants.{Same, Different, OldUnderived, NewUnderived}
use Rattle.vast_read.specs.declared.transcript.Transcript.{Transcript}
use Rattle.vast_read.proofs.TextDecides.{text_derives, text_without_file}
use Rattle.vast_read.proofs.Transcripts.{one_writing}

module _ (old new : List ℕ) (o : Option Transcript) (told : Transcript) (n : Option Bool) where
  pub same_found : IsToldOf old o → o ≡ Some told → IsFollowed new told n → n ≡ Some true → Compares Same old new
  same_found d f e g =
      let x = subst (IsToldOf old) f d in let y = subst (IsFollowed new told) g e in
      let one : x.0 ≡ y.0 = trace_is_one x.0 y.0 (one_writing (trace x.0 []) (trace y.0 []) (sym x.2 ∙ y.2)) in
      (x.0, text_derives old x.0 x.1, subst (DerivesFile new) (sym one) (text_derives new y.0 y.1))

  pub different_found : IsToldOf old o → o ≡ Some told → IsFollowed new told n → n ≡ Some false → Compares Different old new
  different_found d f e g =
      let x = subst (IsToldOf old) f d in let y = subst (IsFollowed new told) g e in
      let i : DerivesFile old x.0 = text_derives old x.0 x.1 in let j : DerivesFile new y.0 = text_derives new y.0 y.1 in
      ((x.0, i), (y.0, j), λ z a b. y.2 (x.2 ∙ ap (λ (v : NormalFile). written (entries (trace v []))) (file_once old x.0 z i a ∙ file_once new z y.0 b j)))

pub old_fileless : (old : List ℕ) (o : Option Transcript) → IsToldOf old o → o ≡ None → (t : NormalFile) → DerivesFile old t → ⊥
old_fileless old o d f = text_without_file old (subst (IsToldOf old) f d)

pub new_fileless : (new : List ℕ) (told : Transcript) (n : Option Bool) → IsFollowed new told n → n ≡ None → (t : NormalFile) → DerivesFile new t → ⊥
new_fileless new told n e g = text_without_file new (subst (IsFollowed new told) g e)

-- There are no two files, where one is derived from both texts, or none from one of them.

module _ (old new : List ℕ) (c : Comparison) (compared : Compares c old new) where
  pub one_of_both : c ≡ Same → IsOneFile old new
  one_of_both e u v d f = let s = subst (λ (k : Comparison). Compares k old new) e compared in file_once old u s.0 d s.1 ∙ file_once new s.0 v s.2 f

  pub none_of_one : (c ≡ OldUnderived) ⊎ (c ≡ NewUnderived) → IsOneFile old new
  none_of_one (inl e) u v d f = absurd (subst (λ (k : Comparison). Compares k old new) e compared u d)
  none_of_one (inr e) u v d f = absurd (subst (λ (k : Comparison). Compares k old new) e compared v f)
