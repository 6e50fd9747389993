-- The end of a loop, by the transcript of its condition.
use Rattle.std.proofs.Common.{◌≡◌, ◌∙◌, ℕ, List, [], ◌∷◌, Option, Some, None, Result, Ok, Err, IfOk, refl, sym, ap}
use Rattle.std.specs.Prelude.{MatchOption}
use Rattle.vast_literal.specs.NormalExpr.{NormalExpr}
use Rattle.vast_literal.specs.Tokens.{Token}
use Rattle.vast_expressions.specs.Internal.Values.{Value, Tree}
use Rattle.vast_expressions.specs.Phrases.{IsRead}
use Rattle.vast_read.specs.Internal.Bounds.{bound_of}
use Rattle.vast_read.specs.Internal.Readings.{ReadsBound, less_than}
use Rattle.vast_read.specs.Internal.Transcripts.{Written, IsOf, joined, nothing_written, written, entries_of}
use Rattle.vast_read.specs.Internal.Values.{first_tree}
use Rattle.vast_read.proofs.Conditions.{bound_is, reads_bound}

pub added : (old new piece : Written) → old ≡ nothing_written → new ≡ joined old piece → new ≡ piece
added old new piece e h = h ∙ ap (λ v. joined v piece) e

module _ (n : List ℕ) (w : Written) (vs : List Value) (d : NormalExpr) where
  pub condition_of : (x : NormalExpr) → vs ≡ (Tree x ∷ []) → IsOf x w → bound_of n (first_tree vs) ≡ Some d → IsOf (less_than n d) w
  condition_of x q h b = let one : x ≡ less_than n d = sym (ap first_tree q) ∙ bound_is n (first_tree vs) d b in h ∙ ap (λ v. written (entries_of v)) one

  pub ended : {S E : Type 0} (tree : S → NormalExpr) (r : Result (Option S) E) → IsOf (less_than n d) w → bound_of n (first_tree vs) ≡ Some d →
      IfOk r (λ o. (i : List ℕ) (e : NormalExpr) → IsOf (less_than i e) w → MatchOption o ⊥ (λ s. tree s ≡ e)) →
      IfOk r (λ o. (x : NormalExpr) → vs ≡ (Tree x ∷ []) → MatchOption o (bound_of n x ≡ None) (λ s. bound_of n x ≡ Some (tree s)))
  ended tree (Ok None) h b f = λ x q. absurd (f n d h)
  ended tree (Ok (Some s)) h b f = λ x q. sym (ap (λ vs. bound_of n (first_tree vs)) q) ∙ (b ∙ ap (λ v. Some v) (sym (f n d h)))
  ended tree (Err e) h b f = tt

pub bound_read : {S E : Type 0} (tree : S → NormalExpr) (n : List ℕ) (ts us : List Token) (vs : List Value) (x : NormalExpr) (r : Result (Option S) E) → IsRead 0 ts x us → vs ≡ (Tree x ∷ []) →
    IfOk r (λ o. (y : NormalExpr) → vs ≡ (Tree y ∷ []) → MatchOption o (bound_of n y ≡ None) (λ s. bound_of n y ≡ Some (tree s))) → IfOk r (λ o. ReadsBound tree n o ts us)
bound_read tree n ts us vs x (Ok o) i q f = reads_bound {E = NormalExpr} (λ v. v) n ts us tree (Some x) x o i refl (f x q)
bound_read tree n ts us vs x (Err e) i q f = tt
