-- The condition of a loop, by the expression that was read.
use Rattle.std.proofs.Common.{◌≡◌, ◌∙◌, ℕ, cond, Bool, true, false, bytes_eq, List, Option, Some, None, refl, sym, ap, subst}
use Rattle.std.proofs.lemmas.Option.{same_Some}
use Rattle.std.proofs.lemmas.Slice.Eq.{bytes_eq-Decides}
use Rattle.std.specs.Prelude.{MatchOption}
use Rattle.vast_literal.specs.NormalExpr.{NormalExpr, Name, Binary}
use Rattle.vast_literal.specs.Tokens.{Token}
use Rattle.vast_literal.specs.declared.token.Sign.TheVariants.{Less}
use Rattle.vast_expressions.specs.Phrases.{IsRead}
use Rattle.vast_read.specs.Internal.Bounds.{bound_of}
use Rattle.vast_read.specs.Internal.Readings.{IsUnbound, ReadsBound, ReadsTree, less_than}

bound_gives : (i : List ℕ) (e : NormalExpr) → bound_of i (less_than i e) ≡ Some e
unfolding bound_of
bound_gives i e = subst (λ b. cond b (Some e) None ≡ Some e) (sym ((bytes_eq-Decides i i).1 refl)) refl

pub bound_is : (i : List ℕ) (x e : NormalExpr) → bound_of i x ≡ Some e → x ≡ less_than i e
unfolding bound_of
bound_is i (Binary Less (Name j) e) d h = go (bytes_eq i j) refl h
  where
    go : (b : Bool) → bytes_eq i j ≡ b → cond b (Some e) None ≡ Some d → Binary Less (Name j) e ≡ less_than i d
    go true same f = let name : i ≡ j = (bytes_eq-Decides i j).0 same in let end : e ≡ d = same_Some _ _ f in cc (name, end)
    go false same f = absurd (cc f)
bound_is i _ d h = absurd (cc h)

module _ {E : Type 0} (denotes : E → NormalExpr) (i : List ℕ) (ts us : List Token) where
  -- none was read
  pub nothing_bound : (o : Option E) → ReadsTree denotes 0 o ts us → o ≡ None → IsUnbound i ts
  nothing_bound o r e = λ fs rest x s w q. subst (λ v. ReadsTree denotes 0 v ts us) e r fs rest (less_than i x) s w q

  pub reads_bound : {F : Type 0} (ends : F → NormalExpr) (o : Option E) (x : E) (b : Option F) → ReadsTree denotes 0 o ts us → o ≡ Some x →
      MatchOption b (bound_of i (denotes x) ≡ None) (λ e. bound_of i (denotes x) ≡ Some (ends e)) → ReadsBound ends i b ts us
  reads_bound ends o x None r e m = λ fs rest y s w q.
      let read : IsRead 0 ts (denotes x) us = subst (λ v. ReadsTree denotes 0 v ts us) e r in
      let same : less_than i y ≡ denotes x = (read.same fs rest (less_than i y) s w q).0 in
      let none : Some y ≡ None = sym (bound_gives i y) ∙ (ap (bound_of i) same ∙ m) in absurd (cc none)
  reads_bound ends o x (Some f) r e m =
      let read : IsRead 0 ts (denotes x) us = subst (λ v. ReadsTree denotes 0 v ts us) e r in
      subst (λ t. IsRead 0 ts t us) (bound_is i (denotes x) (ends f) m) read

pub ruleset conditions = (nothing_bound, reads_bound)
