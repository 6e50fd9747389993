-- A tree that was made of its events is the one that was read.
use Rattle.std.proofs.Common.{◌≡◌, ◌∙◌, ℕ, List, [], ◌∷◌, ◌++◌, Bool, true, Option, Some, None, refl, sym, ap, subst}
use Rattle.std.specs.Prelude.{MatchOption}
use Rattle.vast_literal.specs.NormalExpr.{NormalExpr, NoNormals, MoreNormals}
use Rattle.vast_literal.specs.Tokens.{Token}
use Rattle.vast_expressions.specs.Phrases.{IsRead}
use Rattle.vast_expressions.specs.Reading.{Reads}
use Rattle.vast_expressions.specs.Internal.Values.{Value, Tree, joined, take_tree}
use Rattle.vast_expressions.proofs.Heard.{Hears, heard_one}
use Rattle.vast_read.specs.Internal.Readings.{ReadsTree}
use Rattle.vast_read.specs.Internal.Values.{first_tree, told, told_step}
use Rattle.vast_read.specs.declared.build.unbuilt.Shadow.TheFolds.{fold-roll-Shadow}
use Rattle.vast_read.specs.declared.build.unbuilt.Shadow.TheOpen.{Shadow-F}
use Rattle.vast_read.specs.declared.build.unbuilt.Shadow.TheVariants.{Nothing, rolls-Nothing}
use Rattle.vast_read.specs.View.{view, listed}
use Rattle.vast_read.specs.declared.tree.expression.NormalExpr.{NormalExpr as Code}

-- One more tree at the end of a list.
pub listed_more : (xs : List Code) (x : Code) → listed (xs ++ x ∷ []) ≡ joined (listed xs) (MoreNormals (view x) NoNormals)
unfolding joined
listed_more [] x = refl
listed_more (y ∷ ys) x = ap (MoreNormals (view y)) (listed_more ys x)

module _ {A : Type 0} (denoted : A → List Value) (k : ℕ) (ts us : List Token) (a c : A) where
  grown : Reads (Hears denoted) k ts a true us c → denoted a ≡ [] → (t : NormalExpr) × IsRead k ts t us × (denoted c ≡ (Tree t ∷ []))
  grown (t, r, h) n = (t, r, heard_one denoted t a c h ∙ ap (λ vs. Tree t ∷ vs) n)

  pub grown_read : {E : Type 0} (denotes : E → NormalExpr) (b : Bool) (o : Option E) → Reads (Hears denoted) k ts a b us c → b ≡ true → denoted a ≡ [] →
      MatchOption o (take_tree (denoted c) ≡ None) (λ x. first_tree (denoted c) ≡ denotes x) → ReadsTree denotes k o ts us
  grown_read denotes b None r e n m = let g = grown (subst (λ v. Reads (Hears denoted) k ts a v us c) e r) n in
      let none : Some (g.0, []) ≡ None = sym (ap take_tree g.2) ∙ m in absurd (cc none)
  grown_read denotes b (Some x) r e n m = let g = grown (subst (λ v. Reads (Hears denoted) k ts a v us c) e r) n in
      subst (λ t. IsRead k ts t us) (sym (ap first_tree g.2) ∙ m) g.1

  pub told_read : (b : Bool) → Reads (Hears denoted) k ts a b us c → b ≡ true → denoted a ≡ [] → IsRead k ts (first_tree (denoted c)) us
  told_read b r e n = let g = grown (subst (λ v. Reads (Hears denoted) k ts a v us c) e r) n in subst (λ t. IsRead k ts t us) (sym (ap first_tree g.2)) g.1

-- Of what was not told yet nothing is made.
pub told_nothing : told Nothing ≡ []
told_nothing = ap told (sym rolls-Nothing) ∙ fold-roll-Shadow (List Value) told_step Shadow-F.Nothing
