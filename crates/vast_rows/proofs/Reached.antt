-- How far phrases were read by the rows of expressions.
use Rattle.std.proofs.Common.{◌≡◌, ◌↔◌, ℕ, ◌<◌, ◌+◌, suc, List, [], ◌∷◌, ◌++◌, length, Bool, true, false, Result, Ok, Err, IfOk, refl, sym, ap, ◌∙◌, ◌⊎◌, inl, inr, arith, length-append, if◌then◌else◌}
use Rattle.vast_literal.specs.Tokens.{Token, Quoted}
use Rattle.vast_rows.specs.declared.grammar.Item.TheVariants.{Rule}
use Rattle.vast_rows.specs.declared.grammar.Phrase.TheVariants.{Expression, Target, Path}
use Rattle.vast_rows.specs.declared.reach.Reach.{Reach}
use Rattle.vast_rows.specs.declared.reach.Reach.TheVariants.{Nowhere, Part, Whole}
use Rattle.vast_rows.specs.Facts.{Fact, fact_in}
use Rattle.vast_rows.specs.Fronts.{GoesOn, LongestFront}
use Rattle.vast_rows.specs.Internal.ExpressionPage.{expression_page, part_number}
use Rattle.vast_rows.specs.Internal.ExpressionPage as part
use Rattle.vast_rows.specs.Internal.Firsts.{firsts_in}
use Rattle.vast_rows.specs.Internal.Headers.{IsAt}
use Rattle.vast_rows.specs.Internal.Predictive.{lead, is_predictive}
use Rattle.vast_rows.specs.Internal.Reaches.{SpellsRule, IsQuiet, Refuses, PartRead, WholeRead, Reaches}
use Rattle.vast_rows.specs.Internal.Sources.{head_kind, tail, SpellsPhrase, IsPathNext}
use Rattle.vast_rows.specs.Kinds.{has, token_kind}
use Rattle.vast_rows.specs.Phrases.{IsPhrase, Meaning, IsExpression, IsPath, expression, target, path}
use Rattle.vast_rows.specs.Rows.{Row, bare}
use Rattle.vast_rows.proofs.Alike.{alike}
use Rattle.vast_rows.proofs.Bare.{by_page}
use Rattle.vast_rows.proofs.Begins.{first_of}
use Rattle.vast_rows.proofs.Derivations.{spelled, whole_derived}
use Rattle.vast_rows.proofs.Ending.{Exact}
use Rattle.vast_rows.proofs.ExpressionMeans.{MeantBy, makes}
use Rattle.vast_rows.proofs.ExpressionRows.{expression_spelled, target_spelled, bound_spelled}
use Rattle.vast_rows.proofs.Means.{folds}
use Rattle.vast_rows.proofs.Residues.{no_end_kind, unless_true, quiet_always}
use Rattle.vast_rows.proofs.Sets.{has_or, or_first, no_kind}
use Rattle.vast_rows.proofs.Starting.{begun}

-- The rows spell expressions, targets and bounds.
module _ (rows : List Row) (same : bare rows ≡ expression_page) (ts : List Token) where
  pub to_expression : SpellsRule rows (part_number part.Expression) ts → SpellsPhrase Expression ts
  to_expression s = let x : IsAt 0 ts = folds MeantBy (MeantBy 0) makes ((by_page rows expression_page 0 ts s.0 same).0 s.1) (λ ps m. m) in (IsExpression x.0, expression x.1)

  pub from_expression : SpellsPhrase Expression ts → SpellsRule rows (part_number part.Expression) ts
  from_expression s = of s.1
    where
      of : {m : _} → IsPhrase Expression ts m → SpellsRule rows (part_number part.Expression) ts
      of (expression e) = let p = expression_spelled e in (p.0, (by_page rows expression_page 0 ts p.0 same).1 p.1)

  pub to_target : SpellsRule rows (part_number part.Target) ts → SpellsPhrase Target ts
  to_target s = let x : IsAt 13 ts = folds MeantBy (MeantBy 1) makes ((by_page rows expression_page 1 ts s.0 same).0 s.1) (λ ps m. m) in (IsExpression x.0, target x.1)

  pub from_target : SpellsPhrase Target ts → SpellsRule rows (part_number part.Target) ts
  from_target s = of s.1
    where
      of : {m : _} → IsPhrase Target ts m → SpellsRule rows (part_number part.Target) ts
      of (target e) = let p = target_spelled e in (p.0, (by_page rows expression_page 1 ts p.0 same).1 p.1)

  pub to_bound : SpellsRule rows (part_number part.Bound) ts → IsAt 8 ts
  to_bound s = folds MeantBy (MeantBy 19) makes ((by_page rows expression_page 19 ts s.0 same).0 s.1) (λ ps m. m)

  pub from_bound : IsAt 8 ts → SpellsRule rows (part_number part.Bound) ts
  from_bound x = let p = bound_spelled x.1 in (p.0, (by_page rows expression_page 19 ts p.0 same).1 p.1)

-- Languages of the same tokens are read alike.
reached_alike : (L M : List Token → Type 0) → ((ts : List Token) → L ts → M ts) → ((ts : List Token) → M ts → L ts) → (before left : List Token) (r : Reach) → Reaches L before left r → Reaches M before left r
reached_alike L M to from before left Nowhere d = (d.0, λ t us rest e m. d.1 t us rest e (from (t ∷ rest) m))
reached_alike L M to from before left (Part kinds) d = record { longest = alike L M to from before left kinds false d.longest; fewer = d.fewer }
reached_alike L M to from before left (Whole kinds) d = record { longest = alike L M to from before left kinds true d.longest; fewer = d.fewer; quiet = d.quiet }

pub all_alike : {E : Type 0} (L M : List Token → Type 0) → ((ts : List Token) → L ts → M ts) → ((ts : List Token) → M ts → L ts) → (before left : List Token) (r : Result Reach E) → IfOk r (Reaches L before left) → IfOk r (Reaches M before left)
all_alike L M to from before left (Ok r) d = reached_alike L M to from before left r d
all_alike L M to from before left (Err e) d = tt

-- What a rule of a table spells.
module _ (begin : List ℕ) (facts : List Fact) (rows : List Row) (start : ℕ) (x : Exact begin facts rows) (p : is_predictive (fact_in facts) rows ≡ true) (before : List Token) (k : ℕ) (kind : k ≡ head_kind before) where
  begins_with : (t : Token) (us : List Token) → SpellsRule rows start (t ∷ us) → has (firsts_in begin start) (token_kind t) ≡ true
  begins_with t us s =
      go (fact_in facts start).empty (has_or (firsts_in begin start) _ (token_kind t) (first_of (firsts_in begin) (fact_in facts) p x.closed (whole_derived rows start (t ∷ us) s.0 s.1) t us refl))
    where
      go : (b : Bool) → (has (firsts_in begin start) (token_kind t) ≡ true) ⊎ (has (if b then 0 else 0) (token_kind t) ≡ true) → has (firsts_in begin start) (token_kind t) ≡ true
      go b (inl h) = h
      go true (inr h) = absurd (no_kind (token_kind t) h)
      go false (inr h) = absurd (no_kind (token_kind t) h)

  pub none_begins : has (firsts_in begin start) k ≡ false → Refuses (SpellsRule rows start) before
  none_begins other t us rest e s =
      let same : token_kind t ≡ k = sym (kind ∙ ap head_kind e) in
      unless_true (has (firsts_in begin start) k) (let h = begins_with t rest s in rw same at h) other

  module _ (spells : (ts : List Token) × SpellsRule rows start ts) (fits : has (firsts_in begin start) k ≡ true) (left : List Token) (kinds : ℕ) (ends : Bool) (l : LongestFront (SpellsRule rows start) before left kinds ends) (quiet : IsQuiet left kinds) where
    -- Something begins with the kind.
    one_begins : GoesOn (SpellsRule rows start) [] k
    one_begins =
        let b = begun begin facts rows x p (suc (lead (fact_in facts) (Rule start ∷ []))) (Rule start ∷ []) k (omega arith) (or_first (firsts_in begin start) _ k fits) (spells.0, (spells.1).0, whole_derived rows start spells.0 (spells.1).0 (spells.1).1) in
        (b.first, b.others, b.kinds, (b.events, spelled b.derives))

    -- So something was read.
    fewer : length left < length before
    fewer = go before refl l.front l.split l.goes_on
      where
        none : (t : Token) (us : List Token) → before ≡ t ∷ us → left ≡ before → ((j : ℕ) → (has kinds j ≡ true) ↔ GoesOn (SpellsRule rows start) [] j) → ⊥
        none t us e f goes =
            let same : k ≡ token_kind t = kind ∙ ap head_kind e in
            unless_true (has kinds k) ((goes k).1 one_begins) (let g : has kinds (token_kind t) ≡ false = quiet t us (f ∙ e) in rw same g)

        go : (ts : List Token) → before ≡ ts → (front : List Token) → before ≡ front ++ left → ((j : ℕ) → (has kinds j ≡ true) ↔ GoesOn (SpellsRule rows start) front j) → length left < length before
        go [] e front f goes = absurd (no_end_kind one_begins.0 (one_begins.2 ∙ (kind ∙ ap head_kind e)))
        go (t ∷ us) e [] f goes = absurd (none t us e (sym f) goes)
        go (t ∷ us) e (u ∷ vs) f goes =
            let n : length before ≡ length ((u ∷ vs) ++ left) = ap length f in
            let m : length ((u ∷ vs) ++ left) ≡ suc (length vs) + length left = length-append (u ∷ vs) left in omega (arith, n, m)

    pub whole : ends ≡ true → WholeRead (SpellsRule rows start) before left kinds
    whole e = record { longest = rw e at l; fewer = fewer; quiet = quiet }

    pub part_of : ends ≡ false → PartRead (SpellsRule rows start) before left kinds
    part_of e = record { longest = rw e at l; fewer = fewer }

-- A path is one token.
one_token : (ts : List Token) (m : Meaning) → IsPhrase Path ts m → (t u : Token) (us : List Token) → ts ≡ t ∷ (u ∷ us) → ⊥
one_token ts m (path p) t u us f = absurd (cc f)

pub path_read : (before left : List Token) → IsPathNext before → left ≡ tail before → WholeRead (SpellsPhrase Path) before left 0
path_read before left n e = record {
  longest = record {
    front = quoted ∷ [];
    split = n.2 ∙ ap (λ (us : List Token). quoted ∷ us) (sym same);
    begun = ([], whole_path);
    goes_on = λ k. (λ h. absurd (no_kind k h), λ g. absurd (one_token (quoted ∷ (g.0 ∷ g.1)) (g.3).0 (g.3).1 quoted g.0 g.1 refl));
    ended = (λ f. whole_path, λ s. refl);
    stops = λ t us rest f s. one_token (quoted ∷ (t ∷ rest)) s.0 s.1 quoted t rest refl;
  };
  fewer = let a : length before ≡ suc (length n.1) = ap length n.2 in let b : length left ≡ length n.1 = ap length same in omega (arith, a, b);
  quiet = quiet_always left;
}
  where
    quoted : Token
    quoted = Quoted (34 ∷ (n.0 ++ (34 ∷ [])))

    whole_path : SpellsPhrase Path (quoted ∷ [])
    whole_path = (IsPath n.0, path n.0)

    same : left ≡ n.1
    same = e ∙ ap tail n.2

pub no_path : (before : List Token) → (IsPathNext before → ⊥) → Refuses (SpellsPhrase Path) before
no_path before none t us rest e s = go (t ∷ rest) s.0 s.1 refl
  where
    go : (ts : List Token) (m : Meaning) → IsPhrase Path ts m → ts ≡ t ∷ rest → ⊥
    go ts m (path p) f = none (p, us, (let h : Quoted (34 ∷ (p ++ (34 ∷ []))) ≡ t = cc f in rw (← h) at e))
