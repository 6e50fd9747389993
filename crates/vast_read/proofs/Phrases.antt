-- Phrases, by what is read of expressions.
use Rattle.std.proofs.Common.{◌≡◌, ◌≢◌, ℕ, suc, Bool, true, false, List, Option, None, [], ◌∷◌, ◌++◌, length, ap, subst, arith}
use Rattle.std.proofs.lemmas.List.{append_cancel_right}
use Rattle.vast_literal.specs.NormalExpr.{NormalExpr}
use Rattle.vast_literal.specs.Tokens.{Token, Quoted}
use Rattle.vast_read.specs.Internal.PhraseReadings.{phrase_of}
use Rattle.vast_read.specs.Internal.Readings.{ReadsTree, level_of}
use Rattle.vast_expressions.specs.Phrases.{IsRead, IsUnread, Quiet}
use Rattle.vast_rows.specs.Internal.Sources.{HasRead, HasNone}
use Rattle.vast_rows.proofs.PhraseLaws.{quiet_expression, quiet_target}
use Rattle.vast_rows.specs.Phrases.{IsPhrase, expression, target, path, Meaning, IsExpression, IsPath}
use Rattle.vast_rows.specs.declared.grammar.Phrase.TheVariants.{Expression, Target, Path}

no_expression : (ts : List Token) → IsUnread 0 ts → HasNone Expression ts
no_expression ts n fs rest m (expression {x = x} s) e h = n fs rest x s e (quiet_expression rest h)

no_target : (ts : List Token) → IsUnread 13 ts → HasNone Target ts
no_target ts n fs rest m (target {x = x} s) e h = n fs rest x s e (quiet_target rest h)

has_expression : (ts us : List Token) (t : NormalExpr) → IsRead 0 ts t us → HasRead Expression ts (IsExpression t) us
has_expression ts us t r = record {
  front = r.front;
  reads = expression r.spelled;
  split = r.whole;
  fewer = r.fewer;
  same = λ fs rest m p e h. go fs rest m p e (quiet_expression rest h);
}
  where
    go : (fs rest : List Token) (m : Meaning) → IsPhrase Expression fs m → ts ≡ fs ++ rest → Quiet 0 rest → (m ≡ IsExpression t) × (rest ≡ us)
    go fs rest m (expression {x = x} s) e q = let both = r.same fs rest x s e q in (ap IsExpression both.0, both.1)

has_target : (ts us : List Token) (t : NormalExpr) → IsRead 13 ts t us → HasRead Target ts (IsExpression t) us
has_target ts us t r = record {
  front = r.front;
  reads = target r.spelled;
  split = r.whole;
  fewer = r.fewer;
  same = λ fs rest m p e h. go fs rest m p e (quiet_target rest h);
}
  where
    go : (fs rest : List Token) (m : Meaning) → IsPhrase Target fs m → ts ≡ fs ++ rest → Quiet 13 rest → (m ≡ IsExpression t) × (rest ≡ us)
    go fs rest m (target {x = x} s) e q = let both = r.same fs rest x s e q in (ap IsExpression both.0, both.1)

-- A string, and none.
pub has_path : (ts us : List Token) (w p : List ℕ) → ts ≡ (Quoted w ∷ us) → w ≡ (34 ∷ (p ++ (34 ∷ []))) → HasRead Path ts (IsPath p) us
has_path ts us w p e d = record {
  front = Quoted (34 ∷ (p ++ (34 ∷ []))) ∷ [];
  reads = path p;
  split = cc (e, d);
  fewer = let n : length ts ≡ suc (length us) = ap length e in omega (arith, n);
  same = λ fs rest m q f h. go fs rest m q f;
}
  where
    go : (fs rest : List Token) (m : Meaning) → IsPhrase Path fs m → ts ≡ fs ++ rest → (m ≡ IsPath p) × (rest ≡ us)
    go fs rest m (path q) f = let same : q ++ (34 ∷ []) ≡ p ++ (34 ∷ []) = cc (e, d, f) in (ap IsPath (append_cancel_right q p (34 ∷ []) same), cc (e, f))

pub no_path : (ts : List Token) → ((p : List ℕ) (us : List Token) → ts ≢ (Quoted (34 ∷ (p ++ (34 ∷ []))) ∷ us)) → HasNone Path ts
no_path ts n fs rest m (path p) e h = n p rest e

no_tree : (is_target : Bool) (ts : List Token) → IsUnread (level_of is_target) ts → HasNone (phrase_of is_target) ts
no_tree true = no_target
no_tree false = no_expression

pub has_tree : (is_target : Bool) (ts us : List Token) (t : NormalExpr) → IsRead (level_of is_target) ts t us → HasRead (phrase_of is_target) ts (IsExpression t) us
has_tree true = has_target
has_tree false = has_expression

pub unread_tree : {E : Type 0} (denotes : E → NormalExpr) (is_target : Bool) (o : Option E) (ts us : List Token) → ReadsTree denotes (level_of is_target) o ts us → o ≡ None → HasNone (phrase_of is_target) ts
unread_tree denotes is_target o ts us r e = no_tree is_target ts (subst (λ v. ReadsTree denotes (level_of is_target) v ts us) e r)

pub ruleset trees = (has_tree)

pub ruleset paths = (no_path, has_path)
