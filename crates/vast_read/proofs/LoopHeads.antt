-- The head of a loop, part by part.
use Rattle.std.proofs.Common.{◌≡◌, ◌≢◌, ℕ, suc, List, [], ◌∷◌, ◌++◌, length, Option, Some, refl, sym, ap, subst, ◌∙◌, append_assoc, arith}
use Rattle.vast_literal.specs.Grammar.{Spells}
use Rattle.vast_literal.specs.NormalExpr.{NormalExpr}
use Rattle.vast_literal.specs.Tokens.{Token, Mark}
use Rattle.vast_literal.specs.declared.token.Mark.TheVariants.{Semicolon}
use Rattle.vast_expressions.specs.Phrases.{IsRead}
use Rattle.vast_rows.specs.Internal.Sources.{HasRead, HasNone}
use Rattle.vast_rows.specs.Phrases.{IsPhrase, loop_head, Meaning, IsLoop}
use Rattle.vast_rows.specs.declared.grammar.Phrase.TheVariants.{LoopHead}
use Rattle.vast_read.specs.Internal.LoopHeads.{IsUnclosed, IsUnclosedBound, ReadsClosed, ReadsClosedBound, start_of, step_of}
use Rattle.vast_read.specs.Internal.Readings.{less_than}

-- What a head of a loop is made of.
record Parts (ts : List Token) (m : Meaning) (rest : List Token) : Type 0 where
  variable : List ℕ
  starts : List Token
  conditions : List Token
  start : NormalExpr
  end : NormalExpr
  means : m ≡ IsLoop variable start end
  starts_so : Spells 0 starts start
  ends_so : Spells 0 conditions (less_than variable end)
  whole : ts ++ rest ≡ start_of variable (starts ++ (Mark Semicolon ∷ (conditions ++ (Mark Semicolon ∷ step_of variable rest))))

parts : (ts rest : List Token) (m : Meaning) → IsPhrase LoopHead ts m → Parts ts m rest
parts ts rest m (loop_head {xs = xs} {cs = cs} {x = x} {e = e} i a b) = record {
  variable = i;
  starts = xs;
  conditions = cs;
  start = x;
  end = e;
  means = refl;
  starts_so = a;
  ends_so = b;
  whole = simp append_assoc refl;
}

pub no_start : (ts : List Token) → ((i : List ℕ) (us : List Token) → ts ≢ start_of i us) → HasNone LoopHead ts
no_start ts n fs rest m p e h = let q = parts fs rest m p in n q.variable _ (e ∙ q.whole)

module _ (i : List ℕ) (ts firsts : List Token) (started : ts ≡ start_of i firsts) where
  -- what follows the start
  follows : (fs rest : List Token) (m : Meaning) (q : Parts fs m rest) → ts ≡ fs ++ rest → (q.variable ≡ i) × (firsts ≡ q.starts ++ (Mark Semicolon ∷ (q.conditions ++ (Mark Semicolon ∷ step_of q.variable rest))))
  follows fs rest m q e = let same = sym started ∙ (e ∙ q.whole) in (cc same, cc same)

  pub no_first : IsUnclosed firsts → HasNone LoopHead ts
  no_first n fs rest m p e h = let q = parts fs rest m p in n q.starts _ q.start q.starts_so (follows fs rest m q e).1

  module _ (x : NormalExpr) (bs : List Token) (read : IsRead 0 firsts x (Mark Semicolon ∷ bs)) where
    second : (fs rest : List Token) (m : Meaning) (q : Parts fs m rest) → ts ≡ fs ++ rest → (q.start ≡ x) × (bs ≡ q.conditions ++ (Mark Semicolon ∷ step_of i rest))
    second fs rest m q e = let f = follows fs rest m q e in let s = read.same q.starts _ q.start q.starts_so f.1 tt in
        let after = s.1 in let name = f.0 in (s.0, cc (after, name))

    condition : (fs rest : List Token) (m : Meaning) (q : Parts fs m rest) → ts ≡ fs ++ rest → Spells 0 q.conditions (less_than i q.end)
    condition fs rest m q e = subst (λ j. Spells 0 q.conditions (less_than j q.end)) (follows fs rest m q e).0 q.ends_so

    pub no_second : IsUnclosedBound i bs → HasNone LoopHead ts
    no_second n fs rest m p e h = let q = parts fs rest m p in n q.conditions _ q.end (condition fs rest m q e) (second fs rest m q e).1

    module _ (y : NormalExpr) (cs : List Token) (bound : IsRead 0 bs (less_than i y) (Mark Semicolon ∷ cs)) where
      third : (fs rest : List Token) (m : Meaning) (q : Parts fs m rest) → ts ≡ fs ++ rest → (q.end ≡ y) × (cs ≡ step_of i rest)
      third fs rest m q e = let s = bound.same q.conditions _ (less_than i q.end) (condition fs rest m q e) (second fs rest m q e).1 tt in
          let same = s.0 in let after = s.1 in (cc same, cc after)

      pub no_step : ((us : List Token) → cs ≢ step_of i us) → HasNone LoopHead ts
      no_step n fs rest m p e h = let q = parts fs rest m p in n rest (third fs rest m q e).1

      pub has_head : (us : List Token) → cs ≡ step_of i us → HasRead LoopHead ts (IsLoop i x y) us
      has_head us stepped = record {
        front = start_of i (read.front ++ (Mark Semicolon ∷ (bound.front ++ (Mark Semicolon ∷ step_of i []))));
        reads = loop_head i read.spelled bound.spelled;
        split = let a = started in let b = read.whole in let c = bound.whole in let d = stepped in simp append_assoc (cc (a, b, c, d));
        fewer = let a : length ts ≡ suc (suc (length firsts)) = ap length started in let b = read.fewer in let c = bound.fewer in let d : length cs ≡ suc (suc (suc (suc (suc (suc (length us)))))) = ap length stepped in omega (arith, a, b, c, d);
        same = λ fs rest m p e h. let q = parts fs rest m p in let f = follows fs rest m q e in let s = second fs rest m q e in let t = third fs rest m q e in
            let variable = f.0 in let start = s.0 in let end = t.0 in let means = q.means in let after : step_of i rest ≡ step_of i us = sym t.1 ∙ stepped in
            (cc (means, variable, start, end), cc after);
      }

-- The step is missing.
pub stepless : {E : Type 0} (denotes : E → NormalExpr) (i : List ℕ) (ts firsts bs cs : List Token) (o p : Option E) (x y : E) → ts ≡ start_of i firsts → ReadsClosed denotes o firsts bs → o ≡ Some x →
    ReadsClosedBound denotes i p bs cs → p ≡ Some y → ((us : List Token) → cs ≢ step_of i us) → HasNone LoopHead ts
stepless denotes i ts firsts bs cs o p x y s r e q f n =
    no_step i ts firsts s (denotes x) bs (subst (λ v. ReadsClosed denotes v firsts bs) e r) (denotes y) cs (subst (λ v. ReadsClosedBound denotes i v bs cs) f q) n

pub ruleset heads = (no_start, no_first, no_second, no_step, has_head)
