-- What the machine stands for: the front that it read, the stack, and the kinds by which the phrase goes on that it read last.
use Rattle.std.proofs.Common.{◌≡◌, ◌↔◌, ℕ, suc, List, [], ◌∷◌, ◌++◌, Bool, true, false, refl, sym, ◌∙◌, arith}
use Rattle.std.specs.Int.Bits.{bit_or}
use Rattle.vast_literal.specs.Tokens as tokens
use Rattle.vast_rows.specs.declared.grammar.Item.{Item}
use Rattle.vast_rows.specs.Events.{Event}
use Rattle.vast_rows.specs.Facts.{Fact, fact_in}
use Rattle.vast_rows.specs.Fronts.{GoesOn, LongestFront}
use Rattle.vast_rows.specs.Internal.Headers.{Residue}
use Rattle.vast_rows.specs.Internal.Reaches.{SpellsRule, IsQuiet}
use Rattle.vast_rows.specs.Internal.Derives.{Derives}
use Rattle.vast_rows.specs.Internal.Firsts.{firsts_in, first_kinds}
use Rattle.vast_rows.specs.Internal.Predictive.{may_be_empty, lead, is_predictive}
use Rattle.vast_rows.specs.Internal.Reading.{Reading}
use Rattle.vast_rows.specs.Internal.Sources.{head_kind}
use Rattle.vast_rows.specs.Kinds.{has, token_kind}
use Rattle.vast_rows.specs.Rows.{Row}
use Rattle.vast_rows.proofs.Begins.{first_of, empty_of}
use Rattle.vast_rows.proofs.Derivations.{spelled, whole_derived}
use Rattle.vast_rows.proofs.Ending.{Exact, Closes}
use Rattle.vast_rows.proofs.Residues.{stands as stands_there, none_of}
use Rattle.vast_rows.proofs.Starting.{derives_empty, Begun, begun}

-- After the front, the tokens that begin with none of the kinds are derived from the stack, where the whole is; and by each of
-- the kinds the whole goes on.
pub record Standing (rows : List Row) (facts : ℕ → Fact) (start : ℕ) (all left : List tokens.Token) (stack : List Item) (more : ℕ) : Type 0 where
  pub before : List tokens.Token
  pub split : all ≡ before ++ left
  pub reading : (rest : List tokens.Token) → IsQuiet rest more → (done : List Event) × Reading rows facts start (before ++ rest) rest stack done
  pub longer : (k : ℕ) → has more k ≡ true → GoesOn (SpellsRule rows start) before k
  pub closes : Closes rows stack
  pub quiet : IsQuiet left more

-- What is derived from a stack.
abbrev pub Derived : List Row → List Item → List tokens.Token → Type 0
Derived rows s ts = (es : List Event) × Derives rows s ts es

abbrev pub residue : {rows : List Row} {facts : ℕ → Fact} {start : ℕ} {all left : List tokens.Token} {stack : List Item} {more : ℕ} → Standing rows facts start all left stack more → Residue (SpellsRule rows start) (Derived rows stack) all left more
residue {rows = rows} {start = start} w = record {
  before = w.before;
  split = w.split;
  onto = λ rest q d. let r = w.reading rest q in (r.0 ++ d.0, spelled ((r.1).sound d.0 d.1));
  back = λ rest q s. let r = w.reading rest q in let c = (r.1).complete s.0 (whole_derived rows start (w.before ++ rest) s.0 s.1) in (c.0, c.1);
  longer = w.longer;
  quiet = w.quiet;
}

module _ (begin : List ℕ) (facts : List Fact) (rows : List Row) (start : ℕ) (x : Exact begin facts rows) (p : is_predictive (fact_in facts) rows ≡ true) where
  pub begins_at : {all left : List tokens.Token} {stack : List Item} {more : ℕ} → Standing rows (fact_in facts) start all left stack more → (k : ℕ) → has (first_kinds (firsts_in begin) (fact_in facts) stack) k ≡ true → Begun rows stack k
  begins_at {stack = stack} w k h = begun begin facts rows x p (suc (lead (fact_in facts) stack)) stack k (omega arith) h w.closes

  -- The kinds by which what is derived from the stack begins, and whether that may be nothing.
  kinds_so : {all left : List tokens.Token} {stack : List Item} {more : ℕ} (own : ℕ) → Standing rows (fact_in facts) start all left stack more →
      ((k : ℕ) → (has own k ≡ true) ↔ (has (first_kinds (firsts_in begin) (fact_in facts) stack) k ≡ true)) → (k : ℕ) → (has own k ≡ true) ↔ GoesOn (Derived rows stack) [] k
  kinds_so {stack = stack} own w kinds k = (λ h. let b = begins_at w k ((kinds k).0 h) in (b.first, b.others, b.kinds, (b.events, b.derives)), from)
    where
      from : GoesOn (Derived rows stack) [] k → has own k ≡ true
      from g =
          let h : has (first_kinds (firsts_in begin) (fact_in facts) stack) (token_kind g.0) ≡ true = first_of (firsts_in begin) (fact_in facts) p x.closed (g.3).1 g.0 g.1 refl in
          (kinds k).1 (let e = g.2 in rw e at h)

  empty_so : (ends : Bool) (stack : List Item) → ends ≡ may_be_empty (fact_in facts) stack → (ends ≡ true) ↔ Derived rows stack []
  empty_so ends stack end = (λ e. derives_empty begin facts rows x p (suc (lead (fact_in facts) stack)) stack (omega arith) (sym end ∙ e), λ d. end ∙ empty_of (fact_in facts) p d.1 refl)

  -- It stands where nothing goes on with what is left, or where that has none of the kinds.
  pub stands : {all left : List tokens.Token} {stack : List Item} {more : ℕ} (own : ℕ) (ends : Bool) → (w : Standing rows (fact_in facts) start all left stack more) →
      ((k : ℕ) → (has own k ≡ true) ↔ (has (first_kinds (firsts_in begin) (fact_in facts) stack) k ≡ true)) → ends ≡ may_be_empty (fact_in facts) stack →
      ((t : tokens.Token) (us rest : List tokens.Token) → left ≡ t ∷ us → SpellsRule rows start (w.before ++ (t ∷ rest)) → ⊥) → LongestFront (SpellsRule rows start) all left (bit_or more own) ends
  stands {stack = stack} own ends w kinds end none = let c = w.closes in stands_there (residue w) own ends (kinds_so own w kinds) (empty_so ends stack end) c.0 (c.1, c.2) none

  pub stands_before : {all left : List tokens.Token} {stack : List Item} {more : ℕ} (own : ℕ) (ends : Bool) (k : ℕ) → (w : Standing rows (fact_in facts) start all left stack more) →
      ((k : ℕ) → (has own k ≡ true) ↔ (has (first_kinds (firsts_in begin) (fact_in facts) stack) k ≡ true)) → ends ≡ may_be_empty (fact_in facts) stack →
      k ≡ head_kind left → has (bit_or more own) k ≡ false → LongestFront (SpellsRule rows start) all left (bit_or more own) ends
  stands_before own ends k w kinds end kind other = stands own ends w kinds end (none_of (residue w) own k (kinds_so own w kinds) kind other)
