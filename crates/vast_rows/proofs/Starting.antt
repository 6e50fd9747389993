-- Items begin with each of the kinds that are told of them, and are empty where it is told.
use Rattle.std.proofs.Common.{◌≡◌, ℕ, suc, zero, ◌<◌, ◌≤◌, List, [], ◌∷◌, ◌++◌, length, Bool, true, false, ◌&&◌, nat_eq, nat_lt, ◌≢◌, Some, refl, ap, ◌∙◌, ◌⊎◌, inl, inr, arith, if◌then◌else◌}
use Rattle.std.specs.List.{slice_get}
use Rattle.std.specs.Int.Bits.{bit_or}
use Rattle.std.proofs.lemmas.Bool.{eqb-true, eqb-false, ltb-true, ltb-false}
use Rattle.vast_literal.specs.Tokens as tokens
use Rattle.vast_rows.specs.declared.grammar.Item.{Item}
use Rattle.vast_rows.specs.declared.grammar.Item.TheVariants.{Token, Rule, Phrase}
use Rattle.vast_rows.specs.Events.{Event, made_by}
use Rattle.vast_rows.specs.Facts.{Fact, fact_in}
use Rattle.vast_rows.specs.Internal.Derives.{Derives, nothing, token, phrase, choice}
use Rattle.vast_rows.specs.Internal.Firsts.{firsts_in, first_kinds, firsts_by_rows, empty_by_rows, are_tight}
use Rattle.vast_rows.specs.Internal.Predictive.{may_be_empty, lead, is_predictive}
use Rattle.vast_rows.specs.Internal.Sets.{within}
use Rattle.vast_rows.specs.Kinds.{has, token_kind}
use Rattle.vast_rows.specs.Rows.{Row}
use Rattle.vast_rows.proofs.Begins.{first_token, first_in, first_past, empty_both}
use Rattle.vast_rows.proofs.Ending.{Exact, Closes, closes_over, closes_below, rows_end}
use Rattle.vast_rows.proofs.Leads.{leads}
use Rattle.vast_rows.proofs.PhraseStarts.{starts}
use Rattle.vast_rows.proofs.Sets.{both, has_or, has_within, no_kind}
use Rattle.vast_rows.proofs.Nexts.{unknown_begins}
use Rattle.vast_rows.proofs.Steps.{took}
use Rattle.vast_rows.proofs.Taken.{unknown}

-- A row of a rule that begins with a kind, and one that may be empty.
record RowWith (rows : List Row) (rule : ℕ) (P : Row → Type 0) : Type 0 where
  number : ℕ
  row : Row
  found : slice_get rows number ≡ Some row
  ruled : row.rule ≡ rule
  holds : P row

later : (x : Row) (rows : List Row) (rule : ℕ) (P : Row → Type 0) → RowWith rows rule P → RowWith (x ∷ rows) rule P
later x rows rule P w = record { number = suc w.number; row = w.row; found = w.found; ruled = w.ruled; holds = w.holds }

abbrev BeginsRow : (ℕ → ℕ) → (ℕ → Fact) → ℕ → Row → Type 0
BeginsRow begin facts k row = has (first_kinds begin facts row.items) k ≡ true

abbrev EmptyRow : (ℕ → Fact) → Row → Type 0
EmptyRow facts row = may_be_empty facts row.items ≡ true

row_that_begins : (begin : ℕ → ℕ) (facts : ℕ → Fact) (rows : List Row) (rule k : ℕ) → has (firsts_by_rows begin facts rows rule) k ≡ true → RowWith rows rule (BeginsRow begin facts k)
row_that_begins begin facts [] rule k h = absurd (no_kind k h)
row_that_begins begin facts (x ∷ rows) rule k h = go (nat_eq x.rule rule) refl h (row_that_begins begin facts rows rule k)
  where
    split : nat_eq x.rule rule ≡ true → (has (firsts_by_rows begin facts rows rule) k ≡ true → RowWith rows rule (BeginsRow begin facts k)) →
        (has (first_kinds begin facts x.items) k ≡ true) ⊎ (has (firsts_by_rows begin facts rows rule) k ≡ true) → RowWith (x ∷ rows) rule (BeginsRow begin facts k)
    split e next (inl a) = record { number = 0; row = x; found = refl; ruled = eqb-true x.rule rule e; holds = a }
    split e next (inr a) = later x rows rule (BeginsRow begin facts k) (next a)

    go : (b : Bool) → nat_eq x.rule rule ≡ b → has (if b then bit_or (first_kinds begin facts x.items) (firsts_by_rows begin facts rows rule) else firsts_by_rows begin facts rows rule) k ≡ true →
        (has (firsts_by_rows begin facts rows rule) k ≡ true → RowWith rows rule (BeginsRow begin facts k)) → RowWith (x ∷ rows) rule (BeginsRow begin facts k)
    go true e h next = split e next (has_or (first_kinds begin facts x.items) (firsts_by_rows begin facts rows rule) k h)
    go false e h next = later x rows rule (BeginsRow begin facts k) (next h)

row_that_is_empty : (facts : ℕ → Fact) (rows : List Row) (rule : ℕ) → empty_by_rows facts rows rule ≡ true → RowWith rows rule (EmptyRow facts)
row_that_is_empty facts [] rule h = absurd (cc h)
row_that_is_empty facts (x ∷ rows) rule h = go (nat_eq x.rule rule && may_be_empty facts x.items) refl h (row_that_is_empty facts rows rule)
  where
    go : (b : Bool) → (nat_eq x.rule rule && may_be_empty facts x.items) ≡ b → (if b then true else empty_by_rows facts rows rule) ≡ true → (empty_by_rows facts rows rule ≡ true → RowWith rows rule (EmptyRow facts)) → RowWith (x ∷ rows) rule (EmptyRow facts)
    go true e h next = let b = both (nat_eq x.rule rule) (may_be_empty facts x.items) e in record { number = 0; row = x; found = refl; ruled = eqb-true x.rule rule b.0; holds = b.1 }
    go false e h next = later x rows rule (EmptyRow facts) (next h)

-- What the check says of a rule.

record Tight (begin : ℕ → ℕ) (facts : ℕ → Fact) (rows : List Row) (rule : ℕ) : Type 0 where
  begins : (k : ℕ) → has (begin rule) k ≡ true → RowWith rows rule (BeginsRow begin facts k)
  empty : (facts rule).empty ≡ true → RowWith rows rule (EmptyRow facts)

tight_below : (begin : ℕ → ℕ) (facts : ℕ → Fact) (rows : List Row) (count rule : ℕ) → are_tight begin facts rows count ≡ true → rule < count → Tight begin facts rows rule
tight_below begin facts rows zero rule h l = absurd (let z : ⊥ = omega (arith, l) in z)
tight_below begin facts rows (suc n) rule h l = go (nat_eq rule n) refl (tight_below begin facts rows n rule b.2)
  where
    b : (within (begin n) (firsts_by_rows begin facts rows n) ≡ true) × ((if (facts n).empty then empty_by_rows facts rows n else true) ≡ true) × (are_tight begin facts rows n ≡ true)
    b = let c = both (within (begin n) (firsts_by_rows begin facts rows n)) _ h in let d = both (if (facts n).empty then empty_by_rows facts rows n else true) (are_tight begin facts rows n) c.1 in (c.0, d.0, d.1)

    here : Tight begin facts rows n
    here = record {
      begins = λ k k_in. row_that_begins begin facts rows n k (has_within (begin n) (firsts_by_rows begin facts rows n) k b.0 k_in);
      empty = λ e. row_that_is_empty facts rows n (let f = b.1 in rw e at f);
    }

    go : (c : Bool) → nat_eq rule n ≡ c → (rule < n → Tight begin facts rows rule) → Tight begin facts rows rule
    go true e next = let same : rule ≡ n = eqb-true rule n e in rw same here
    go false e next = next (below (eqb-false rule n e) l)
      where
        below : (rule ≡ n → ⊥) → rule < suc n → rule < n
        below d l = let e : rule ≢ n = d in omega (arith, e, l)

tight : (begin : List ℕ) (facts : List Fact) (rows : List Row) (rule : ℕ) → Exact begin facts rows → Tight (firsts_in begin) (fact_in facts) rows rule
tight begin facts rows rule x = go (nat_lt rule (length facts)) refl
  where
    out : length facts ≤ rule → Tight (firsts_in begin) (fact_in facts) rows rule
    out l = let n : length begin ≡ length facts = eqb-true (length begin) (length facts) x.counted in record {
      begins = λ k h. absurd (no_kind k (rw (← unknown_begins begin rule (omega (arith, n, l))) at h));
      empty = λ e. absurd (let f : false ≡ (fact_in facts rule).empty = ap (λ (v : Fact). v.empty) (unknown facts rule l) in cc (e, f));
    }

    go : (b : Bool) → nat_lt rule (length facts) ≡ b → Tight (firsts_in begin) (fact_in facts) rows rule
    go true e = tight_below (firsts_in begin) (fact_in facts) rows (length facts) rule x.tight (ltb-true rule (length facts) e)
    go false e = out (ltb-false rule (length facts) e)

-- Items that may be empty are.
pub derives_empty : (begin : List ℕ) (facts : List Fact) (rows : List Row) → Exact begin facts rows → is_predictive (fact_in facts) rows ≡ true → (n : ℕ) (s : List Item) → lead (fact_in facts) s < n → may_be_empty (fact_in facts) s ≡ true →
    (es : List Event) × Derives rows s [] es
derives_empty begin facts rows x p zero s l e = absurd (let z : ⊥ = omega (arith, l) in z)
derives_empty begin facts rows x p (suc n) [] l e = ([], nothing)
derives_empty begin facts rows x p (suc n) (Token k ∷ s) l e = absurd (cc e)
derives_empty begin facts rows x p (suc n) (Phrase q ∷ s) l e = absurd (cc e)
derives_empty begin facts rows x p (suc n) (Rule r ∷ s) l e =
    let b = both (fact_in facts r).empty (may_be_empty (fact_in facts) s) e in
    let w = (tight begin facts rows r x).empty b.0 in
    let less : lead (fact_in facts) ((w.row).items ++ s) < lead (fact_in facts) (Rule r ∷ s) = leads rows (fact_in facts) r w.number w.row s p w.found w.ruled in
    let d = derives_empty begin facts rows x p n ((w.row).items ++ s) (omega (arith, less, l)) (empty_both (fact_in facts) (w.row).items s w.holds b.1) in
    (made_by (w.row).action d.0, choice w.number w.row w.found w.ruled d.1)

-- A derivation that begins with a token of the kind.
pub record Begun (rows : List Row) (s : List Item) (kind : ℕ) : Type 0 where
  pub first : tokens.Token
  pub others : List tokens.Token
  pub events : List Event
  pub kinds : token_kind first ≡ kind
  pub derives : Derives rows s (first ∷ others) events

chosen : (rows : List Row) (r n : ℕ) (row : Row) (s : List Item) (k : ℕ) → slice_get rows n ≡ Some row → row.rule ≡ r → Begun rows (row.items ++ s) k → Begun rows (Rule r ∷ s) k
chosen rows r n row s k at ruled b = record { first = b.first; others = b.others; events = made_by row.action b.events; kinds = b.kinds; derives = choice n row at ruled b.derives }

taken_first : (rows : List Row) (j k : ℕ) (s : List Item) (ts : List tokens.Token) (es : List Event) → Derives rows (Token j ∷ s) ts es → j ≡ k → Begun rows (Token j ∷ s) k
taken_first rows j k s ts es d e = let t = took d in record { first = t.first; others = t.behind; events = _; kinds = t.kinds ∙ e; derives = token t.first t.kinds t.rest }

pub begun : (begin : List ℕ) (facts : List Fact) (rows : List Row) → Exact begin facts rows → is_predictive (fact_in facts) rows ≡ true → (n : ℕ) (s : List Item) (k : ℕ) → lead (fact_in facts) s < n →
    has (first_kinds (firsts_in begin) (fact_in facts) s) k ≡ true → Closes rows s → Begun rows s k
begun begin facts rows x p zero s k l h c = absurd (let z : ⊥ = omega (arith, l) in z)
begun begin facts rows x p (suc n) [] k l h c = absurd (no_kind k h)
begun begin facts rows x p (suc n) (Token j ∷ s) k l h c = taken_first rows j k s c.0 c.1 c.2 (first_token j k h)
begun begin facts rows x p (suc n) (Phrase q ∷ s) k l h c =
    let f = starts q k h in
    let b = closes_below rows (Phrase q) s c in
    record { first = f.first; others = f.others ++ b.0; events = _; kinds = f.kinds; derives = phrase (f.first ∷ f.others) (f.spelled).0 (f.spelled).1 refl b.2 }
begun begin facts rows x p (suc n) (Rule r ∷ s) k l h c =
    go (fact_in facts r).empty refl (has_or (firsts_in begin r) (if (fact_in facts r).empty then first_kinds (firsts_in begin) (fact_in facts) s else 0) k h)
    (λ row number at ruled starts. let less : lead (fact_in facts) (row.items ++ s) < lead (fact_in facts) (Rule r ∷ s) = leads rows (fact_in facts) r number row s p at ruled in
    begun begin facts rows x p n (row.items ++ s) k (omega (arith, less, l)) starts (closes_over rows row.items s (rows_end begin facts rows x number row at) (closes_below rows (Rule r) s c)))
  where
    go : (b : Bool) → (fact_in facts r).empty ≡ b → (has (firsts_in begin r) k ≡ true) ⊎ (has (if (fact_in facts r).empty then first_kinds (firsts_in begin) (fact_in facts) s else 0) k ≡ true) →
        ((row : Row) (number : ℕ) → slice_get rows number ≡ Some row → row.rule ≡ r → has (first_kinds (firsts_in begin) (fact_in facts) (row.items ++ s)) k ≡ true → Begun rows (row.items ++ s) k) → Begun rows (Rule r ∷ s) k
    go b e (inl a) next =
        let w = (tight begin facts rows r x).begins k a in
        chosen rows r w.number w.row s k w.found w.ruled (next w.row w.number w.found w.ruled (first_in (firsts_in begin) (fact_in facts) (w.row).items s k w.holds))
    go false e (inr a) next = absurd (no_kind k (rw e at a))
    go true e (inr a) next =
        let w = (tight begin facts rows r x).empty e in
        let h : has (first_kinds (firsts_in begin) (fact_in facts) s) k ≡ true = rw e at a in
        chosen rows r w.number w.row s k w.found w.ruled (next w.row w.number w.found w.ruled (first_past (firsts_in begin) (fact_in facts) (w.row).items s k w.holds h))
