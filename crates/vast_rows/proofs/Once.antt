-- The next token tells the row, and so the derivation.
use Rattle.std.proofs.Common.{◌≡◌, ℕ, suc, List, [], ◌∷◌, ◌++◌, true, nat_lt, Some, refl, sym, ap, ◌∙◌, subst, if◌then◌else◌}
use Rattle.std.specs.List.{slice_get}
use Rattle.vast_literal.specs.Tokens as tokens
use Rattle.vast_rows.specs.declared.grammar.Item.{Item}
use Rattle.vast_rows.specs.declared.grammar.Item.TheVariants.{Rule, Phrase}
use Rattle.vast_rows.specs.declared.grammar.Phrase as code
use Rattle.vast_rows.specs.Internal.Derives.{Derives, nothing, token, phrase, choice}
use Rattle.vast_rows.specs.Kinds.{has}
use Rattle.vast_rows.specs.Internal.Sources.{head_kind}
use Rattle.vast_rows.specs.Internal.Sets.{within, only}
use Rattle.vast_rows.specs.Internal.PhraseKinds.{stops}
use Rattle.vast_rows.specs.Internal.Predictive.{row_at, starts, begins, follows, may_be_empty, lead, are_good, are_apart, are_together, is_predictive}
use Rattle.vast_rows.specs.Facts.{Fact}
use Rattle.vast_rows.specs.Rows.{Row}
use Rattle.vast_rows.specs.Events.{Event}
use Rattle.vast_rows.proofs.PhraseLaws.{begins as phrase_begins}
use Rattle.vast_rows.proofs.RowLaws.{good_at, first_at, follows_append}
use Rattle.vast_rows.proofs.Sets.{both, some_one, has_within, has_only, end_within}

-- What the check says of a row.
pub record Good (facts : ℕ → Fact) (row : Row) : Type 0 where
  pub listed : within row.looks (facts row.rule).begins ≡ true
  pub starts_within : within (begins facts (facts row.rule).follow row.items) row.looks ≡ true
  pub follows_within : follows facts (facts row.rule).follow row.items ≡ true
  pub leads_below : nat_lt (lead facts row.items) (suc (facts row.rule).rank) ≡ true
  pub empties : (if may_be_empty facts row.items then (facts row.rule).empty else true) ≡ true

pub good : (rows : List Row) (facts : ℕ → Fact) (n : ℕ) (row : Row) → is_predictive facts rows ≡ true → slice_get rows n ≡ Some row → Good facts row
good rows facts n row p e =
    let a = both _ _ (good_at facts rows n row (both (are_good facts rows) _ p).0 e) in
    let b = both _ _ a.1 in let c = both _ _ b.1 in let d = both _ _ c.1 in
    record { listed = a.0; starts_within = b.0; follows_within = c.0; leads_below = d.0; empties = d.1 }

-- A row in the place of its rule.
pub follows_row : (facts : ℕ → Fact) (row : Row) (s : List Item) → Good facts row → follows facts (only 0) (Rule row.rule ∷ s) ≡ true →
    follows facts (only 0) (row.items ++ s) ≡ true
follows_row facts row s g f = let b = both (within (begins facts (only 0) s) (facts row.rule).follow) (follows facts (only 0) s) f in
    follows_append facts (facts row.rule).follow (only 0) row.items s g.follows_within b.1 b.0

begins_row : (facts : ℕ → Fact) (f looks : ℕ) (items s : List Item) (k : ℕ) → within (begins facts f items) looks ≡ true → within (begins facts (only 0) s) f ≡ true →
    has (begins facts (only 0) (items ++ s)) k ≡ true → has looks k ≡ true
begins_row facts f looks [] s k w v h = has_within f looks k w (has_within (begins facts (only 0) s) f k v h)
begins_row facts f looks (i ∷ items) s k w v h = has_within (starts facts i) looks k w h

-- The next token is one at which the row is taken.
looked : (facts : ℕ → Fact) (row : Row) (s : List Item) (k : ℕ) → Good facts row → follows facts (only 0) (Rule row.rule ∷ s) ≡ true →
    has (begins facts (only 0) (row.items ++ s)) k ≡ true → has row.looks k ≡ true
looked facts row s k g f h = let b = both (within (begins facts (only 0) s) (facts row.rule).follow) (follows facts (only 0) s) f in
    begins_row facts (facts row.rule).follow row.looks row.items s k g.starts_within b.0 h

-- The same of a rule by its number.
pub follows_rule : (facts : ℕ → Fact) (row : Row) (r : ℕ) (s : List Item) → row.rule ≡ r → follows facts (only 0) (Rule r ∷ s) ≡ true → follows facts (only 0) (Rule row.rule ∷ s) ≡ true
follows_rule facts row r s ruled f = subst (λ (v : ℕ). follows facts (only 0) (Rule v ∷ s) ≡ true) (sym ruled) f

pub start_follows : (facts : ℕ → Fact) (start : ℕ) → has (facts start).follow 0 ≡ true → follows facts (only 0) (Rule start ∷ []) ≡ true
start_follows facts start h = rw (end_within (facts start).follow h) refl

pub heads : {rows : List Row} {s : List Item} {ts : List tokens.Token} {cs : List Event} (facts : ℕ → Fact) → is_predictive facts rows ≡ true → follows facts (only 0) s ≡ true → Derives rows s ts cs →
    has (begins facts (only 0) s) (head_kind ts) ≡ true
heads facts p f nothing = refl
heads facts p f (token {k = k} t e d) = has_only k _ (sym e)
heads facts p f (phrase {p = part} {ts = ts} ps m i e d) = rw e (phrase_begins part ps ts m i)
heads {rows} {ts = ts} facts p f (choice {r = r} {s = s} n row e ruled d) =
    let g = good rows facts n row p e in
    let f' = follows_rule facts row r s ruled f in
    subst (λ (v : ℕ). has (facts v).begins (head_kind ts) ≡ true) ruled (has_within row.looks (facts row.rule).begins (head_kind ts) g.listed
    (looked facts row s (head_kind ts) g f' (heads facts p (follows_row facts row s g f') d)))

-- The row of a choice is the one that the machine takes.
pub taken : {rows : List Row} {ts : List tokens.Token} {cs : List Event} (s : List Item) (facts : ℕ → Fact) (n r : ℕ) (row : Row) → is_predictive facts rows ≡ true → follows facts (only 0) (Rule r ∷ s) ≡ true →
    slice_get rows n ≡ Some row → row.rule ≡ r → Derives rows (row.items ++ s) ts cs → row_at facts rows r (head_kind ts) ≡ Some n
taken {rows} {ts = ts} s facts n r row p f e ruled d =
    let g = good rows facts n row p e in
    let f' = follows_rule facts row r s ruled f in
    let q = both (are_apart rows) (are_together facts rows) (both (are_good facts rows) _ p).1 in
    subst (λ (v : ℕ). row_at facts rows v (head_kind ts) ≡ Some n) ruled (first_at facts rows n row (head_kind ts) q.0 q.1 e
    (looked facts row s (head_kind ts) g f' (heads facts p (follows_row facts row s g f') d)))

-- After a phrase is what ends it.
pub stopped : {rows : List Row} {ts : List tokens.Token} {cs : List Event} (part : code.Phrase) (s : List Item) (facts : ℕ → Fact) → is_predictive facts rows ≡ true → follows facts (only 0) (Phrase part ∷ s) ≡ true →
    Derives rows s ts cs → has (stops part) (head_kind ts) ≡ true
stopped {ts = ts} part s facts p f d = let b = both (within (begins facts (only 0) s) (stops part)) (follows facts (only 0) s) f in
    has_within (begins facts (only 0) s) (stops part) (head_kind ts) b.0 (heads facts p b.1 d)

-- Two rows in the place of one rule, before the same tokens, are one.
pub one_row : {rows : List Row} {ts us : List tokens.Token} {cs ds : List Event} (s : List Item) (facts : ℕ → Fact) (n m r : ℕ) (row other : Row) → is_predictive facts rows ≡ true → follows facts (only 0) (Rule r ∷ s) ≡ true → ts ≡ us →
    slice_get rows n ≡ Some row → row.rule ≡ r → Derives rows (row.items ++ s) ts cs → slice_get rows m ≡ Some other → other.rule ≡ r → Derives rows (other.items ++ s) us ds → (n ≡ m) × (row ≡ other)
one_row {rows} {ts = ts} {us = us} s facts n m r row other p f same e ruled d e' ruled' d' =
    let t = taken s facts n r row p f e ruled d in
    let u = taken s facts m r other p f e' ruled' d' in
    let nm : n ≡ m = some_one n m (sym t ∙ (ap (λ (v : List tokens.Token). row_at facts rows r (head_kind v)) same ∙ u)) in
    (nm, some_one row other (sym e ∙ (ap (slice_get rows) nm ∙ e')))
