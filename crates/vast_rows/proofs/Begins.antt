-- What items derive begins with the kinds that are told of them, and with each of these.
use Rattle.std.proofs.Common.{◌≡◌, ℕ, suc, zero, List, [], ◌∷◌, ◌++◌, Bool, true, false, ◌&&◌, nat_lt, Some, refl, sym, ◌∙◌, ◌⊎◌, inl, inr, if◌then◌else◌}
use Rattle.std.specs.List.{slice_get}
use Rattle.std.specs.Int.Bits.{bit_or}
use Rattle.vast_literal.specs.Tokens as tokens
use Rattle.vast_rows.specs.declared.grammar.Item.{Item}
use Rattle.vast_rows.specs.declared.grammar.Item.TheVariants.{Token, Rule, Phrase}
use Rattle.vast_rows.specs.Events.{Event}
use Rattle.vast_rows.specs.Facts.{Fact}
use Rattle.vast_rows.specs.Internal.Derives.{Derives, nothing, token, phrase, choice}
use Rattle.vast_rows.specs.Internal.Firsts.{kinds_of_token, first_kinds, are_closed}
use Rattle.vast_rows.specs.Internal.PhraseKinds.{firsts}
use Rattle.vast_rows.specs.Internal.Predictive.{may_be_empty, is_predictive}
use Rattle.vast_rows.specs.Internal.Sets.{within}
use Rattle.vast_rows.specs.Internal.Sources.{head_kind}
use Rattle.vast_rows.specs.Kinds.{has, token_kind}
use Rattle.vast_rows.specs.Rows.{Row}
use Rattle.vast_rows.proofs.Once.{Good, good}
use Rattle.vast_rows.proofs.PhraseLaws.{begins as phrase_begins}
use Rattle.vast_rows.proofs.PhraseStarts.{no_end}
use Rattle.vast_rows.proofs.Sets.{both, some_one, has_or, or_first, or_second, has_only, only_has, has_within, no_kind}
use Rattle.vast_rows.proofs.TokenKinds.{small_kind}

-- A token that is due, and its kind.
token_first : (t : tokens.Token) (k : ℕ) → token_kind t ≡ k → has (kinds_of_token k) (token_kind t) ≡ true
token_first t k e = rw (← e, small_kind t) (has_only (token_kind t) (token_kind t) refl)

pub first_token : (j k : ℕ) → has (kinds_of_token j) k ≡ true → j ≡ k
first_token j k h = go (nat_lt j 128) refl
  where
    go : (b : Bool) → nat_lt j 128 ≡ b → j ≡ k
    go true e = only_has j k (rw e at h)
    go false e = absurd (no_kind k (rw e at h))

module _ (begin : ℕ → ℕ) (facts : ℕ → Fact) where
  -- The kinds of items one after the other.
  first_over : (items s : List Item) (k : ℕ) → has (first_kinds begin facts (items ++ s)) k ≡ true →
      (has (first_kinds begin facts items) k ≡ true) ⊎ ((may_be_empty facts items ≡ true) × (has (first_kinds begin facts s) k ≡ true))
  first_over [] s k h = inr (refl, h)
  first_over (Token j ∷ items) s k h = inl h
  first_over (Phrase p ∷ items) s k h = inl h
  first_over (Rule r ∷ items) s k h = go (facts r).empty refl (has_or (begin r) (if (facts r).empty then first_kinds begin facts (items ++ s) else 0) k h) (first_over items s k)
    where
      go : (b : Bool) → (facts r).empty ≡ b → (has (begin r) k ≡ true) ⊎ (has (if (facts r).empty then first_kinds begin facts (items ++ s) else 0) k ≡ true) →
          (has (first_kinds begin facts (items ++ s)) k ≡ true → (has (first_kinds begin facts items) k ≡ true) ⊎ ((may_be_empty facts items ≡ true) × (has (first_kinds begin facts s) k ≡ true))) →
          (has (bit_or (begin r) (if (facts r).empty then first_kinds begin facts items else 0)) k ≡ true) ⊎ (((facts r).empty && may_be_empty facts items) ≡ true × (has (first_kinds begin facts s) k ≡ true))
      go b e (inl a) next = inl (or_first (begin r) _ k a)
      go false e (inr a) next = absurd (no_kind k (rw e at a))
      go true e (inr a) next = past (next (rw e at a))
        where
          past : (has (first_kinds begin facts items) k ≡ true) ⊎ ((may_be_empty facts items ≡ true) × (has (first_kinds begin facts s) k ≡ true)) →
              (has (bit_or (begin r) (if (facts r).empty then first_kinds begin facts items else 0)) k ≡ true) ⊎ (((facts r).empty && may_be_empty facts items) ≡ true × (has (first_kinds begin facts s) k ≡ true))
          past (inl c) = inl (rw e (or_second (begin r) (first_kinds begin facts items) k c))
          past (inr c) = inr (rw (e, c.0) refl, c.1)

  pub first_in : (items s : List Item) (k : ℕ) → has (first_kinds begin facts items) k ≡ true → has (first_kinds begin facts (items ++ s)) k ≡ true
  first_in [] s k h = absurd (no_kind k h)
  first_in (Token j ∷ items) s k h = h
  first_in (Phrase p ∷ items) s k h = h
  first_in (Rule r ∷ items) s k h = go (facts r).empty refl (has_or (begin r) (if (facts r).empty then first_kinds begin facts items else 0) k h) (first_in items s k)
    where
      go : (b : Bool) → (facts r).empty ≡ b → (has (begin r) k ≡ true) ⊎ (has (if (facts r).empty then first_kinds begin facts items else 0) k ≡ true) →
          (has (first_kinds begin facts items) k ≡ true → has (first_kinds begin facts (items ++ s)) k ≡ true) →
          has (bit_or (begin r) (if (facts r).empty then first_kinds begin facts (items ++ s) else 0)) k ≡ true
      go b e (inl a) next = or_first (begin r) _ k a
      go false e (inr a) next = absurd (no_kind k (rw e at a))
      go true e (inr a) next = or_second (begin r) _ k (rw e (next (rw e at a)))

  pub first_past : (items s : List Item) (k : ℕ) → may_be_empty facts items ≡ true → has (first_kinds begin facts s) k ≡ true → has (first_kinds begin facts (items ++ s)) k ≡ true
  first_past [] s k e h = h
  first_past (Token j ∷ items) s k e h = absurd (cc e)
  first_past (Phrase p ∷ items) s k e h = absurd (cc e)
  first_past (Rule r ∷ items) s k e h =
      let b = both (facts r).empty (may_be_empty facts items) e in
      or_second (begin r) _ k (rw b.0 (first_past items s k b.1 h))

empty_over : (facts : ℕ → Fact) (items s : List Item) → may_be_empty facts (items ++ s) ≡ true → (may_be_empty facts items ≡ true) × (may_be_empty facts s ≡ true)
empty_over facts [] s e = (refl, e)
empty_over facts (Token k ∷ items) s e = absurd (cc e)
empty_over facts (Phrase p ∷ items) s e = absurd (cc e)
empty_over facts (Rule r ∷ items) s e =
    let b = both (facts r).empty (may_be_empty facts (items ++ s)) e in
    let c = empty_over facts items s b.1 in
    (rw (b.0, c.0) refl, c.1)

pub empty_both : (facts : ℕ → Fact) (items s : List Item) → may_be_empty facts items ≡ true → may_be_empty facts s ≡ true → may_be_empty facts (items ++ s) ≡ true
empty_both facts [] s e f = f
empty_both facts (Token k ∷ items) s e f = absurd (cc e)
empty_both facts (Phrase p ∷ items) s e f = absurd (cc e)
empty_both facts (Rule r ∷ items) s e f =
    let b = both (facts r).empty (may_be_empty facts items) e in
    rw (b.0, empty_both facts items s b.1 f) refl

-- What is derived begins so.

closed_at : (begin : ℕ → ℕ) (facts : ℕ → Fact) (xs : List Row) (i : ℕ) (row : Row) → are_closed begin facts xs ≡ true → slice_get xs i ≡ Some row → within (first_kinds begin facts row.items) (begin row.rule) ≡ true
closed_at begin facts [] i row h e = absurd (cc)
closed_at begin facts (x ∷ xs) zero row h e = let f : x ≡ row = some_one x row e in rw (← f) (both (within (first_kinds begin facts x.items) (begin x.rule)) (are_closed begin facts xs) h).0
closed_at begin facts (x ∷ xs) (suc i) row h e = closed_at begin facts xs i row (both (within (first_kinds begin facts x.items) (begin x.rule)) (are_closed begin facts xs) h).1 e

empty_row : (facts : ℕ → Fact) (row : Row) (r : ℕ) → Good facts row → row.rule ≡ r → may_be_empty facts row.items ≡ true → (facts r).empty ≡ true
empty_row facts row r g ruled e = let x : (if may_be_empty facts row.items then (facts row.rule).empty else true) ≡ true = g.empties in
    let y : (facts row.rule).empty ≡ true = rw e at x in rw (← ruled) y

pub first_of : {rows : List Row} {s : List Item} {ts : List tokens.Token} {cs : List Event} (begin : ℕ → ℕ) (facts : ℕ → Fact) → is_predictive facts rows ≡ true → are_closed begin facts rows ≡ true →
    Derives rows s ts cs → (t : tokens.Token) (us : List tokens.Token) → ts ≡ t ∷ us → has (first_kinds begin facts s) (token_kind t) ≡ true
first_of begin facts p c nothing t us e = absurd (cc e)
first_of begin facts p c (token {k = k} t' i d) t us e = let same : t' ≡ t = cc e in rw (← same) (token_first t' k i)
first_of begin facts p c (phrase {p = part} {ts = vs} ps m i e' d) t us e =
    let h : has (firsts part) (head_kind (ps ++ vs)) ≡ true = phrase_begins part ps vs m i in
    let f : ps ++ vs ≡ t ∷ us = sym e' ∙ e in rw f at h
first_of {rows} begin facts p c (choice {r = r} {s = s} n row at ruled d) t us e =
    go (first_over begin facts row.items s (token_kind t) (first_of begin facts p c d t us e))
  where
    go : (has (first_kinds begin facts row.items) (token_kind t) ≡ true) ⊎ ((may_be_empty facts row.items ≡ true) × (has (first_kinds begin facts s) (token_kind t) ≡ true)) →
        has (bit_or (begin r) (if (facts r).empty then first_kinds begin facts s else 0)) (token_kind t) ≡ true
    go (inl a) = let w : has (begin row.rule) (token_kind t) ≡ true = has_within _ (begin row.rule) (token_kind t) (closed_at begin facts rows n row c at) a in
        or_first (begin r) _ (token_kind t) (rw ruled at w)
    go (inr a) = or_second (begin r) _ (token_kind t) (rw (empty_row facts row r (good rows facts n row p at) ruled a.0) a.1)

pub empty_of : {rows : List Row} {s : List Item} {ts : List tokens.Token} {cs : List Event} (facts : ℕ → Fact) → is_predictive facts rows ≡ true → Derives rows s ts cs → ts ≡ [] → may_be_empty facts s ≡ true
empty_of facts p nothing e = refl
empty_of facts p (token t i d) e = absurd (cc e)
empty_of facts p (phrase {p = part} {ts = vs} ps m i e' d) e =
    let h : has (firsts part) (head_kind (ps ++ vs)) ≡ true = phrase_begins part ps vs m i in
    let f : ps ++ vs ≡ [] = sym e' ∙ e in absurd (no_end part (rw f at h))
empty_of {rows} facts p (choice {r = r} {s = s} n row at ruled d) e =
    let b = empty_over facts row.items s (empty_of facts p d e) in
    rw (empty_row facts row r (good rows facts n row p at) ruled b.0, b.1) refl
