-- Each row spells some tokens.
use Rattle.std.proofs.Common.{◌≡◌, ℕ, suc, zero, List, [], ◌∷◌, ◌++◌, length, Bool, true, false, nat_eq, Some, refl, ◌⊎◌, inl, inr, append_assoc, append-nil, if◌then◌else◌}
use Rattle.std.specs.List.{slice_get}
use Rattle.std.specs.Int.Bits.{bit_or}
use Rattle.std.proofs.lemmas.Bool.{eqb-true}
use Rattle.vast_literal.specs.Tokens as tokens
use Rattle.vast_rows.specs.declared.grammar.Item.{Item}
use Rattle.vast_rows.specs.declared.grammar.Item.TheVariants.{Token, Rule, Phrase}
use Rattle.vast_rows.specs.Events.{Event, Reads, name_of, made_by, named_by}
use Rattle.vast_rows.specs.Facts.{Fact, fact_in}
use Rattle.vast_rows.specs.Internal.Derives.{Derives, nothing}
use Rattle.vast_rows.specs.Internal.Firsts.{firsts_in, are_closed, are_tight, samples, is_kind_of_one, have_tokens, end_by, more_ends, ends_after, all_end, all_have_tokens, is_exact}
use Rattle.vast_rows.specs.Internal.Sets.{only}
use Rattle.vast_rows.specs.Kinds.{has, token_kind}
use Rattle.vast_rows.specs.Rows.{Row}
use Rattle.vast_rows.specs.Telling.{Spells, no_items, a_token, a_phrase, a_rule}
use Rattle.vast_rows.proofs.Derivations.{derived, spelled}
use Rattle.vast_rows.proofs.PhraseStarts.{one_phrase}
use Rattle.vast_rows.proofs.Sets.{both, some_one, has_or, only_has, no_kind}

-- Items spell some tokens, whatever else is told.
abbrev pub Ends : List Row → List Item → Type 0
Ends rows items = (fs : List Event) → (ts : List tokens.Token) × (es : List Event) × Spells rows items ts es fs

pub joined : {rows : List Row} {a b : List Item} {ts us : List tokens.Token} {es fs gs : List Event} → Spells rows a ts es fs → Spells rows b us fs gs → Spells rows (a ++ b) (ts ++ us) es gs
joined no_items q = q
joined (a_token t e p) q = a_token t e (joined p q)
joined {us = us} (a_phrase {ps = ps} {ts = ts} i p) q = rw (append_assoc ps ts us) (a_phrase i (joined p q))
joined {us = us} (a_rule {ps = ps} {ts = ts} n row at ruled p r) q = rw (append_assoc ps ts us) (a_rule n row at ruled p (joined r q))

one_of_kind : (ts : List tokens.Token) (k : ℕ) → is_kind_of_one ts k ≡ true → (t : tokens.Token) × (token_kind t ≡ k)
one_of_kind [] k h = absurd (cc h)
one_of_kind (t ∷ ts) k h = go (nat_eq (token_kind t) k) refl h (one_of_kind ts k)
  where
    go : (b : Bool) → nat_eq (token_kind t) k ≡ b → (if b then true else is_kind_of_one ts k) ≡ true → (is_kind_of_one ts k ≡ true → (t : tokens.Token) × (token_kind t ≡ k)) → (t : tokens.Token) × (token_kind t ≡ k)
    go true e h next = (t, eqb-true (token_kind t) k e)
    go false e h next = next h

-- The rules of the set end.
abbrev Known : List Row → ℕ → Type 0
Known rows set = (r : ℕ) → has set r ≡ true → Ends rows (Rule r ∷ [])

items_end : (rows : List Row) (set : ℕ) → Known rows set → (items : List Item) → have_tokens items ≡ true → end_by set items ≡ true → Ends rows items
items_end rows set known [] h e fs = ([], fs, no_items)
items_end rows set known (Token k ∷ s) h e fs =
    let b = both (is_kind_of_one samples k) (have_tokens s) h in
    let t = one_of_kind samples k b.0 in
    let p = items_end rows set known s b.1 e fs in
    (t.0 ∷ p.0, named_by (name_of t.0) p.1, a_token t.0 t.1 p.2)
items_end rows set known (Phrase q ∷ s) h e fs =
    let f = one_phrase q in
    let p = items_end rows set known s h e fs in
    (f.0 ++ p.0, Reads (f.1).0 ∷ p.1, a_phrase (f.1).1 p.2)
items_end rows set known (Rule r ∷ s) h e fs =
    let b = both (has set r) (end_by set s) e in
    let p = items_end rows set known s h b.1 fs in
    let q = known r b.0 p.1 in
    (q.0 ++ p.0, q.1, joined q.2 p.2)

row_ends : (rows : List Row) (n : ℕ) (row : Row) → slice_get rows n ≡ Some row → Ends rows row.items → Ends rows (Rule row.rule ∷ [])
row_ends rows n row at e fs = let p = e fs in (p.0 ++ [], made_by row.action p.1, a_rule n row at refl p.2 no_items)

-- Rows that stand among others.
abbrev Among : (rows xs : List Row) → Type 0
Among rows xs = (i : ℕ) (row : Row) → slice_get xs i ≡ Some row → (n : ℕ) × (slice_get rows n ≡ Some row)

round_ends : (rows xs : List Row) (set : ℕ) → Among rows xs → all_have_tokens xs ≡ true → Known rows set → Known rows (more_ends xs set)
round_ends rows [] set among h known = known
round_ends rows (x ∷ xs) set among h known = go (end_by set x.items) refl (λ s k. round_ends rows xs s (λ i row at. among (suc i) row at) b.1 k)
  where
    b : (have_tokens x.items ≡ true) × (all_have_tokens xs ≡ true)
    b = both (have_tokens x.items) (all_have_tokens xs) h

    more : end_by set x.items ≡ true → (r : ℕ) → (has set r ≡ true) ⊎ (has (only x.rule) r ≡ true) → Ends rows (Rule r ∷ [])
    more e r (inl old) = known r old
    more e r (inr new) = let a = among 0 x refl in
        let same : x.rule ≡ r = only_has x.rule r new in
        rw (← same) (row_ends rows a.0 x a.1 (items_end rows set known x.items b.0 e))

    go : (c : Bool) → end_by set x.items ≡ c → ((s : ℕ) → Known rows s → Known rows (more_ends xs s)) → Known rows (more_ends xs (if c then bit_or set (only x.rule) else set))
    go true e next = next (bit_or set (only x.rule)) (λ r m. more e r (has_or set (only x.rule) r m))
    go false e next = next set known

rounds_end : (rows : List Row) (n set : ℕ) → all_have_tokens rows ≡ true → Known rows set → Known rows (ends_after n rows set)
rounds_end rows zero set h known = known
rounds_end rows (suc n) set h known = rounds_end rows n (more_ends rows set) h (round_ends rows rows set (λ i row at. (i, at)) h known)

tokens_at : (xs : List Row) (i : ℕ) (row : Row) → all_have_tokens xs ≡ true → slice_get xs i ≡ Some row → have_tokens row.items ≡ true
tokens_at [] i row h e = absurd (cc)
tokens_at (x ∷ xs) zero row h e = let f : x ≡ row = some_one x row e in rw (← f) (both (have_tokens x.items) (all_have_tokens xs) h).0
tokens_at (x ∷ xs) (suc i) row h e = tokens_at xs i row (both (have_tokens x.items) (all_have_tokens xs) h).1 e

end_at : (set : ℕ) (xs : List Row) (i : ℕ) (row : Row) → all_end set xs ≡ true → slice_get xs i ≡ Some row → end_by set row.items ≡ true
end_at set [] i row h e = absurd (cc)
end_at set (x ∷ xs) zero row h e = let f : x ≡ row = some_one x row e in rw (← f) (both (end_by set x.items) (all_end set xs) h).0
end_at set (x ∷ xs) (suc i) row h e = end_at set xs i row (both (end_by set x.items) (all_end set xs) h).1 e

-- What the check says.
pub record Exact (begin : List ℕ) (facts : List Fact) (rows : List Row) : Type 0 where
  pub counted : nat_eq (length begin) (length facts) ≡ true
  pub closed : are_closed (firsts_in begin) (fact_in facts) rows ≡ true
  pub tight : are_tight (firsts_in begin) (fact_in facts) rows (length facts) ≡ true
  pub have : all_have_tokens rows ≡ true
  pub end : all_end (ends_after 5 rows 0) rows ≡ true

pub exact : (begin : List ℕ) (facts : List Fact) (rows : List Row) → is_exact begin facts rows ≡ true → Exact begin facts rows
exact begin facts rows h =
    let a = both _ _ h in let b = both _ _ a.1 in let c = both _ _ b.1 in let d = both _ _ c.1 in
    record { counted = a.0; closed = b.0; tight = c.0; have = d.0; end = d.1 }

pub rows_end : (begin : List ℕ) (facts : List Fact) (rows : List Row) → Exact begin facts rows → (n : ℕ) (row : Row) → slice_get rows n ≡ Some row → Ends rows row.items
rows_end begin facts rows x n row at =
    items_end rows (ends_after 5 rows 0) (rounds_end rows 5 0 x.have (λ r h. absurd (no_kind r h))) row.items (tokens_at rows n row x.have at) (end_at (ends_after 5 rows 0) rows n row x.end at)

-- Some tokens are derived from the items.
abbrev pub Closes : List Row → List Item → Type 0
Closes rows s = (ts : List tokens.Token) × (es : List Event) × Derives rows s ts es

-- So they are from items that end, before such.
pub closes_over : (rows : List Row) (items s : List Item) → Ends rows items → Closes rows s → Closes rows (items ++ s)
closes_over rows items s e c = let p = e c.1 in (p.0 ++ c.0, p.1, derived p.2 c.2)

past_first : {rows : List Row} {i : Item} {s : List Item} {ts : List tokens.Token} {es fs : List Event} → Spells rows (i ∷ s) ts es fs → (us : List tokens.Token) × (gs : List Event) × Spells rows s us gs fs
past_first (a_token {ts = ts} {es = es} t e p) = (ts, es, p)
past_first (a_phrase {ts = ts} {es = es} i p) = (ts, es, p)
past_first (a_rule {ts = ts} {fs = fs} n row at ruled p q) = (ts, fs, q)

-- And from those below the first.
pub closes_below : (rows : List Row) (i : Item) (s : List Item) → Closes rows (i ∷ s) → Closes rows s
closes_below rows i s c =
    let p = past_first (spelled c.2) in
    let d : Derives rows (s ++ []) (p.0 ++ []) p.1 = derived p.2 nothing in
    (p.0, p.1, rw (append-nil s, append-nil p.0) at d)
