-- How the row of a rule is found.
use Rattle.std.proofs.Common.{◌≡◌, ℕ, suc, zero, ◌+◌, ◌<◌, ◌≤◌, List, [], ◌∷◌, length, get_or, drop, Some, None, refl, sym, ap, ◌∙◌, arith, add-one, drop-cons, true, nat_eq, if◌then◌else◌}
use Rattle.std.specs.List.{slice_get}
use Rattle.std.proofs.lemmas.Bool.{eq-eqb}
use Rattle.vast_rows.specs.declared.grammar.Fact as facts
use Rattle.vast_rows.specs.declared.grammar.Row as code
use Rattle.vast_rows.specs.declared.grammar.Item.{Item}
use Rattle.vast_rows.specs.Facts.{fact_in, fact_view, facts_view}
use Rattle.vast_rows.specs.Internal.Reading.{IsTaken}
use Rattle.vast_rows.specs.Kinds.{has}
use Rattle.vast_rows.specs.Facts.{Fact}
use Rattle.vast_rows.specs.Internal.Predictive.{row_from, row_at}
use Rattle.vast_rows.specs.Rows.{Row, row_view, rows_view, span_of}

-- What a list of facts says of a rule.
pub known : (fs : List facts.Fact) (r : ℕ) (f : facts.Fact) → r < length fs → f ≡ get_or fs r f → fact_view f ≡ fact_in (facts_view fs) r
known [] r f h e = absurd (let z : ⊥ = omega arith in z)
known (x ∷ fs) zero f h e = ap fact_view e
known (x ∷ fs) (suc r) f h e = known fs r f (omega arith) e

pub unknown : (fs : List Fact) (r : ℕ) → length fs ≤ r → fact_in [] r ≡ fact_in fs r
unknown [] r h = refl
unknown (x ∷ fs) zero h = absurd (let z : ⊥ = omega arith in z)
unknown (x ∷ fs) (suc r) h = unknown fs r (omega arith)

pub unknown_viewed : (fs : List facts.Fact) (r : ℕ) → length fs ≤ r → fact_in [] r ≡ fact_in (facts_view fs) r
unknown_viewed [] r h = refl
unknown_viewed (x ∷ fs) zero h = absurd (let z : ⊥ = omega arith in z)
unknown_viewed (x ∷ fs) (suc r) h = unknown_viewed fs r (omega arith)

-- At the row of a place.
row_here : (items : List Item) (rows : List code.Row) (n rule kind : ℕ) (d : code.Row) → n < length rows →
    row_from (rows_view items (drop n rows)) rule kind n
    ≡ (if nat_eq (get_or rows n d).rule rule then (if has (get_or rows n d).looks kind then Some n else row_from (rows_view items (drop (n + 1) rows)) rule kind (n + 1)) else None)
row_here items rows n rule kind d h = rw (add-one, drop-cons rows n d h) refl

row_viewed : (items : List Item) (rows : List code.Row) (n : ℕ) (d : code.Row) → n < length rows → slice_get (rows_view items rows) n ≡ Some (row_view items (get_or rows n d))
row_viewed items [] n d h = absurd (let z : ⊥ = omega arith in z)
row_viewed items (r ∷ rows) zero d h = refl
row_viewed items (r ∷ rows) (suc n) d h = row_viewed items rows n d (omega arith)

-- What the loop keeps: the search goes on from a place.
abbrev pub GoesOn : (facts : ℕ → Fact) (items : List Item) (rows : List code.Row) (rule kind at : ℕ) → Type 0
GoesOn facts items rows rule kind at = row_from (rows_view items (drop at rows)) rule kind at ≡ row_at facts (rows_view items rows) rule kind

pub starts_there : (facts : ℕ → Fact) (items : List Item) (rows : List code.Row) (rule kind at : ℕ) → at ≡ (facts rule).first_row → GoesOn facts items rows rule kind at
starts_there facts items rows rule kind at e = rw e (ap (λ (v : List Row). row_from v rule kind (facts rule).first_row) (sym (drop_view (facts rule).first_row rows)))
  where
    drop_view : (n : ℕ) (rows : List code.Row) → drop n (rows_view items rows) ≡ rows_view items (drop n rows)
    drop_view zero rows = refl
    drop_view (suc n) [] = refl
    drop_view (suc n) (x ∷ rows) = drop_view n rows

pub is_taken : (facts : ℕ → Fact) (items : List Item) (rows : List code.Row) (rule kind at : ℕ) (d : code.Row) (its : List Item) → GoesOn facts items rows rule kind at → at < length rows →
    (get_or rows at d).rule ≡ rule → has (get_or rows at d).looks kind ≡ true → its ≡ span_of items (get_or rows at d).items (get_or rows at d).items_end → IsTaken facts (rows_view items rows) rule kind at its (get_or rows at d).action
is_taken facts items rows rule kind at d its g h r l i = record {
  row = row_view items (get_or rows at d);
  first = sym g ∙ (row_here items rows at rule kind d h ∙ rw (eq-eqb (get_or rows at d).rule rule r, l) refl);
  found = row_viewed items rows at d h;
  ruled = r;
  has_items = sym i;
  has_action = refl;
}
