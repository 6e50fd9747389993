-- What the check says of rows.
use Rattle.std.proofs.Common.{◌≡◌, ℕ, suc, zero, ◌+◌, List, [], ◌∷◌, ◌++◌, Bool, true, false, drop, nat_eq, nat_lt, Some, refl, sym, ap, ◌∙◌, ◌⊎◌, inl, inr, arith, if◌then◌else◌}
use Rattle.std.specs.List.{slice_get}
use Rattle.std.proofs.lemmas.Bool.{eqb-true, eq-eqb}
use Rattle.vast_rows.specs.declared.grammar.Item.{Item}
use Rattle.vast_rows.specs.declared.grammar.Item.TheVariants.{Token, Rule, Phrase}
use Rattle.vast_rows.specs.Kinds.{has}
use Rattle.vast_rows.specs.Internal.Sets.{within, none_shared}
use Rattle.vast_rows.specs.Internal.PhraseKinds.{stops}
use Rattle.vast_rows.specs.Internal.Predictive.{row_from, row_at, starts, begins, follows, is_row_good, are_good, apart_from, are_apart, stand_together, are_together}
use Rattle.vast_rows.specs.Facts.{Fact}
use Rattle.vast_rows.specs.Rows.{Row}
use Rattle.vast_rows.proofs.Sets.{both, some_one, within_trans, unshared}

pub good_at : (facts : ℕ → Fact) (rest : List Row) (i : ℕ) (row : Row) → are_good facts rest ≡ true → slice_get rest i ≡ Some row → is_row_good facts row ≡ true
good_at facts [] i row g e = absurd (cc)
good_at facts (x ∷ rest) zero row g e = let f : x ≡ row = some_one x row e in rw (← f) (both (is_row_good facts x) (are_good facts rest) g).0
good_at facts (x ∷ rest) (suc i) row g e = good_at facts rest i row (both (is_row_good facts x) (are_good facts rest) g).1 e

apart_at : (x : Row) (rows : List Row) (i : ℕ) (row : Row) → apart_from x rows ≡ true → slice_get rows i ≡ Some row → x.rule ≡ row.rule → none_shared x.looks row.looks ≡ true
apart_at x [] i row a e r = absurd (cc)
apart_at x (y ∷ rows) zero row a e r = let f : y ≡ row = some_one y row e in
    let b : (if nat_eq x.rule y.rule then none_shared x.looks y.looks else true) ≡ true = (both _ (apart_from x rows) a).0 in
    let c : (if nat_eq x.rule row.rule then none_shared x.looks row.looks else true) ≡ true = rw f at b in
    let d : none_shared x.looks row.looks ≡ true = rw (eq-eqb x.rule row.rule r) at c in d
apart_at x (y ∷ rows) (suc i) row a e r = apart_at x rows i row (both (if nat_eq x.rule y.rule then none_shared x.looks y.looks else true) (apart_from x rows) a).1 e r

-- The first row of a rule, and from there the one that is taken.

-- The rows of the rule begin at the first of these, where the row before them is of the rule too, or after some of them.
abbrev Reached : (facts : ℕ → Fact) (xs : List Row) (before from n rule k : ℕ) → Type 0
Reached facts xs before from n rule k =
    ((rule ≡ before) × (row_from xs rule k from ≡ Some n))
    ⊎ ((j : ℕ) × ((facts rule).first_row ≡ from + j) × (row_from (drop j xs) rule k (from + j) ≡ Some n))

-- A row that another one goes before.
settle : (facts : ℕ → Fact) (x : Row) (xs : List Row) (before from n rule k : ℕ) → x.rule ≡ rule → (if nat_eq x.rule before then true else nat_eq (facts x.rule).first_row from) ≡ true →
    row_from (x ∷ xs) rule k from ≡ Some n → Reached facts (x ∷ xs) before from n rule k
settle facts x xs before from n rule k r t e = here (nat_eq x.rule before) refl
  where
    here : (b : Bool) → nat_eq x.rule before ≡ b → Reached facts (x ∷ xs) before from n rule k
    here true h = inl (sym r ∙ eqb-true x.rule before h, e)
    here false h = let f : nat_eq (facts x.rule).first_row from ≡ true = rw h at t in
        let g : (facts rule).first_row ≡ from = ap (λ (v : ℕ). (facts v).first_row) (sym r) ∙ eqb-true (facts x.rule).first_row from f in
        let z : from + 0 ≡ from = omega arith in
        inr (0, g ∙ sym z, rw z e)

-- A row further on, of the rule of the first.
past : (x : Row) (xs : List Row) (from i : ℕ) (row : Row) (k n : ℕ) → apart_from x xs ≡ true → slice_get xs i ≡ Some row → has row.looks k ≡ true → row.rule ≡ x.rule → row_from xs row.rule k (suc from) ≡ Some n →
    row_from (x ∷ xs) row.rule k from ≡ Some n
past x xs from i row k n a e h same f = here (has x.looks k) refl
  where
    here : (b : Bool) → has x.looks k ≡ b → row_from (x ∷ xs) row.rule k from ≡ Some n
    here true g = absurd (unshared x.looks row.looks k (apart_at x xs i row a e (sym same)) g h)
    here false g = rw (eq-eqb x.rule row.rule (sym same), g) f

reach : (facts : ℕ → Fact) (xs : List Row) (before from i : ℕ) (row : Row) (k : ℕ) → are_apart xs ≡ true → stand_together facts before from xs ≡ true → slice_get xs i ≡ Some row → has row.looks k ≡ true →
    Reached facts xs before from (from + i) row.rule k
reach facts [] before from i row k a t e h = absurd (cc)
reach facts (x ∷ xs) before from zero row k a t e h =
    let f : x ≡ row = some_one x row e in
    let z : from + 0 ≡ from = omega arith in
    let b = both (if nat_eq x.rule before then true else nat_eq (facts x.rule).first_row from) (stand_together facts x.rule (suc from) xs) t in
    let r : x.rule ≡ row.rule = ap (λ (v : Row). v.rule) f in
    let l : has x.looks k ≡ true = rw (← f) at h in
    settle facts x xs before from (from + 0) row.rule k r b.0 (rw (z, eq-eqb x.rule row.rule r, l) refl)
reach facts (x ∷ xs) before from (suc i) row k a t e h =
    let b = both (if nat_eq x.rule before then true else nat_eq (facts x.rule).first_row from) (stand_together facts x.rule (suc from) xs) t in
    let c = both (apart_from x xs) (are_apart xs) a in
    let z : suc from + i ≡ from + suc i = omega arith in
    go b.0 c.0 (rw z at (reach facts xs x.rule (suc from) i row k c.1 b.1 e h))
  where
    go : (if nat_eq x.rule before then true else nat_eq (facts x.rule).first_row from) ≡ true → apart_from x xs ≡ true → Reached facts xs x.rule (suc from) (from + suc i) row.rule k → Reached facts (x ∷ xs) before from (from + suc i) row.rule k
    go b c (inl r) = settle facts x xs before from (from + suc i) row.rule k (sym r.0) b (past x xs from i row k (from + suc i) c e h r.0 r.1)
    go b c (inr r) = let z : suc from + r.0 ≡ from + suc r.0 = omega arith in inr (suc r.0, r.1 ∙ z, rw z at r.2)

-- The row of a rule that is taken at the kind is the one found.
pub first_at : (facts : ℕ → Fact) (rows : List Row) (n : ℕ) (row : Row) (k : ℕ) → are_apart rows ≡ true → are_together facts rows ≡ true → slice_get rows n ≡ Some row → has row.looks k ≡ true → row_at facts rows row.rule k ≡ Some n
first_at facts [] n row k a t e h = absurd (cc)
first_at facts (x ∷ rows) zero row k a t e h =
    let f : x ≡ row = some_one x row e in
    let r : x.rule ≡ row.rule = ap (λ (v : Row). v.rule) f in
    let l : has x.looks k ≡ true = rw (← f) at h in
    let g = eqb-true (facts x.rule).first_row 0 (both (nat_eq (facts x.rule).first_row 0) (stand_together facts x.rule 1 rows) t).0 in
    let first : (facts row.rule).first_row ≡ 0 = ap (λ (v : ℕ). (facts v).first_row) (sym r) ∙ g in
    rw (first, eq-eqb x.rule row.rule r, l) refl
first_at facts (x ∷ rows) (suc i) row k a t e h =
    let b = both (nat_eq (facts x.rule).first_row 0) (stand_together facts x.rule 1 rows) t in
    let c = both (apart_from x rows) (are_apart rows) a in
    let z : 1 + i ≡ suc i = omega arith in
    go (eqb-true (facts x.rule).first_row 0 b.0) c.0 (rw z at (reach facts rows x.rule 1 i row k c.1 b.1 e h))
  where
    go : (facts x.rule).first_row ≡ 0 → apart_from x rows ≡ true → Reached facts rows x.rule 1 (suc i) row.rule k → row_at facts (x ∷ rows) row.rule k ≡ Some (suc i)
    go b c (inl r) = let first : (facts row.rule).first_row ≡ 0 = ap (λ (v : ℕ). (facts v).first_row) r.0 ∙ b in
        rw first (past x rows 0 i row k (suc i) c e h r.0 r.1)
    go b c (inr r) = let z : 1 + r.0 ≡ suc r.0 = omega arith in let first : (facts row.rule).first_row ≡ suc r.0 = r.1 ∙ z in
        rw first (rw z at r.2)

-- What follows.

pub follows_append : (facts : ℕ → Fact) (f g : ℕ) (items s : List Item) → follows facts f items ≡ true → follows facts g s ≡ true → within (begins facts g s) f ≡ true →
    follows facts g (items ++ s) ≡ true
follows_append facts f g [] s a b w = b
follows_append facts f g (Token k ∷ items) s a b w =
    let c = both (nat_lt 0 k) (follows facts f items) a in
    rw (c.0) (follows_append facts f g items s c.1 b w)
follows_append facts f g (Rule r ∷ []) s a b w =
    let c = both (within f (facts r).follow) true a in
    rw (within_trans (begins facts g s) f (facts r).follow w c.0, b) refl
follows_append facts f g (Rule r ∷ (i ∷ items)) s a b w =
    let c = both (within (starts facts i) (facts r).follow) (follows facts f (i ∷ items)) a in
    rw (c.0) (follows_append facts f g (i ∷ items) s c.1 b w)
follows_append facts f g (Phrase p ∷ []) s a b w =
    let c = both (within f (stops p)) true a in
    rw (within_trans (begins facts g s) f (stops p) w c.0, b) refl
follows_append facts f g (Phrase p ∷ (i ∷ items)) s a b w =
    let c = both (within (starts facts i) (stops p)) (follows facts f (i ∷ items)) a in
    rw (c.0) (follows_append facts f g (i ∷ items) s c.1 b w)
