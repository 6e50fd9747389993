-- Laws of name sets.
use Rattle.std.proofs.Common.{◌≡◌, ◌≢◌, ◌↔◌, ℕ, Bool, true, false, not, IsTrue, List, [], ◌∷◌, ◌++◌, Contains, refl, sym, ◌∙◌, arith}
use Rattle.std.proofs.lemmas.List.{get_or_default}
use Rattle.std.proofs.lemmas.List.Elements.{All-contains}
use Rattle.std.proofs.lemmas.List.Sums.{fold_push}
use Rattle.std.proofs.lemmas.Map.Views.{All-insert_key}
use Rattle.std.proofs.lemmas.Map.Text.{is_eq-slice_cmp}
use Rattle.std.proofs.lemmas.Slice.Eq.{bytes_eq-Decides}
use Rattle.std.specs.declared.cmp.Ordering.{Ordering}
use Rattle.std.specs.declared.cmp.Ordering.TheVariants.{Less, Equal, Greater}
use Rattle.std.specs.Ordering.{nat_cmp, is_eq}
use Rattle.std.specs.Cmp.Lexicographic.{slice_cmp}
use Rattle.std.specs.List.{fold}
use Rattle.vast_core.specs.Records.{IsFree, with_name, in_byte_order}
use Rattle.vast_core.proofs.Lists.{All-cons, All-head, All-tail}

pub test-equal : (a b : List ℕ) → is_eq (slice_cmp nat_cmp a b) ≡ true → b ≡ a
test-equal a b h = sym ((bytes_eq-Decides a b).0 (sym (is_eq-slice_cmp a b) ∙ h))

-- A set with a name more.

without-case :
    (name new x : List ℕ) (xs : List (List ℕ)) (o : Ordering) → slice_cmp nat_cmp new x ≡ o → (IsFree name (with_name new xs) → (new ≢ name) × IsFree name xs) → IsFree name (with_name new (x ∷ xs)) →
    (new ≢ name) × IsFree name (x ∷ xs)
without-case name new x xs Less e h =
    let P : List ℕ → Type 0 = λ taken. taken ≢ name in
    rw e (λ k. (All-head P new (x ∷ xs) k, All-tail P new (x ∷ xs) k))
without-case name new x xs Equal e h =
    let P : List ℕ → Type 0 = λ taken. taken ≢ name in
    let same : x ≡ new = test-equal new x (rw e refl) in
    rw e (λ k. ((λ is. All-head P x xs k (same ∙ is)), k))
without-case name new x xs Greater e h =
    let P : List ℕ → Type 0 = λ taken. taken ≢ name in
    rw e (λ k. ((h (All-tail P x (with_name new xs) k)).0, All-cons P x xs (All-head P x (with_name new xs) k) (h (All-tail P x (with_name new xs) k)).1))

free-without : (name new : List ℕ) (names : List (List ℕ)) → IsFree name (with_name new names) → (new ≢ name) × IsFree name names
free-without name new [] h = (All-head (λ taken. taken ≢ name) new [] h, λ k d below. absurd (omega arith))
free-without name new (x ∷ xs) h = without-case name new x xs (slice_cmp nat_cmp new x) refl (free-without name new xs) h

pub free-with_name : (name new : List ℕ) (names : List (List ℕ)) → IsFree name (with_name new names) ↔ (new ≢ name) × IsFree name names
free-with_name name new names = (free-without name new names, λ h. All-insert_key (slice_cmp nat_cmp) new (λ taken. taken ≢ name) names h.1 h.0)

-- The names that were entered, in byte order.

pub entered-one : (names : List (List ℕ)) (name : List ℕ) → in_byte_order (names ++ name ∷ []) ≡ with_name name (in_byte_order names)
entered-one names name = fold_push (λ sorted name. with_name name sorted) [] names name

free-entered : (name : List ℕ) (sorted names : List (List ℕ)) → IsFree name (fold (λ sorted name. with_name name sorted) sorted names) → IsFree name sorted × IsFree name names
free-entered name sorted [] h = (h, λ k d below. absurd (omega arith))
free-entered name sorted (x ∷ xs) h =
    let rest = free-entered name (with_name x sorted) xs h in
    let first = (free-with_name name x sorted).0 rest.0 in
    (first.1, All-cons (λ taken. taken ≢ name) x xs first.0 rest.1)

entered-free : (name : List ℕ) (sorted names : List (List ℕ)) → IsFree name sorted → IsFree name names → IsFree name (fold (λ sorted name. with_name name sorted) sorted names)
entered-free name sorted [] s h = s
entered-free name sorted (x ∷ xs) s h =
    let P : List ℕ → Type 0 = λ taken. taken ≢ name in
    entered-free name (with_name x sorted) xs ((free-with_name name x sorted).1 (All-head P x xs h, s)) (All-tail P x xs h)

-- A name is free exactly where it was not entered.

no-free : (name : List ℕ) (names : List (List ℕ)) → Contains names name → IsFree name (in_byte_order names) → ⊥
no-free name names h free = All-contains (λ taken. taken ≢ name) names name (free-entered name [] names free).1 h refl

is-free : (name : List ℕ) (names : List (List ℕ)) → (Contains names name → ⊥) → IsFree name (in_byte_order names)
is-free name names h =
    entered-free name [] names (λ k d below. absurd (omega arith))
    (λ k d below e. h (k, below, get_or_default names k name d below ∙ e))

pub free-test : (name : List ℕ) (names : List (List ℕ)) (b : Bool) → (IsTrue b ↔ Contains names name) → IsTrue (not b) ↔ IsFree name (in_byte_order names)
free-test name names true h = (λ k. cc, λ k. absurd (no-free name names (h.0 refl) k))
free-test name names false h = (λ k. is-free name names (λ c. let no = h.1 c in cc), λ k. refl)
