-- What a stable sort by a test leaves: the elements that pass, in their order, and then the others.
use Rattle.std.proofs.Common.{suc, ◌≡◌, ◌+◌, Bool, true, false, not, ◌&&◌, List, [], ◌∷◌, filter, refl, sym, ap, ◌∙◌, arith}
use Rattle.std.specs.Ordering.{bool_cmp, is_lt}
use Rattle.std.specs.List.Sorted.{IsSortedByKey, IsStableByKey, ties}
use Rattle.std.proofs.lemmas.List.{append-nil}
use Rattle.std.proofs.lemmas.List.Elements.{filter-append}
use Rattle.vast_core.specs.Hoisting.{parted}

-- The others by a test.
abbrev pub other : {A : Type 0} → (A → Bool) → A → Bool
other test x = not (test x)

filter-same : {A : Type 0} (p q : A → Bool) → ((x : A) → p x ≡ q x) → (xs : List A) → filter p xs ≡ filter q xs
filter-same p q h [] = refl
filter-same p q h (x ∷ xs) = rw (h x, filter-same p q h xs) refl

-- A filter done twice, and a filter of what failed.
twice-case : {A : Type 0} (p : A → Bool) (x : A) (xs : List A) (b : Bool) → p x ≡ b → filter p (filter p xs) ≡ filter p xs → filter p (filter p (x ∷ xs)) ≡ filter p (x ∷ xs)
twice-case p x xs true e h = rw (e, e) (ap (λ r. x ∷ r) h)
twice-case p x xs false e h = rw e h

filter-twice : {A : Type 0} (p : A → Bool) (xs : List A) → filter p (filter p xs) ≡ filter p xs
filter-twice p [] = refl
filter-twice p (x ∷ xs) = twice-case p x xs (p x) refl (filter-twice p xs)

apart-case : {A : Type 0} (p q : A → Bool) (x : A) (xs : List A) (b : Bool) → p x ≡ b → q x ≡ not (p x) → filter q (filter p xs) ≡ [] → filter q (filter p (x ∷ xs)) ≡ []
apart-case p q x xs true e o h = rw (e, o, e) h
apart-case p q x xs false e o h = rw e h

filter-apart : {A : Type 0} (p q : A → Bool) → ((x : A) → q x ≡ not (p x)) → (xs : List A) → filter q (filter p xs) ≡ []
filter-apart p q o [] = refl
filter-apart p q o (x ∷ xs) = apart-case p q x xs (p x) refl (o x) (filter-apart p q o xs)

not-not : (b : Bool) → b ≡ not (not b)
not-not true = refl
not-not false = refl

pub parted-twice : {A : Type 0} (test : A → Bool) (xs : List A) → parted test (parted test xs) ≡ parted test xs
parted-twice test xs =
    rw (
      filter-append test (filter test xs) (filter (other test) xs),
      filter-append (other test) (filter test xs) (filter (other test) xs),
      filter-twice test xs,
      filter-apart (other test) test (λ x. not-not (test x)) xs,
      filter-apart test (other test) (λ x. refl) xs,
      filter-twice (other test) xs,
      append-nil (filter test xs),
    ) refl

-- A list in order of the test stands parted.

clash : true ≡ false → ⊥
clash h = cc

keys-rise : (a b : Bool) → is_lt (bool_cmp (not b) (not a)) ≡ false → a ≡ false → b ≡ false
keys-rise true true h e = e
keys-rise false true h e = absurd (clash h)
keys-rise a false h e = refl

sorted-tail : {A : Type 0} (test : A → Bool) (x : A) (xs : List A) → IsSortedByKey (other test) bool_cmp (x ∷ xs) → IsSortedByKey (other test) bool_cmp xs
sorted-tail test x xs s = λ k d low high.
    let e : suc k + 1 ≡ suc (k + 1) = omega arith in
    rw e at (s (suc k) d (omega arith) (omega arith))

sorted-next : {A : Type 0} (test : A → Bool) (x y : A) (xs : List A) → IsSortedByKey (other test) bool_cmp (x ∷ y ∷ xs) → test x ≡ false → test y ≡ false
sorted-next test x y xs s e = keys-rise (test x) (test y) (s 0 x (omega arith) (omega arith)) e

none-after : {A : Type 0} (test : A → Bool) (x : A) (xs : List A) → IsSortedByKey (other test) bool_cmp (x ∷ xs) → test x ≡ false → filter test xs ≡ []
none-after test x [] s e = refl
none-after test x (y ∷ xs) s e =
    let f : test y ≡ false = sorted-next test x y xs s e in
    rw f (none-after test y xs (sorted-tail test x (y ∷ xs) s) f)

all-after : {A : Type 0} (test : A → Bool) (x : A) (xs : List A) → IsSortedByKey (other test) bool_cmp (x ∷ xs) → test x ≡ false → filter (other test) xs ≡ xs
all-after test x [] s e = refl
all-after test x (y ∷ xs) s e =
    let f : test y ≡ false = sorted-next test x y xs s e in
    rw f (ap (λ r. y ∷ r) (all-after test y xs (sorted-tail test x (y ∷ xs) s) f))

sorted-case : {A : Type 0} (test : A → Bool) (x : A) (xs : List A) (b : Bool) → test x ≡ b → IsSortedByKey (other test) bool_cmp (x ∷ xs) → parted test xs ≡ xs → parted test (x ∷ xs) ≡ x ∷ xs
sorted-case test x xs true e s h = rw e (ap (λ r. x ∷ r) h)
sorted-case test x xs false e s h = rw (e, none-after test x xs s e, all-after test x xs s e) refl

pub sorted-parted : {A : Type 0} (test : A → Bool) (xs : List A) → IsSortedByKey (other test) bool_cmp xs → parted test xs ≡ xs
sorted-parted test [] s = refl
sorted-parted test (x ∷ xs) s = sorted-case test x xs (test x) refl s (sorted-parted test xs (sorted-tail test x xs s))

-- A stable sort keeps what passes a test that its key tells, and its order.

data Found {A : Type 0} (p : A → Bool) (xs : List A) : Type 0 where
  NoneFound : filter p xs ≡ [] → Found p xs
  OneFound : (x : A) → p x ≡ true → Found p xs

found-case : {A : Type 0} (p : A → Bool) (x : A) (xs : List A) (b : Bool) → p x ≡ b → Found p xs → Found p (x ∷ xs)
found-case p x xs true e f = OneFound x e
found-case p x xs false e (NoneFound h) = NoneFound (rw e h)
found-case p x xs false e (OneFound y h) = OneFound y h

found : {A : Type 0} (p : A → Bool) (xs : List A) → Found p xs
found p [] = NoneFound refl
found p (x ∷ xs) = found-case p x xs (p x) refl (found p xs)

kept-case : {A : Type 0} (p : A → Bool) (xs ys : List A) → ((x : A) → p x ≡ true → filter p ys ≡ filter p xs) → Found p xs → Found p ys → filter p ys ≡ filter p xs
kept-case p xs ys h (OneFound x e) g = h x e
kept-case p xs ys h (NoneFound e) (OneFound y q) = h y q
kept-case p xs ys h (NoneFound e) (NoneFound q) = q ∙ sym e

same-key : (a b : Bool) → a ≡ true → not (is_lt (bool_cmp (not a) (not b))) && not (is_lt (bool_cmp (not b) (not a))) ≡ b
same-key true true h = refl
same-key true false h = refl
same-key false b h = absurd (clash (sym h))

same-other : (a b : Bool) → not a ≡ true → not (is_lt (bool_cmp (not a) (not b))) && not (is_lt (bool_cmp (not b) (not a))) ≡ not b
same-other false true h = refl
same-other false false h = refl
same-other true b h = absurd (clash (sym h))

passing-kept : {A : Type 0} (test : A → Bool) (xs ys : List A) → IsStableByKey (other test) bool_cmp xs ys → filter test ys ≡ filter test xs
passing-kept test xs ys s =
    kept-case test xs ys
    (λ x e. let same = filter-same (ties (λ a b. is_lt (bool_cmp (other test a) (other test b))) x) test (λ y. same-key (test x) (test y) e) in sym (same ys) ∙ (s x ∙ same xs))
    (found test xs) (found test ys)

other-kept : {A : Type 0} (test : A → Bool) (xs ys : List A) → IsStableByKey (other test) bool_cmp xs ys → filter (other test) ys ≡ filter (other test) xs
other-kept test xs ys s =
    kept-case (other test) xs ys
    (λ x e. let same = filter-same (ties (λ a b. is_lt (bool_cmp (other test a) (other test b))) x) (other test) (λ y. same-other (test x) (test y) e) in sym (same ys) ∙ (s x ∙ same xs))
    (found (other test) xs) (found (other test) ys)

pub sort-parts : {A : Type 0} (test : A → Bool) (xs ys : List A) → IsSortedByKey (other test) bool_cmp ys → IsStableByKey (other test) bool_cmp xs ys → ys ≡ parted test xs
sort-parts test xs ys sorted stable =
    sym (sorted-parted test ys sorted) ∙ rw (passing-kept test xs ys stable, other-kept test xs ys stable) refl
