-- Laws of lists: reading after an append, changing one element, facts of each element.
use Rattle.std.proofs.Common.{zero, suc, get_or, ◌≡◌, ℕ, ◌<◌, ◌≤◌, IsTrue, nat_lt, List, [], ◌∷◌, ◌++◌, length, Some, None, slice_get, All, refl, sym, ap, arith, map}
use Rattle.std.proofs.Math.ListN.{set}
use Rattle.vast_core.specs.Records.{changed_at}
use Rattle.vast_core.specs.Sound.{Each}

pub slice_get-append : {X : Type 0} (xs ys : List X) (i : ℕ) (x : X) → slice_get xs i ≡ Some x → slice_get (xs ++ ys) i ≡ Some x
slice_get-append [] ys i x h = cc
slice_get-append (y ∷ xs) ys zero x h = h
slice_get-append (y ∷ xs) ys (suc i) x h = slice_get-append xs ys i x h

-- The element after a list that grew by one.
pub slice_get-seam : {X : Type 0} (xs : List X) (x : X) → slice_get (xs ++ x ∷ []) (length xs) ≡ Some x
slice_get-seam [] x = refl
slice_get-seam (y ∷ xs) x = slice_get-seam xs x

pub slice_get-map : {A B : Type 0} (v : A → B) (xs : List A) (i : ℕ) (x : A) → i < length xs → x ≡ get_or xs i x → slice_get (map v xs) i ≡ Some (v x)
slice_get-map v [] i x below is = absurd (omega arith)
slice_get-map v (y ∷ xs) zero x below is = ap (λ z. Some (v z)) (sym is)
slice_get-map v (y ∷ xs) (suc i) x below is = slice_get-map v xs i x (omega arith) is

pub slice_get-past : {A : Type 0} (xs : List A) (i : ℕ) → length xs ≤ i → slice_get xs i ≡ None
slice_get-past [] i past = refl
slice_get-past (y ∷ xs) zero past = absurd (omega arith)
slice_get-past (y ∷ xs) (suc i) past = slice_get-past xs i (omega arith)

pub none-past : {A : Type 0} (xs : List A) (i : ℕ) → slice_get xs i ≡ None → length xs ≤ i
none-past [] i e = omega arith
none-past (x ∷ xs) zero e = cc
none-past (x ∷ xs) (suc i) e = omega (arith, none-past xs i e)

-- Indices and lengths.

pub below-of : (i n : ℕ) → IsTrue (nat_lt i n) → i < n
below-of i n h = grind arith

pub below-test : (i n : ℕ) → i < n → IsTrue (nat_lt i n)
below-test i n h = grind arith

pub length-push : {A : Type 0} (xs : List A) (x : A) → length (xs ++ x ∷ []) ≡ suc (length xs)
length-push [] x = refl
length-push (y ∷ xs) x = ap suc (length-push xs x)

-- Changing one element.

pub changed-map :
    {A B : Type 0} (v : A → B) (f : B → B) (xs : List A) (i : ℕ) (x y : A) →
    i < length xs →
    x ≡ get_or xs i x →
    v y ≡ f (v x) →
    map v (set xs i y) ≡ changed_at i f (map v xs)
changed-map v f [] i x y below is e = absurd (omega arith)
changed-map v f (z ∷ xs) zero x y below is e = cc
changed-map v f (z ∷ xs) (suc i) x y below is e = ap (λ r. v z ∷ r) (changed-map v f xs i x y (omega arith) is e)

pub unchanged-map :
    {A B : Type 0} (v : A → B) (xs : List A) (i : ℕ) (x y : A) →
    i < length xs →
    x ≡ get_or xs i x →
    v y ≡ v x →
    map v (set xs i y) ≡ map v xs
unchanged-map v [] i x y below is e = absurd (omega arith)
unchanged-map v (z ∷ xs) zero x y below is e = cc
unchanged-map v (z ∷ xs) (suc i) x y below is e = ap (λ r. v z ∷ r) (unchanged-map v xs i x y (omega arith) is e)

pub length-changed_at : {A : Type 0} (f : A → A) (xs : List A) (i : ℕ) → length (changed_at i f xs) ≡ length xs
length-changed_at f [] i = refl
length-changed_at f (x ∷ xs) zero = refl
length-changed_at f (x ∷ xs) (suc i) = ap suc (length-changed_at f xs i)

-- Facts of each element.

pub Each-map : {A : Type 0} {P Q : A → Type 0} → ((x : A) → P x → Q x) → (xs : List A) → Each P xs → Each Q xs
Each-map f [] h = tt
Each-map f (x ∷ xs) h = (f x h.0, Each-map f xs h.1)

pub Each-push : {A : Type 0} (P : A → Type 0) (xs : List A) (x : A) → Each P xs → P x → Each P (xs ++ x ∷ [])
Each-push P [] x h k = (k, tt)
Each-push P (y ∷ xs) x h k = (h.0, Each-push P xs x h.1 k)

pub Each-changed_at : {A : Type 0} (P : A → Type 0) (f : A → A) → ((x : A) → P x → P (f x)) → (xs : List A) (i : ℕ) → Each P xs → Each P (changed_at i f xs)
Each-changed_at P f k [] i h = tt
Each-changed_at P f k (x ∷ xs) zero h = (k x h.0, h.1)
Each-changed_at P f k (x ∷ xs) (suc i) h = (h.0, Each-changed_at P f k xs i h.1)

-- The same, where the element that is changed is known.
pub Each-changed_there : {A : Type 0} (P : A → Type 0) (f : A → A) (xs : List A) (i : ℕ) → ((x : A) → slice_get xs i ≡ Some x → P x → P (f x)) → Each P xs → Each P (changed_at i f xs)
Each-changed_there P f [] i k h = tt
Each-changed_there P f (x ∷ xs) zero k h = (k x refl h.0, h.1)
Each-changed_there P f (x ∷ xs) (suc i) k h = (h.0, Each-changed_there P f xs i k h.1)

pub Each-get : {A : Type 0} (P : A → Type 0) (xs : List A) (i : ℕ) (x : A) → Each P xs → slice_get xs i ≡ Some x → P x
Each-get P [] i x h e = cc
Each-get P (y ∷ xs) zero x h e = let same : x ≡ y = cc in rw same h.0
Each-get P (y ∷ xs) (suc i) x h e = Each-get P xs i x h.1 e

pub All-own : {A : Type 0} (P : A → Type 0) (xs : List A) → Each P xs → All P xs
All-own P [] h k d below = absurd (omega arith)
All-own P (x ∷ xs) h zero d below = h.0
All-own P (x ∷ xs) h (suc k) d below = All-own P xs h.1 k d (omega arith)

pub Each-own : {A : Type 0} (P : A → Type 0) (xs : List A) → All P xs → Each P xs
Each-own P [] h = tt
Each-own P (x ∷ xs) h = (h 0 x (omega arith), Each-own P xs (λ k d below. h (suc k) d (omega arith)))

pub All-cons : {A : Type 0} (P : A → Type 0) (x : A) (xs : List A) → P x → All P xs → All P (x ∷ xs)
All-cons P x xs p h zero d below = p
All-cons P x xs p h (suc k) d below = h k d (omega arith)

pub All-head : {A : Type 0} (P : A → Type 0) (x : A) (xs : List A) → All P (x ∷ xs) → P x
All-head P x xs h = h 0 x (omega arith)

pub All-tail : {A : Type 0} (P : A → Type 0) (x : A) (xs : List A) → All P (x ∷ xs) → All P xs
All-tail P x xs h = λ k d below. h (suc k) d (omega arith)

pub All-implies : {A : Type 0} {P Q : A → Type 0} → ((x : A) → P x → Q x) → (xs : List A) → All P xs → All Q xs
All-implies f xs h = λ k d below. f (get_or xs k d) (h k d below)
