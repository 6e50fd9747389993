-- How many elements that pass a test are read off lists that grow, change or are hoisted.
use Rattle.std.proofs.Common.{◌≡◌, ℕ, zero, suc, ◌+◌, ◌≤◌, Bool, true, false, not, List, [], ◌∷◌, ◌++◌, flat_map, count_by, filter, take, drop, Option, Some, None, refl, ap, ◌∙◌, arith, cond, take-append-drop}
use Rattle.std.proofs.lemmas.Grind.{flat_map-append}
use Rattle.std.proofs.lemmas.List.Sums.{sum_by-append}
use Rattle.vast_core.specs.Records.{changed_at, Member}
use Rattle.vast_core.specs.Internal.Containers.{added, read_off}
use Rattle.vast_core.specs.Hoisting.{parted, hoisted, is_declaration}

pub count-append : {A : Type 0} (t : A → Bool) (xs ys : List A) → count_by t (xs ++ ys) ≡ count_by t xs + count_by t ys
count-append t xs ys = sum_by-append (λ x. cond (t x) 1 0) xs ys

pub over-append : {X A : Type 0} (t : A → Bool) (g : X → List A) (xs ys : List X) → count_by t (flat_map g (xs ++ ys)) ≡ count_by t (flat_map g xs) + count_by t (flat_map g ys)
over-append t g xs ys = ap (count_by t) (flat_map-append g xs ys) ∙ count-append t (flat_map g xs) (flat_map g ys)

pub over-push : {X A : Type 0} (t : A → Bool) (g : X → List A) (xs : List X) (x : X) → count_by t (flat_map g (xs ++ x ∷ [])) ≡ count_by t (flat_map g xs) + count_by t (g x)
over-push t g xs x =
    let all = over-append t g xs (x ∷ []) in
    let one = count-append t (g x) [] in
    omega (arith, all, one)

pub over-added : {X A : Type 0} (t : A → Bool) (g : X → List A) (xs : List X) (o : Option X) → count_by t (flat_map g (added xs o)) ≡ count_by t (flat_map g xs) + count_by t (read_off g o)
over-added t g xs None = omega arith
over-added t g xs (Some x) = over-push t g xs x

-- Where one element has changed, and has gained at most so many.
pub over-changed :
    {X A : Type 0} (t : A → Bool) (g : X → List A) (f : X → X) (gained : ℕ) → ((x : X) → count_by t (g (f x)) ≤ count_by t (g x) + gained) →
    (xs : List X) (i : ℕ) → count_by t (flat_map g (changed_at i f xs)) ≤ count_by t (flat_map g xs) + gained
over-changed t g f gained h [] i = omega arith
over-changed t g f gained h (x ∷ xs) zero =
    let old = count-append t (g x) (flat_map g xs) in
    let new = count-append t (g (f x)) (flat_map g xs) in
    let more = h x in
    omega (arith, old, new, more)
over-changed t g f gained h (x ∷ xs) (suc i) =
    let old = count-append t (g x) (flat_map g xs) in
    let new = count-append t (g x) (flat_map g (changed_at i f xs)) in
    let more = over-changed t g f gained h xs i in
    omega (arith, old, new, more)

-- Hoisting.

parted-case :
    {X A : Type 0} (t : A → Bool) (test : X → Bool) (g : X → List A) (x : X) (xs : List X) (b : Bool) → test x ≡ b →
    count_by t (flat_map g (filter test xs)) + count_by t (flat_map g (filter (λ y. not (test y)) xs)) ≡ count_by t (flat_map g xs) →
    count_by t (flat_map g (filter test (x ∷ xs))) + count_by t (flat_map g (filter (λ y. not (test y)) (x ∷ xs))) ≡ count_by t (g x ++ flat_map g xs)
parted-case t test g x xs true e h =
    let all = count-append t (g x) (flat_map g xs) in
    let some = count-append t (g x) (flat_map g (filter test xs)) in
    rw e (omega (arith, h, all, some))
parted-case t test g x xs false e h =
    let all = count-append t (g x) (flat_map g xs) in
    let some = count-append t (g x) (flat_map g (filter (λ y. not (test y)) xs)) in
    rw e (omega (arith, h, all, some))

over-parts :
    {X A : Type 0} (t : A → Bool) (test : X → Bool) (g : X → List A) (xs : List X) →
    count_by t (flat_map g (filter test xs)) + count_by t (flat_map g (filter (λ x. not (test x)) xs)) ≡ count_by t (flat_map g xs)
over-parts t test g [] = refl
over-parts t test g (x ∷ xs) = parted-case t test g x xs (test x) refl (over-parts t test g xs)

pub over-hoisted : {A : Type 0} (t : A → Bool) (g : Member → List A) (start : ℕ) (ms : List Member) → count_by t (flat_map g (hoisted start ms)) ≡ count_by t (flat_map g ms)
over-hoisted t g start ms =
    let rest = drop start ms in
    let others : List Member = filter (λ m. not (is_declaration m)) rest in
    let outer = over-append t g (take start ms) (parted is_declaration rest) in
    let inner = over-append t g (filter is_declaration rest) others in
    let parts = over-parts t is_declaration g rest in
    let whole = over-append t g (take start ms) rest in
    let back = ap (λ (xs : List Member). count_by t (flat_map g xs)) (take-append-drop start ms) in
    omega (arith, outer, inner, parts, whole, back)
