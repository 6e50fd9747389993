-- Laws of hoisting.
use Rattle.std.proofs.Common.{zero, suc, ◌≡◌, ℕ, ◌≤◌, Bool, true, false, List, [], ◌∷◌, ◌++◌, length, filter, take, drop, refl, ap, Option, Some}
use Rattle.std.specs.Ordering.{bool_cmp}
use Rattle.std.specs.List.Sorted.{IsSortedByKey, IsStableByKey}
use Rattle.vast_core.specs.Records.{Member, ModuleRecord}
use Rattle.vast_core.specs.Bench.{Bench}
use Rattle.vast_core.specs.Sound.{Each, MemberSound, ModuleSound}
use Rattle.vast_core.specs.Hoisting.{is_declaration, parted, hoisted, with_members_hoisted, members_of}
use Rattle.vast_core.proofs.Parting.{other, parted-twice, sort-parts}

-- Hoisting twice from one start is hoisting once.
pub hoisted-twice : (start : ℕ) (members : List Member) → hoisted start (hoisted start members) ≡ hoisted start members
hoisted-twice zero members = parted-twice is_declaration members
hoisted-twice (suc n) [] = refl
hoisted-twice (suc n) (x ∷ members) = ap (λ r. x ∷ r) (hoisted-twice n members)

-- Facts of each member.

Each-append : {A : Type 0} (P : A → Type 0) (xs ys : List A) → Each P xs → Each P ys → Each P (xs ++ ys)
Each-append P [] ys h k = k
Each-append P (x ∷ xs) ys h k = (h.0, Each-append P xs ys h.1 k)

filter-case : {A : Type 0} (P : A → Type 0) (p : A → Bool) (x : A) (xs : List A) (b : Bool) → p x ≡ b → P x → Each P (filter p xs) → Each P (filter p (x ∷ xs))
filter-case P p x xs true e h k = rw e (h, k)
filter-case P p x xs false e h k = rw e k

Each-filter : {A : Type 0} (P : A → Type 0) (p : A → Bool) (xs : List A) → Each P xs → Each P (filter p xs)
Each-filter P p [] h = tt
Each-filter P p (x ∷ xs) h = filter-case P p x xs (p x) refl h.0 (Each-filter P p xs h.1)

pub Each-hoisted : (P : Member → Type 0) (start : ℕ) (members : List Member) → Each P members → Each P (hoisted start members)
Each-hoisted P zero members h = Each-append P (filter is_declaration members) (filter (other is_declaration) members) (Each-filter P is_declaration members h) (Each-filter P (other is_declaration) members h)
Each-hoisted P (suc n) [] h = tt
Each-hoisted P (suc n) (x ∷ members) h = (h.0, Each-hoisted P n members h.1)

pub members-hoisted : (b : Bench) (start : ℕ) → (x : ModuleRecord) → ModuleSound b x → ModuleSound b (with_members_hoisted start x)
members-hoisted b start x k = record { parameters = k.parameters; ports = k.ports; members = Each-hoisted (MemberSound b) start x.members k.members }

-- A start among the members of the module is one among those of its vector.
pub start-within : (start : ℕ) (o : Option ModuleRecord) (x : ModuleRecord) (xs : List Member) → o ≡ Some x → x.members ≡ xs → start ≤ length (members_of o) → start ≤ length xs
start-within start o x xs e m h = rw (e, m) at h

pub members-counted : (o : Option ModuleRecord) (x : ModuleRecord) (xs : List Member) (n : ℕ) → o ≡ Some x → x.members ≡ xs → n ≡ length xs → n ≡ length (members_of o)
members-counted o x xs n e m h = rw (e, m) h

-- The vector after its suffix was sorted and put back.
pub hoist-sorted :
    (start : ℕ) (xs new head tail ys : List Member) → new ≡ head ++ ys → head ≡ take start xs → tail ≡ drop start xs →
    IsSortedByKey (other is_declaration) bool_cmp ys → IsStableByKey (other is_declaration) bool_cmp tail ys →
    new ≡ hoisted start xs
hoist-sorted start xs new head tail ys n h t sorted stable =
    let parts : ys ≡ parted is_declaration (drop start xs) = rw t at (sort-parts is_declaration tail ys sorted stable) in
    rw (n, h, parts) refl
