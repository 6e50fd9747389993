-- Laws of taken names, and of their list.
use Rattle.std.proofs.Common.{◌≡◌, ◌≢◌, ◌<◌, ◌+◌, ℕ, List, [], ◌∷◌, ◌++◌, length, take, get_or, Bool, true, false, IsTrue, map, Some, slice_get, Result, Ok, Err, refl, sym, ap, ◌∙◌, arith, if◌then◌else◌}
use Rattle.std.proofs.lemmas.Bool.{true≢false, or_parts}
use Rattle.std.specs.Prelude.{IsErrAnd, MatchResult, alloc_error}
use Rattle.std.specs.List.{join_by, flat_map}
use Rattle.std.specs.Str.{bytes_eq}
use Rattle.std.specs.declared.cmp.Ordering.{Ordering}
use Rattle.std.specs.declared.cmp.Ordering.TheVariants.{Less, Equal, Greater}
use Rattle.std.specs.Ordering.{nat_cmp}
use Rattle.std.specs.Cmp.Lexicographic.{slice_cmp}
use Rattle.std.specs.BTreeSet.{insert_key}
use Rattle.std.proofs.lemmas.List.{take_more}
use Rattle.std.proofs.lemmas.Slice.Eq.{bytes_eq-Decides}
use Rattle.vast_literal.specs.Keyword.{is_among}
use Rattle.vast_literal.specs.declared.error.VastFault.{VastFault}
use Rattle.vast_literal.specs.declared.error.VastFault.TheVariants.{Memory}
use Rattle.vast_literal.specs.Fault.{OnlyRefusedBy}
use Rattle.vast_core.specs.declared.handle.VastModule.{VastModule}
use Rattle.vast_core.specs.declared.handle.VastFunction.{VastFunction}
use Rattle.vast_core.specs.Bench.{Bench}
use Rattle.vast_core.specs.Records.{ModuleRecord, IsFree, with_name, in_byte_order}
use Rattle.vast_core.specs.Nests.{FunctionRecord}
use Rattle.vast_core.proofs.Names.{entered-one}
use Rattle.vast_core.proofs.Lists.{All-cons, All-head, All-tail}
use Rattle.xlsynth_vast.specs.Declarations.{names_in, already_declared, unless_taken}
use Rattle.xlsynth_vast.specs.Functions.{declared_in_function, unless_taken_in_function}

-- The names that are written are those that stand behind references.

flat-of : {X : Type 0} (f : X → List ℕ) (sep : List ℕ) (xs : List X) → flat_map (λ x. sep ++ f x) xs ≡ flat_map (λ name. sep ++ name) (map f xs)
flat-of f sep [] = refl
flat-of f sep (x ∷ xs) = ap (λ r. (sep ++ f x) ++ r) (flat-of f sep xs)

pub join_by-map : {X : Type 0} (f : X → List ℕ) (sep : List ℕ) (xs : List X) → join_by f sep xs ≡ join_by (λ name. name) sep (map f xs)
join_by-map f sep [] = refl
join_by-map f sep (x ∷ xs) = ap (λ r. f x ++ r) (flat-of f sep xs)

-- A set of names behind references, with one name more.

insert-case :
    {X : Type 0} (f : X → List ℕ) (x name : X) (xs : List X) (o : Ordering) → slice_cmp nat_cmp (f name) (f x) ≡ o →
    map f (insert_key (λ a b. slice_cmp nat_cmp (f a) (f b)) xs name) ≡ with_name (f name) (map f xs) →
    map f (insert_key (λ a b. slice_cmp nat_cmp (f a) (f b)) (x ∷ xs) name) ≡ with_name (f name) (map f (x ∷ xs))
insert-case f x name xs Less e h = rw e refl
insert-case f x name xs Equal e h = rw e refl
insert-case f x name xs Greater e h = rw e (ap (λ r. f x ∷ r) h)

map-insert_key :
    {X : Type 0} (f : X → List ℕ) (names : List X) (name : X) →
    map f (insert_key (λ a b. slice_cmp nat_cmp (f a) (f b)) names name) ≡ with_name (f name) (map f names)
map-insert_key f [] name = refl
map-insert_key f (x ∷ xs) name = insert-case f x name xs (slice_cmp nat_cmp (f name) (f x)) refl (map-insert_key f xs name)

-- The next of the names that were entered, at its place in byte order.
pub sorted-more :
    {X : Type 0} (f : X → List ℕ) (sorted new : List X) (name : X) (names : List (List ℕ)) (i : ℕ) → i < length names → get_or names i [] ≡ f name →
    new ≡ insert_key (λ a b. slice_cmp nat_cmp (f a) (f b)) sorted name → map f sorted ≡ in_byte_order (take i names) →
    map f new ≡ in_byte_order (take (i + 1) names)
sorted-more f sorted new name names i l at e h =
    rw (e, map-insert_key f sorted name, h, take_more names i [] l, at) (sym (entered-one (take i names) (f name)))

-- A name is free exactly where it isn't among those taken.

unequal-case : (a b : List ℕ) (t : Bool) → bytes_eq a b ≡ t → a ≢ b → bytes_eq a b ≡ false
unequal-case a b true e h = absurd (h ((bytes_eq-Decides a b).0 e))
unequal-case a b false e h = e

pub not-among : (name : List ℕ) (names : List (List ℕ)) → IsFree name names → is_among names name ≡ false
not-among name [] h = refl
not-among name (x ∷ xs) h = rw (unequal-case x name (bytes_eq x name) refl (All-head (λ taken. taken ≢ name) x xs h)) (not-among name xs (All-tail (λ taken. taken ≢ name) x xs h))

among-none : (name : List ℕ) (names : List (List ℕ)) → is_among names name ≡ false → IsFree name names
among-none name [] h = λ k d below. absurd (omega arith)
among-none name (x ∷ xs) h =
    let (first, rest) = or_parts (bytes_eq x name) (is_among xs name) h in
    let other : (x ≡ name) → ⊥ = λ e. true≢false (sym ((bytes_eq-Decides x name).1 e) ∙ first)
    in All-cons (λ taken. taken ≢ name) x xs other (among-none name xs rest)

among-case : (name : List ℕ) (names : List (List ℕ)) (t : Bool) → is_among names name ≡ t → (IsFree name names → ⊥) → is_among names name ≡ true
among-case name names true e h = e
among-case name names false e h = absurd (h (among-none name names e))

pub among : (name : List ℕ) (names : List (List ℕ)) → (IsFree name names → ⊥) → is_among names name ≡ true
among name names h = among-case name names (is_among names name) refl h

pub free-allowed : (kind name : List ℕ) (names : List (List ℕ)) → IsFree name names → unless_taken kind name names ≡ Ok tt
free-allowed kind name names h = rw (not-among name names h) refl

abbrev unless_among : (words name : List ℕ) (names : List (List ℕ)) → Result (Unit {0}) (List ℕ)
unless_among words name names = if is_among names name then Err words else Ok tt

taken-case : (words name : List ℕ) (names : List (List ℕ)) (t : Bool) → is_among names name ≡ t → (IsFree name names → ⊥) → unless_among words name names ≡ Err words
taken-case words name names true e h = rw e refl
taken-case words name names false e h = absurd (h (among-none name names e))

pub taken-refused : (kind name : List ℕ) (names : List (List ℕ)) → (IsFree name names → ⊥) → unless_taken kind name names ≡ Err (already_declared kind name names)
taken-refused kind name names h = taken-case (already_declared kind name names) name names (is_among names name) refl h

-- The same of the record that a module has.

pub allowed_there : (kind name : List ℕ) (b : Bench) (m : VastModule) (r : ModuleRecord) → slice_get b.modules m.id.index ≡ Some r → IsFree name r.names → unless_taken kind name (names_in b m) ≡ Ok tt
allowed_there kind name b m r e h = rw e (free-allowed kind name r.names h)

pub refused_there : (kind name : List ℕ) (b : Bench) (m : VastModule) (r : ModuleRecord) → slice_get b.modules m.id.index ≡ Some r → (IsFree name r.names → ⊥) → unless_taken kind name (names_in b m) ≡ Err (already_declared kind name r.names)
refused_there kind name b m r e h = rw e (taken-refused kind name r.names h)

-- The same of the record that a function has.

pub allowed_in_function : (kind name : List ℕ) (b : Bench) (f : VastFunction) (r : FunctionRecord) → slice_get b.functions f.id.index ≡ Some r → IsFree name r.names → unless_taken_in_function kind name b f ≡ Ok tt
allowed_in_function kind name b f r e h = rw e (rw (not-among name r.names h) refl)

pub refused_in_function :
    (kind name : List ℕ) (b : Bench) (f : VastFunction) (r : FunctionRecord) → slice_get b.functions f.id.index ≡ Some r → (IsFree name r.names → ⊥) →
    unless_taken_in_function kind name b f ≡ Err (declared_in_function kind name r.name r.names)
refused_in_function kind name b f r e h = rw e (taken-case (declared_in_function kind name r.name r.names) name r.names (is_among r.names name) refl h)

-- Where the words of a refusal could not be made, there was a refusal.
pub only_memory : {A : Type 0} (r : Result A VastFault) (good : A → Type 0) (rule : Result (Unit {0}) (List ℕ)) (words : List ℕ) → rule ≡ Err words → IsErrAnd r (λ fault. fault ≡ Memory alloc_error) → MatchResult r good (OnlyRefusedBy rule)
only_memory (Ok x) good rule words e h = absurd h
only_memory (Err fault) good rule words e h = rw (h, e) refl

-- One of two that exclude each other.
pub not_both : (t : Bool) → IsTrue t → t ≡ false → ⊥
not_both t h k = cc
