-- A name more in a set, and a name more among those that a function declares.
use Rattle.std.proofs.Common.{◌≡◌, ◌≢◌, ◌↔◌, ℕ, Bool, true, false, List, [], ◌∷◌, ◌++◌, All, sym, append_assoc}
use Rattle.std.proofs.lemmas.List.{map-append, append-nil}
use Rattle.vast_core.specs.Records.{IsFree, with_name}
use Rattle.vast_core.specs.Nests.{FunctionVariable, FunctionRecord, variable_names, declared_names}
use Rattle.vast_core.specs.Functions.{with_listed_variable}
use Rattle.vast_core.specs.Sound.{AreDistinct}
use Rattle.vast_core.proofs.Lists.{All-cons, All-head, All-tail}
use Rattle.vast_core.proofs.Names.{free-with_name}

-- A list with an element more.

All-between : {A : Type 0} (P : A → Type 0) (x : A) (xs ys : List A) → P x → All P (xs ++ ys) → All P (xs ++ x ∷ ys)
All-between P x [] ys p h = All-cons P x ys p h
All-between P x (y ∷ xs) ys p h = All-cons P y (xs ++ x ∷ ys) (All-head P y (xs ++ ys) h) (All-between P x xs ys p (All-tail P y (xs ++ ys) h))

All-within : {A : Type 0} (P : A → Type 0) (x : A) (xs ys : List A) → All P (xs ++ x ∷ ys) → P x × All P (xs ++ ys)
All-within P x [] ys h = (All-head P x ys h, All-tail P x ys h)
All-within P x (y ∷ xs) ys h =
    let k : P x × All P (xs ++ ys) = All-within P x xs ys (All-tail P y (xs ++ x ∷ ys) h)
    in (k.0, All-cons P y (xs ++ ys) (All-head P y (xs ++ x ∷ ys) h) k.1)

distinct-between : (name : List ℕ) (xs ys : List (List ℕ)) → IsFree name (xs ++ ys) → AreDistinct (xs ++ ys) → AreDistinct (xs ++ name ∷ ys)
distinct-between name [] ys h d = (h, d)
distinct-between name (x ∷ xs) ys h d =
    let other : name ≢ x = λ is. All-head (λ taken. taken ≢ name) x (xs ++ ys) h (sym is) in (
      All-between (λ taken. taken ≢ x) name xs ys other d.0,
      distinct-between name xs ys (All-tail (λ taken. taken ≢ name) x (xs ++ ys) h) d.1,
    )

-- The names ys are the names xs and this one.
pub record Gains (name : List ℕ) (xs ys : List (List ℕ)) : Type 0 where
  pub distinct : IsFree name xs → AreDistinct xs → AreDistinct ys
  pub free : (other : List ℕ) → IsFree other ys ↔ (name ≢ other) × IsFree other xs

gains-between : (name : List ℕ) (xs ys : List (List ℕ)) → Gains name (xs ++ ys) (xs ++ name ∷ ys)
gains-between name xs ys =
    record {
      distinct = distinct-between name xs ys;
      free = λ other. (
        All-within (λ taken. taken ≢ other) name xs ys,
        λ h. All-between (λ taken. taken ≢ other) name xs ys h.0 h.1,
      );
    }

gains-last : (name : List ℕ) (xs : List (List ℕ)) → Gains name xs (xs ++ name ∷ [])
gains-last name xs = rw append-nil at (gains-between name xs [])

-- A variable more.

names-more : (xs : List FunctionVariable) (v : FunctionVariable) → variable_names (xs ++ v ∷ []) ≡ variable_names xs ++ v.name ∷ []
names-more xs v = map-append (λ (x : FunctionVariable). x.name) xs (v ∷ [])

gains-input : (f : FunctionRecord) (v : FunctionVariable) → Gains v.name (declared_names f) (declared_names (with_listed_variable false v f))
gains-input f v =
    let xs : List (List ℕ) = variable_names f.inputs in
    let ys : List (List ℕ) = variable_names f.locals in
    let more : variable_names (f.inputs ++ v ∷ []) ++ ys ≡ xs ++ v.name ∷ ys = rw (names-more f.inputs v) (append_assoc xs (v.name ∷ []) ys) in
    rw more (gains-between v.name (f.name ∷ xs) ys)

gains-local : (f : FunctionRecord) (v : FunctionVariable) → Gains v.name (declared_names f) (declared_names (with_listed_variable true v f))
gains-local f v =
    let xs : List (List ℕ) = variable_names f.inputs in
    let ys : List (List ℕ) = variable_names f.locals in
    let more : xs ++ variable_names (f.locals ++ v ∷ []) ≡ (xs ++ ys) ++ v.name ∷ [] = rw (names-more f.locals v) (sym (append_assoc xs ys (v.name ∷ []))) in
    rw more (gains-last v.name (f.name ∷ (xs ++ ys)))

pub gains-variable : (local : Bool) (f : FunctionRecord) (v : FunctionVariable) → Gains v.name (declared_names f) (declared_names (with_listed_variable local v f))
gains-variable false f v = gains-input f v
gains-variable true f v = gains-local f v

pub taken-after :
    (name : List ℕ) (names xs ys : List (List ℕ)) → Gains name xs ys → ((other : List ℕ) → IsFree other names ↔ IsFree other xs) → (other : List ℕ) →
    IsFree other (with_name name names) ↔ IsFree other ys
taken-after name names xs ys g k other =
    let e : IsFree other (with_name name names) ↔ (name ≢ other) × IsFree other names = free-with_name other name names in (
      λ h. (g.free other).1 ((e.0 h).0, (k other).0 (e.0 h).1),
      λ h. e.1 (((g.free other).0 h).0, (k other).1 ((g.free other).0 h).1),
    )
