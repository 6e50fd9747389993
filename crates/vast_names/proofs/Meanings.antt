-- What names stand for, where one is asked for, enters, or stands for another from then on.
use Rattle.std.proofs.Common.{◌≡◌, ◌≢◌, ℕ, zero, suc, ◌+◌, ◌<◌, Bool, true, false, cond, List, [], ◌∷◌, ◌++◌, length, slice_set, slice_get, Option, Some, None, All, refl, sym, ap, ◌∙◌, arith}
use Rattle.std.proofs.lemmas.Bool.{false_from_ne_true}
use Rattle.std.proofs.lemmas.List.{length-append}
use Rattle.std.proofs.lemmas.List.Elements.{All-head, All-tail, All-push, All-get_or}
use Rattle.std.proofs.lemmas.Option.{get_or_from_slice_get, slice_get_within}
use Rattle.std.proofs.lemmas.Slice.Eq.{bytes_eq-Decides}
use Rattle.std.specs.Map.{update}
use Rattle.std.specs.Prelude.{Decides}
use Rattle.std.specs.Str.{bytes_eq}
use mathlib.Core.Path.{fun_ext}
use Rattle.vast_names.specs.Map.{value_of}
use Rattle.vast_names.specs.Internal.Map.{AreDistinct, IsMap}

same : (first name : List ℕ) → first ≡ name → bytes_eq first name ≡ true
same first name h = (bytes_eq-Decides first name).1 h

differs : (first name : List ℕ) → first ≢ name → bytes_eq first name ≡ false
differs first name h = false_from_ne_true (bytes_eq first name) (λ e. h ((bytes_eq-Decides first name).0 e))

-- A name that stands before others is none of them.
later : (first : List ℕ) (names : List (List ℕ)) (i : ℕ) (name : List ℕ) → All (λ other. other ≢ first) names → slice_get names i ≡ Some name → first ≢ name
later first names i name h at e =
    let within : i < length names = slice_get_within names i name at in
    All-get_or (λ other. other ≢ first) names i first within h (get_or_from_slice_get names i name first at ∙ sym e)

-- Of two tests that can't both hold, the order does not matter.
swap : {X : Type 0} (a b : Bool) (v w y : X) → (a ≡ true → b ≡ true → ⊥) → cond a v (cond b w y) ≡ cond b w (cond a v y)
swap true true v w y h = absurd (h refl refl)
swap true false v w y h = refl
swap false true v w y h = refl
swap false false v w y h = refl

apart : (first name other : List ℕ) → first ≢ name → bytes_eq first other ≡ true → bytes_eq name other ≡ true → ⊥
apart first name other h a b = h ((bytes_eq-Decides first other).0 a ∙ sym ((bytes_eq-Decides name other).0 b))

pub value-absent : {V : Type 0} (names : List (List ℕ)) (values : List (Option V)) (name : List ℕ) → All (λ taken. taken ≢ name) names → value_of names values name ≡ None
value-absent [] values name h = refl
value-absent (first ∷ names) [] name h = refl
value-absent (first ∷ names) (value ∷ values) name h =
    rw (differs first name (All-head (λ taken. taken ≢ name) first names h)) (value-absent names values name (All-tail (λ taken. taken ≢ name) first names h))

some-same : {A : Type 0} (a b : A) → Some a ≡ Some b → a ≡ b
some-same a b e = get_or_from_slice_get (a ∷ []) 0 b a e

pub value-at : {V : Type 0} (names : List (List ℕ)) (values : List (Option V)) (i : ℕ) (name : List ℕ) (value : Option V) →
    AreDistinct names → slice_get names i ≡ Some name → slice_get values i ≡ Some value → value_of names values name ≡ value
value-at [] values i name value d h at = absurd (omega (arith, slice_get_within [] i name h))
value-at (first ∷ names) [] i name value d h at = absurd (omega (arith, slice_get_within [] i value at))
value-at (first ∷ names) (v ∷ values) zero name value d h at = rw (same first name (some-same first name h)) (some-same v value at)
value-at (first ∷ names) (v ∷ values) (suc i) name value d h at =
    rw (differs first name (later first names i name d.0 h)) (value-at names values i name value d.1 h at)

-- The value at a name's place is another.
set-other : {V : Type 0} (b : Bool) (v w y : V) → cond b w y ≡ cond b w (cond b v y)
set-other true v w y = refl
set-other false v w y = refl

set-at : {V : Type 0} (names : List (List ℕ)) (values : List (Option V)) (i : ℕ) (name : List ℕ) (value : Option V) (other : List ℕ) →
    AreDistinct names → length values ≡ length names → slice_get names i ≡ Some name →
    value_of names (slice_set values i value) other ≡ update bytes_eq (value_of names values) name value other
set-at [] values i name value other d e h = absurd (omega (arith, slice_get_within [] i name h))
set-at (first ∷ names) [] i name value other d e h = absurd (omega (arith, e))
set-at (first ∷ names) (v ∷ values) zero name value other d e h =
    rw (some-same first name h) (set-other (bytes_eq name other) v value (value_of names values other))
set-at (first ∷ names) (v ∷ values) (suc i) name value other d e h =
    rw (set-at names values i name value other d.1 (omega (arith, e)) h)
    (swap (bytes_eq first other) (bytes_eq name other) v value (value_of names values other) (apart first name other (later first names i name d.0 h)))

pub value-set : {V : Type 0} (names : List (List ℕ)) (values : List (Option V)) (i : ℕ) (name : List ℕ) (value : Option V) →
    AreDistinct names → length values ≡ length names → slice_get names i ≡ Some name →
    value_of names (slice_set values i value) ≡ update bytes_eq (value_of names values) name value
value-set names values i name value d e h = fun_ext (λ (other : List ℕ). set-at names values i name value other d e h)

-- A name more.
push-at : {V : Type 0} (names : List (List ℕ)) (values : List (Option V)) (name : List ℕ) (value : Option V) (other : List ℕ) →
    All (λ taken. taken ≢ name) names → length values ≡ length names →
    value_of (names ++ name ∷ []) (values ++ value ∷ []) other ≡ update bytes_eq (value_of names values) name value other
push-at [] [] name value other h e = refl
push-at [] (v ∷ values) name value other h e = absurd (omega (arith, e))
push-at (first ∷ names) [] name value other h e = absurd (omega (arith, e))
push-at (first ∷ names) (v ∷ values) name value other h e =
    rw (push-at names values name value other (All-tail (λ taken. taken ≢ name) first names h) (omega (arith, e)))
    (swap (bytes_eq first other) (bytes_eq name other) v value (value_of names values other) (apart first name other (All-head (λ taken. taken ≢ name) first names h)))

pub value-push : {V : Type 0} (names : List (List ℕ)) (values : List (Option V)) (name : List ℕ) (value : Option V) →
    All (λ taken. taken ≢ name) names → length values ≡ length names →
    value_of (names ++ name ∷ []) (values ++ value ∷ []) ≡ update bytes_eq (value_of names values) name value
value-push names values name value h e = fun_ext (λ (other : List ℕ). push-at names values name value other h e)

pub distinct-push : (names : List (List ℕ)) (name : List ℕ) → AreDistinct names → All (λ taken. taken ≢ name) names → AreDistinct (names ++ name ∷ [])
distinct-push [] name d h = (λ k x below. absurd (omega arith), tt)
distinct-push (first ∷ names) name d h = (
  All-push (λ other. other ≢ first) names name d.0 (λ e. All-head (λ taken. taken ≢ name) first names h (sym e)),
  distinct-push names name d.1 (All-tail (λ taken. taken ≢ name) first names h),
)

-- A name that stands for nothing stands for it still.
nothing-at : {V : Type 0} (map : List ℕ → Option V) (name other : List ℕ) (b : Bool) → Decides b (name ≡ other) → map name ≡ None → map other ≡ cond b None (map other)
nothing-at map name other true d h = ap map (sym (d.0 refl)) ∙ h
nothing-at map name other false d h = refl

pub value-nothing : {V : Type 0} (names : List (List ℕ)) (values : List (Option V)) (name : List ℕ) → All (λ taken. taken ≢ name) names →
    value_of names values ≡ update bytes_eq (value_of names values) name None
value-nothing names values name h =
    fun_ext (λ (other : List ℕ). nothing-at (value_of names values) name other (bytes_eq name other) (bytes_eq-Decides name other) (value-absent names values name h))

pub map-push : {V : Type 0} (names : List (List ℕ)) (values : List (Option V)) (name : List ℕ) (value : Option V) →
    All (λ taken. taken ≢ name) names → IsMap names values → IsMap (names ++ name ∷ []) (values ++ value ∷ [])
map-push names values name value h m =
    record {
      distinct = distinct-push names name m.distinct h;
      each = length-append values (value ∷ []) ∙ (ap (λ n. n + 1) m.each ∙ sym (length-append names (name ∷ [])));
    }
