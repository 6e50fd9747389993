-- What names stand for, after one was entered or forgotten.
use Rattle.std.proofs.Common.{◌≡◌, ℕ, Bool, true, false, cond, List, Option, Some, None, Bor, Result, Ok, Err, OnOk, refl, sym, ap, ◌∙◌}
use Rattle.std.proofs.lemmas.Slice.Eq.{bytes_eq-Decides}
use Rattle.std.specs.Map.{update}
use Rattle.std.specs.Prelude.{Decides, option_copied}
use Rattle.std.specs.Str.{bytes_eq}
use mathlib.Core.Path.{fun_ext}
use Rattle.vast_names.specs.Map.{meaning as meant_by}
use Rattle.vast_calls.specs.declared.names.Named.{Named}
use Rattle.vast_calls.specs.declared.names.Named.TheVariants.{Handle}
use Rattle.vast_calls.specs.declared.names.Names.{Names}
use Rattle.vast_calls.specs.Names.{IsFree, entered, forgotten}
use Rattle.vast_calls.specs.Written.{meaning, place_or}

pub is_entered :
    (old new : Names) (name : Option (Bor (List ℕ))) (word : Bor (List ℕ)) (meant : Named) → name ≡ Some word →
    meaning new ≡ update bytes_eq (meaning old) word.now (Some meant) → meaning new ≡ entered (meaning old) (option_copied name) meant
is_entered old new name word meant e h = rw e h

pub is_forgotten :
    (old new : Names) (name : Option (Bor (List ℕ))) (word : Bor (List ℕ)) → name ≡ Some word →
    meaning new ≡ update bytes_eq (meaning old) word.now None → meaning new ≡ forgotten (meaning old) (option_copied name)
is_forgotten old new name word e h = rw e h

forgotten_at :
    (named : List ℕ → Option Named) (name other : List ℕ) (meant : Named) (is_name : Bool) → Decides is_name (name ≡ other) → named name ≡ None →
    cond is_name None (cond is_name (Some meant) (named other)) ≡ named other
forgotten_at named name other meant true d h = sym h ∙ ap named (d.0 refl)
forgotten_at named name other meant false d h = refl

-- A name that was free, and is forgotten once it was entered, stands for nothing.
pub forgotten-entered : (named : List ℕ → Option Named) (name : Option (List ℕ)) (meant : Named) → IsFree named name → forgotten (entered named name meant) name ≡ named
forgotten-entered named None meant h = refl
forgotten-entered named (Some name) meant h = fun_ext (λ (other : List ℕ). forgotten_at named name other meant (bytes_eq name other) (bytes_eq-Decides name other) h.1)

place_at : (is_name : Bool) (place : ℕ) (before : Option ℕ) (other : Option Named) → place_or (cond is_name (Some place) before) other ≡ cond is_name (Some (Handle place)) (place_or before other)
place_at true place before other = refl
place_at false place before other = refl

-- A name that stands for a place from then on does so whatever stands beside it.
pub place_entered :
    (old new : Names) (name : List ℕ) (place : ℕ) → meant_by new.places ≡ update bytes_eq (meant_by old.places) name (Some place) → new.others ≡ old.others →
    meaning new ≡ update bytes_eq (meaning old) name (Some (Handle place))
place_entered old new name place p o =
    (λ i. λ (other : List ℕ). place_or (p i other) (meant_by (o i) other))
    ∙ fun_ext (λ (other : List ℕ). place_at (bytes_eq name other) place (meant_by old.places other) (meant_by old.others other))

beside : (is_name : Bool) (before : Option ℕ) (meant other : Option Named) → place_or (cond is_name None before) (cond is_name meant other) ≡ cond is_name meant (place_or before other)
beside true before meant other = refl
beside false before meant other = refl

-- A name that stands for no place from then on stands for what stands beside it.
pub other_entered :
    (old new : Names) (name : List ℕ) (meant : Option Named) → meant_by new.places ≡ update bytes_eq (meant_by old.places) name None →
    meant_by new.others ≡ update bytes_eq (meant_by old.others) name meant → meaning new ≡ update bytes_eq (meaning old) name meant
other_entered old new name meant p o =
    (λ i. λ (other : List ℕ). place_or (p i other) (o i other))
    ∙ fun_ext (λ (other : List ℕ). beside (bytes_eq name other) (meant_by old.places other) meant (meant_by old.others other))

pub place_inserted :
    {E : Type 0} (r : Result Unit E) (old new : Names) (name : List ℕ) (meant : Named) (place : ℕ) → meant ≡ Handle place →
    OnOk r (meant_by new.places ≡ update bytes_eq (meant_by old.places) name (Some place)) → new.others ≡ old.others → OnOk r (meaning new ≡ update bytes_eq (meaning old) name (Some meant))
place_inserted (Ok _) old new name meant place is p o = rw is (place_entered old new name place p o)
place_inserted (Err e) old new name meant place is p o = tt

pub none_named : (names : Names) → meant_by names.places ≡ (λ (name : List ℕ). None) → meant_by names.others ≡ (λ (name : List ℕ). None) → meaning names ≡ (λ (name : List ℕ). None)
none_named names p o = λ i. λ (name : List ℕ). place_or (p i name) (o i name)
