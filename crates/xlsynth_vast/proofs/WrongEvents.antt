-- The rule on lists of events, and the first that is no event.
use Rattle.std.proofs.Common.{◌≡◌, ℕ, zero, suc, ◌+◌, Bool, true, false, List, [], ◌∷◌, take, slice_get, All, Ok, Err, refl, ap, ◌∙◌, arith, if◌then◌else◌}
use Rattle.vast_core.specs.declared.handle.Expr.{Expr}
use Rattle.vast_core.specs.Bench.{Bench, tree_of}
use Rattle.vast_core.specs.Sound.{is_event, EventSound}
use Rattle.vast_core.specs.Events.{IsWrongEvent, IsFirstWrongEvent}
use Rattle.vast_core.proofs.Lists.{All-head, All-tail}
use Rattle.xlsynth_vast.specs.AlwaysBlocks.{wrong_event, events_from, unless_wrong_event}

chosen : {A : Type 0} (t : Bool) (x y : A) → t ≡ true → (if t then x else y) ≡ x
chosen true x y h = refl
chosen false x y h = cc

not-chosen : {A : Type 0} (t : Bool) (x y : A) → t ≡ false → (if t then x else y) ≡ y
not-chosen true x y h = cc
not-chosen false x y h = refl

allowed-from : (word : List ℕ) (b : Bench) (i : ℕ) (es : List Expr) → All (EventSound b) es → events_from word b i es ≡ Ok tt
allowed-from word b i [] h = refl
allowed-from word b i (e ∷ es) h =
    chosen (is_event (tree_of b e)) (events_from word b (suc i) es) (Err (wrong_event word i)) (All-head (EventSound b) e es h).1
    ∙ allowed-from word b (suc i) es (All-tail (EventSound b) e es h)

refused-from :
    (word : List ℕ) (b : Bench) (i : ℕ) (es : List Expr) (k : ℕ) → IsWrongEvent b (slice_get es k) → All (EventSound b) (take k es) → events_from word b i es ≡ Err (wrong_event word (i + k))
refused-from word b i [] k h a = absurd h
refused-from word b i (e ∷ es) zero h a =
    let place : i ≡ i + zero = omega arith in
    not-chosen (is_event (tree_of b e)) (events_from word b (suc i) es) (Err (wrong_event word i)) h ∙ ap (λ n. Err (wrong_event word n)) place
refused-from word b i (e ∷ es) (suc k) h a =
    let place : suc i + k ≡ i + suc k = omega arith in
    chosen (is_event (tree_of b e)) (events_from word b (suc i) es) (Err (wrong_event word i)) (All-head (EventSound b) e (take k es) a).1
    ∙ (refused-from word b (suc i) es k h (All-tail (EventSound b) e (take k es) a) ∙ ap (λ n. Err (wrong_event word n)) place)

-- The list may be written in another way.

pub events-allowed : (word : List ℕ) (b : Bench) (es fs : List Expr) → fs ≡ es → All (EventSound b) fs → unless_wrong_event word b es ≡ Ok tt
events-allowed word b es fs e h = rw (← e) (allowed-from word b 0 fs h)

pub events-refused : (word text : List ℕ) (b : Bench) (es fs : List Expr) (i : ℕ) → fs ≡ es → text ≡ wrong_event word i → IsFirstWrongEvent b fs i → unless_wrong_event word b es ≡ Err text
events-refused word text b es fs i e t h =
    let place : 0 + i ≡ i = omega arith in
    rw (← e, t) (refused-from word b 0 fs i h.wrong h.before ∙ ap (λ n. Err (wrong_event word n)) place)
