-- The arguments of a call: answers of earlier steps, looked at in order; then whether they are the file's.
use Rattle.std.specs.Prelude.{◌≡◌, ℕ, Bool, true, false, ◌&&◌, List, [], ◌∷◌, Vec, Option, Some, None, slice_get, Result, Ok, Err, ⊤}
use Rattle.std.specs.List.{list_all}
use Rattle.std.specs.declared.alloc.Global.{Global}
use Rattle.vast_core.specs.Bench.{Bench}
use Rattle.vast_script.specs.declared.answer.Answer.{Answer}
use Rattle.vast_script.specs.declared.fault.StepFault.{StepFault}
use Rattle.vast_script.specs.Outcome.{Cause, Missing, OtherKind, NotMet, cause_of, Outcome, Call, given}
use Rattle.vast_script.specs.Kinds.{Kind}
use Rattle.vast_literal.specs.Literal.{and_then}

-- The code found what there is to find, or memory was refused.
abbrev pub IsCause : {A : Type 0} → Option Cause → Result A Cause → Type 0
IsCause None looked = ⊤
IsCause (Some cause) looked = looked ≡ Err cause

abbrev pub Finds : {A : Type 0} → Result A StepFault → Result A Cause → Type 0
Finds (Ok x) looked = looked ≡ Ok x
Finds (Err fault) looked = IsCause (cause_of fault) looked

abbrev pub of_kind : {H : Type 0} → Option H → Result H Cause
of_kind None = Err OtherKind
of_kind (Some h) = Ok h

abbrev pub as_kind : {H : Type 0} → Kind H → Option Answer → Result H Cause
as_kind k None = Err Missing
as_kind k (Some a) = of_kind (k.of_answer a)

-- The answer of this number, as a handle of the kind.
unfoldable pub found : {H : Type 0} → Kind H → List Answer → ℕ → Result H Cause
found k answers n = as_kind k (slice_get answers n)

abbrev pub if_own : {A : Type 0} → Bool → A → Result A Cause
if_own false x = Err NotMet
if_own true x = Ok x

-- One argument, two, and three; they are the file's.
unfoldable pub one : {A : Type 0} → Kind A → Bench → List Answer → ℕ → Result A Cause
one k b answers n = and_then (found k answers n) (λ x. if_own (k.is_own b x) x)

unfoldable pub two : {A B : Type 0} → Kind A → Kind B → Bench → List Answer → ℕ → ℕ → Result (A × B) Cause
two j k b answers n m = and_then (found j answers n) (λ x. and_then (found k answers m) (λ y. if_own (j.is_own b x && k.is_own b y) (x, y)))

unfoldable pub three : {A B C : Type 0} → Kind A → Kind B → Kind C → Bench → List Answer → ℕ → ℕ → ℕ → Result (A × B × C) Cause
three i j k b answers n m o =
    and_then (found i answers n) (λ x. and_then (found j answers m) (λ y. and_then (found k answers o) (λ z.
    if_own (i.is_own b x && (j.is_own b y && k.is_own b z)) (x, y, z))))

-- The answers of these numbers, looked at in their order.
abbrev pub all_found : {H : Type 0} → Kind H → List Answer → List ℕ → Result (List H) Cause
all_found k answers [] = Ok []
all_found k answers (n ∷ ns) = and_then (found k answers n) (λ x. and_then (all_found k answers ns) (λ xs. Ok (x ∷ xs)))

-- A list of arguments, and an argument with a list of them.
unfoldable pub many : {A : Type 0} → Kind A → Bench → List Answer → List ℕ → Result (List A) Cause
many k b answers ns = and_then (all_found k answers ns) (λ xs. if_own (list_all (k.is_own b) xs) xs)

unfoldable pub one_and_many : {A B : Type 0} → Kind A → Kind B → Bench → List Answer → ℕ → List ℕ → Result (A × List B) Cause
one_and_many j k b answers n ms = and_then (found j answers n) (λ x. and_then (all_found k answers ms) (λ ys. if_own (j.is_own b x && list_all (k.is_own b) ys) (x, ys)))

-- The same of code that returns vectors.
abbrev pub FindsAll : {A : Type 0} → Result (Vec A Global) StepFault → Result (List A) Cause → Type 0
FindsAll (Ok xs) looked = looked ≡ Ok xs.items
FindsAll (Err fault) looked = IsCause (cause_of fault) looked

-- An argument that may be left out, and a list of such.
abbrev pub found_if : {H : Type 0} → Kind H → List Answer → Option ℕ → Result (Option H) Cause
found_if k answers None = Ok None
found_if k answers (Some n) = and_then (found k answers n) (λ x. Ok (Some x))

abbrev pub all_found_if : {H : Type 0} → Kind H → List Answer → List (Option ℕ) → Result (List (Option H)) Cause
all_found_if k answers [] = Ok []
all_found_if k answers (n ∷ ns) = and_then (found_if k answers n) (λ x. and_then (all_found_if k answers ns) (λ xs. Ok (x ∷ xs)))

abbrev pub is_own_if : {H : Type 0} → Kind H → Bench → Option H → Bool
is_own_if k b None = true
is_own_if k b (Some h) = k.is_own b h

-- A list of arguments, and one of arguments that may be left out.
unfoldable pub many_and_open : {A : Type 0} → Kind A → Bench → List Answer → List ℕ → List (Option ℕ) → Result (List A × List (Option A)) Cause
many_and_open k b answers ns ms =
    and_then (all_found k answers ns) (λ xs. and_then (all_found_if k answers ms) (λ ys. if_own (list_all (k.is_own b) xs && list_all (is_own_if k b) ys) (xs, ys)))

-- One argument, and two, with a list of arguments that may be left out.
unfoldable pub one_and_open : {A B : Type 0} → Kind A → Kind B → Bench → List Answer → ℕ → List (Option ℕ) → Result (A × List (Option B)) Cause
one_and_open j k b answers n ms = and_then (found j answers n) (λ x. and_then (all_found_if k answers ms) (λ ys. if_own (j.is_own b x && list_all (is_own_if k b) ys) (x, ys)))

unfoldable pub two_and_open : {A B C : Type 0} → Kind A → Kind B → Kind C → Bench → List Answer → ℕ → ℕ → List (Option ℕ) → Result ((A × B) × List (Option C)) Cause
two_and_open i j k b answers n m os =
    and_then (found i answers n) (λ x. and_then (found j answers m) (λ y. and_then (all_found_if k answers os) (λ zs.
    if_own (i.is_own b x && (j.is_own b y && list_all (is_own_if k b) zs)) ((x, y), zs))))

-- Calls over handles of these kinds: they are looked for, and the call goes on with them.

-- A call over a handle of this kind: it is looked up, and the call goes on with it.
abbrev pub takes_one : {A : Type 0} → Kind A → ℕ → (A → Bench → Outcome) → Call
takes_one k n next b answers = given (one k b answers n) (λ x. next x b)

-- A call over two handles of these kinds.
abbrev pub takes_two : {A B : Type 0} → Kind A → Kind B → (n m : ℕ) → (A → B → Bench → Outcome) → Call
takes_two j k n m next b answers = given (two j k b answers n m) (λ (x, y). next x y b)

abbrev pub takes_three : {A B C : Type 0} → Kind A → Kind B → Kind C → (n m o : ℕ) → (A → B → C → Bench → Outcome) → Call
takes_three i j k n m o next b answers = given (three i j k b answers n m o) (λ (x, y, z). next x y z b)

-- A call over a list of handles of this kind.
abbrev pub takes_many : {A : Type 0} → Kind A → List ℕ → (List A → Bench → Outcome) → Call
takes_many k ns next b answers = given (many k b answers ns) (λ xs. next xs b)

abbrev pub takes_one_and_many : {A B : Type 0} → Kind A → Kind B → ℕ → List ℕ → (A → List B → Bench → Outcome) → Call
takes_one_and_many j k n ms next b answers = given (one_and_many j k b answers n ms) (λ (x, ys). next x ys b)

abbrev pub takes_many_and_open : {A : Type 0} → Kind A → List ℕ → List (Option ℕ) → (List A → List (Option A) → Bench → Outcome) → Call
takes_many_and_open k ns ms next b answers = given (many_and_open k b answers ns ms) (λ (xs, ys). next xs ys b)

abbrev pub takes_one_and_open : {A B : Type 0} → Kind A → Kind B → ℕ → List (Option ℕ) → (A → List (Option B) → Bench → Outcome) → Call
takes_one_and_open j k n ms next b answers = given (one_and_open j k b answers n ms) (λ (x, ys). next x ys b)

abbrev pub takes_two_and_open : {A B C : Type 0} → Kind A → Kind B → Kind C → (n m : ℕ) → List (Option ℕ) → (A → B → List (Option C) → Bench → Outcome) → Call
takes_two_and_open i j k n m os next b answers = given (two_and_open i j k b answers n m os) (λ p. next p.0.0 p.0.1 p.1 b)
