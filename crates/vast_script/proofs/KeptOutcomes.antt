-- What the outcome of a call keeps.
use Rattle.std.proofs.Common.{ℕ, Bool, true, false, List, Option, Some, None, Result, Ok, Err}
use Rattle.vast_core.specs.Bench.{Bench}
use Rattle.vast_script.specs.declared.answer.Answer.{Answer}
use Rattle.vast_script.specs.Outcome.{Call, Cause, Outcome, Made, AtFault, given, provided, allowed, holding}
use Rattle.xlsynth_vast.specs.Keeps.{Keeps}

abbrev pub OutcomeKeeps : Bench → Outcome → Type 0
OutcomeKeeps b (Made answer after) = Keeps b after
OutcomeKeeps b (AtFault cause) = Unit {0}

abbrev pub CallKeeps : Call → Type 0
CallKeeps call = (b : Bench) (answers : List Answer) → OutcomeKeeps b (call b answers)

pub given-keeps : {A : Type 0} (b : Bench) (looked : Result A Cause) (next : A → Outcome) → ((x : A) → OutcomeKeeps b (next x)) → OutcomeKeeps b (given looked next)
given-keeps b (Err cause) next h = tt
given-keeps b (Ok x) next h = h x

pub provided-keeps : (b : Bench) (met : Bool) (next : Outcome) → OutcomeKeeps b next → OutcomeKeeps b (provided met next)
provided-keeps b false next h = tt
provided-keeps b true next h = h

pub allowed-keeps : {A : Type 0} (b : Bench) (rule : Result A (List ℕ)) (next : A → Outcome) → ((x : A) → OutcomeKeeps b (next x)) → OutcomeKeeps b (allowed rule next)
allowed-keeps b (Err words) next h = tt
allowed-keeps b (Ok x) next h = h x

pub holding-keeps : {A : Type 0} (b : Bench) (held : Option A) (next : A → Outcome) → ((x : A) → OutcomeKeeps b (next x)) → OutcomeKeeps b (holding held next)
holding-keeps b None next h = tt
holding-keeps b (Some x) next h = h x
