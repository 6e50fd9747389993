-- Calls that may be refused by name.
use Rattle.std.specs.Prelude.{◌≡◌, ℕ, List, Result, Ok, Err, IsOkAnd}
use Rattle.vast_literal.specs.declared.error.VastFault.{VastFault}
use Rattle.vast_literal.specs.Fault.{RefusedBy, OnlyRefusedBy}
use Rattle.vast_core.specs.Bench.{Bench}

-- The rule allows the call, which returns this and leaves this, all of what the file held; or it is refused, exactly as
-- the rule says; or memory was refused. After a refusal nothing changed.
abbrev pub MayBuild : {A B : Type 0} → (old new : Bench) → Result A VastFault → (Bench → Result B (List ℕ)) → (Bench → A) → (B → Bench → Bench) → Type 0
MayBuild old new (Ok x) rule answer after =
    IsOkAnd (rule old) (λ made. (x ≡ answer old) × (new ≡ after made old))
MayBuild old new (Err fault) rule answer after = RefusedBy (rule old) fault × (new ≡ old)

-- The rule of a call that is never refused by name.
abbrev pub no_refusal : Bench → Result (Unit {0}) (List ℕ)
no_refusal _ = Ok tt

-- A call that changes nothing returns what the rule returns; or its refusal, for whose words alone memory is taken.
abbrev pub AnswersBy : {A : Type 0} → Result A (List ℕ) → Result A VastFault → Type 0
AnswersBy rule (Ok x) = rule ≡ Ok x
AnswersBy rule (Err fault) = OnlyRefusedBy rule fault

-- The rule allows the call, which leaves this; or it is refused, exactly as the rule says, and nothing changed. Memory is
-- wanted for the words of a refusal alone.
abbrev pub MayChange : (old new : Bench) → Result (Unit {0}) VastFault → (Bench → Result (Unit {0}) (List ℕ)) → (Bench → Bench) → Type 0
MayChange old new (Ok x) rule after = (rule old ≡ Ok x) × (new ≡ after old)
MayChange old new (Err fault) rule after = OnlyRefusedBy (rule old) fault × (new ≡ old)
