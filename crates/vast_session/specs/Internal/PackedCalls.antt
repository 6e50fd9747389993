-- Beside `specs/PackedCalls.antt`: what private contracts and proofs say, and no public one.
use Rattle.std.specs.Prelude.{ℕ, List, None, Result, Ok, Err}
use Rattle.vast_session.specs.declared.fault.Fault.{Fault}
use Rattle.vast_calls.specs.declared.table.numbered.Place.{Place}
use Rattle.vast_steps.specs.declared.step.Step.{Step as ScriptStep}
use Rattle.vast_session.specs.PackedCalls.{GivesPacked}
use Rattle.vast_calls.specs.PackedCalls.{NamesPacked, IsStepAt}
use Rattle.vast_session.specs.Session.{IsLeft, IsMade, IsSameKnown}
use Rattle.std.specs.Borrow.{Bor}
use Rattle.vast_calls.specs.declared.line.Call.{Call}
use Rattle.vast_calls.specs.declared.line.Call.TheVariants.{Step as StepCall, Helper as HelperCall}
use Rattle.vast_session.specs.declared.session.LineResult.{LineResult}
use Rattle.vast_session.specs.declared.session.LineResult.TheVariants.{Step, Helper}
use Rattle.vast_session.specs.declared.session.Session.{Session}
use Rattle.vast_session.specs.Internal.Session.{IsToldOf}

-- The call of this place over the arguments is a step, which was made.
abbrev pub MadeAt : (old new : Session) → Place → (arguments : List ℕ) → Type 0
MadeAt old new place arguments =
    (step : ScriptStep) × IsStepAt old.skipped.items place arguments step × IsMade old new (StepCall step) × IsSameKnown old new

-- The bytes are a step, which was made.
abbrev pub GavePacked : (old new : Session) → (bytes : List ℕ) → Type 0
GavePacked old new bytes = (given : LineResult) × GivesPacked old new bytes given

-- What a packed call does to a session.
abbrev pub TakesPacked : (old new : Session) → (bytes : List ℕ) → Result LineResult Fault → Type 0
TakesPacked old new bytes (Ok given) = GivesPacked old new bytes given
TakesPacked old new bytes (Err fault) = IsLeft old new fault

-- What a call gives that is counted, under its number and its name.
abbrev pub given_by : ℕ → Bor (List ℕ) → Call → LineResult
given_by number name (StepCall step) = Step number name
given_by number name (HelperCall helper) = Helper number name

-- The fault of bytes that are no call.
abbrev pub IsToldMispacked : (number : ℕ) → (bytes : List ℕ) → Fault → Type 0
IsToldMispacked number bytes fault = (name : List ℕ) × NamesPacked bytes name × IsToldOf number name None None fault
