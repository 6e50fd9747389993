-- Beside `specs/Replies.antt`: what private contracts and proofs say, and no public one.
use Rattle.std.specs.Prelude.{◌≡◌, ℕ, List, ◌++◌, Result, Ok, Err, ⊤}
use Rattle.vast_session.specs.declared.fault.Fault.{Fault}
use Rattle.vast_session.specs.declared.fault.Fault.TheVariants.{Line, Memory}
use Rattle.vast_session.specs.Replies.{fault_object}
use Rattle.vast_talk.specs.Replies.{IsWarned, IsWarningsAnswer}

-- The text grew by an object that tells this; or it is as before, and the fault's object tells it.
abbrev pub AddsReply : (old new : List ℕ) → Result (Unit {0}) Fault → (List ℕ → Type 0) → Type 0
AddsReply old new (Ok done) IsTold = (object : List ℕ) × IsTold object × (new ≡ old ++ object)
AddsReply old new (Err (Line fault)) IsTold = IsTold (fault_object fault) × (new ≡ old)
AddsReply old new (Err Memory) IsTold = ⊤

-- The text grew by the fault's object, if there is a fault.
abbrev pub AddsFault : (old new : List ℕ) → Result (Unit {0}) Fault → Type 0
AddsFault old new (Ok done) = new ≡ old
AddsFault old new (Err (Line fault)) = new ≡ old ++ fault_object fault
AddsFault old new (Err Memory) = ⊥

-- The text grew by the object, which may have warnings.
abbrev pub AddsWarned : (old new object : List ℕ) → Type 0
AddsWarned old new object = (told : List ℕ) × IsWarned object told × (new ≡ old ++ told)

-- The text grew by the answer to the line that asks for warnings.
abbrev pub AddsAnswer : (old new : List ℕ) → (number : ℕ) → Type 0
AddsAnswer old new number = (object : List ℕ) × IsWarningsAnswer number object × (new ≡ old ++ object)
