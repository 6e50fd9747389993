-- Packed calls one after another, from the front of some bytes.
use Rattle.std.specs.Prelude.{◌≡◌, ◌⊎◌, ℕ, zero, suc, List, []}
use Rattle.vast_calls.specs.PackedCalls.{IsCallSplit}
use Rattle.vast_session.specs.declared.fault.Fault.{Fault}
use Rattle.vast_session.specs.declared.session.LineResult.{LineResult}
use Rattle.vast_session.specs.declared.session.Session.{Session}
use Rattle.vast_session.specs.PackedCalls.{GivesPacked, IsToldOfPacked}

-- The call at the front gave this, and that stands after it.
abbrev pub GivesFront : (old new : Session) → (bytes : List ℕ) → LineResult → (behind : List ℕ) → Type 0
GivesFront old new bytes given behind = (call : List ℕ) × IsCallSplit bytes call behind × GivesPacked old new call given

-- The call at the front gave something, and this stands after it.
abbrev pub GaveFront : (old new : Session) → (bytes behind : List ℕ) → Type 0
GaveFront old new bytes behind = (given : LineResult) × GivesFront old new bytes given behind

-- What is told of the call at the front; or of no bytes, where none stands there.
abbrev pub IsToldOfFront : (old new : Session) → (number : ℕ) → (bytes : List ℕ) → Fault → Type 0
IsToldOfFront old new number bytes fault =
    ((call : List ℕ) × (behind : List ℕ) × IsCallSplit bytes call behind × IsToldOfPacked old new number call fault) ⊎ IsToldOfPacked old new number [] fault

-- So many calls stand at the front, one after another, and this after them; they lead a session from this to that.
abbrev pub RunsPacked : ℕ → (old new : Session) → (bytes behind : List ℕ) → Type 0
RunsPacked zero old new bytes behind = (behind ≡ bytes) × (new ≡ old)
RunsPacked (suc n) old new bytes behind =
    (rest : List ℕ) × (next : Session) × (given : LineResult) × GivesFront old next bytes given rest × RunsPacked n next new rest behind

-- The bytes are calls that lead a session from this to that.
abbrev pub RunsAll : (old new : Session) → (bytes : List ℕ) → Type 0
RunsAll old new bytes = (n : ℕ) × RunsPacked n old new bytes []
