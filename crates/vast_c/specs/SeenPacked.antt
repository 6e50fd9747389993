-- What C sees of a session that is given packed calls, `None` where it is not open.
use Rattle.std.specs.Prelude.{◌≡◌, ℕ, List, [], Option, IfSome, None, Some}
use Rattle.vast_session.specs.PackedFronts.{IsToldOfFront, RunsPacked}
use Rattle.vast_session.specs.declared.fault.Fault.TheVariants.{Line}
use Rattle.vast_session.specs.declared.session.Session.{Session}
use Rattle.vast_c.specs.Seen.{more_lines}
use Rattle.vast_c.specs.declared.kept.Kept.{Kept}
use Rattle.vast_c.specs.declared.kept.ToldFault.{ToldFault}

-- What is told, if anything is, is the fault of the call at the front.
abbrev pub TellsPacked : (before after : Session) → (number : ℕ) → (bytes : List ℕ) → Option ToldFault → Type 0
TellsPacked before after number bytes told = IfSome told (λ t. IsToldOfFront before after number bytes (Line t.fault))

-- So many of the calls were made and counted; since then the session is the same but for what Same leaves out, and what is
-- told, if anything is, is the fault of the next one.
pub record RunPacked (before : Kept) (bytes : List ℕ) (taken : ℕ) (Same : Session → Session → Type 0) (after : Kept) : Type 0 where
  pub between : Session
  pub behind : List ℕ
  pub made : RunsPacked taken before.session between bytes behind
  pub same : Same between after.session
  pub counted : after.lines ≡ more_lines before.lines taken
  pub fault : TellsPacked between after.session (more_lines after.lines 1) behind after.told

-- So it was with the session that is open.
abbrev pub MadePacked : Option Kept → (bytes : List ℕ) → (taken : ℕ) → (Same : Session → Session → Type 0) → Option Kept → Type 0
MadePacked (Some before) bytes taken Same (Some after) = RunPacked before bytes taken Same after
MadePacked None bytes taken Same None = taken ≡ 0
MadePacked _ bytes taken Same _ = ⊥

-- All of the calls were made.
abbrev pub MadeAllPacked : Option Kept → (bytes : List ℕ) → (taken : ℕ) → Option Kept → Type 0
MadeAllPacked (Some before) bytes taken (Some after) = RunsPacked taken before.session after.session bytes []
MadeAllPacked _ bytes taken _ = ⊥
