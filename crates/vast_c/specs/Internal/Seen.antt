-- Beside `specs/Seen.antt`: what private contracts and proofs say, and no public one.
use Rattle.std.specs.Prelude.{◌≡◌, Option, None, Some}
use Rattle.vast_session.specs.Session.{IsSame}
use Rattle.vast_session.specs.declared.session.Session.{Session}
use Rattle.vast_c.specs.declared.kept.Cause.{Cause}
use Rattle.vast_c.specs.declared.kept.Cause.TheVariants.{Refused, Condition, Form, Memory}
use Rattle.vast_c.specs.declared.kept.ToldFault.{ToldFault}
use Rattle.vast_c.specs.Seen.{IsSameTree, cause_of}

-- A line that gives nothing leaves the session as it was; where memory was refused, its tree and its answers.
abbrev pub LeftBy : (before after : Session) → Cause → Type 0
LeftBy before after Refused = IsSame before after
LeftBy before after Condition = IsSame before after
LeftBy before after Form = IsSame before after
LeftBy before after Memory = IsSameTree before after

abbrev pub LeftIfAny : Option Cause → (before after : Session) → Type 0
LeftIfAny None before after = after ≡ before
LeftIfAny (Some cause) before after = LeftBy before after cause

-- A fault of this cause is told; where none is, memory was refused.
abbrev pub IsToldOf : Cause → Option ToldFault → Type 0
IsToldOf cause None = cause ≡ Memory
IsToldOf cause (Some told) = cause_of told.fault.cause ≡ cause
