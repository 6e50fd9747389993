-- One packed call more, and what it gave.
use Rattle.std.proofs.Common.{◌≡◌, ℕ, suc, ◌+◌, ◌<◌, List, [], length, sym, subst, arith}
use Rattle.std.specs.Borrow.{Bor}
use Rattle.std.specs.Prelude.{IfOk, IfSome, Option, None, Some, Result, Ok, Err}
use Rattle.vast_session.specs.PackedFronts.{GaveFront, GivesFront, IsToldOfFront, RunsPacked}
use Rattle.vast_session.specs.Session.{IsLeft, IsSame}
use Rattle.vast_session.specs.declared.fault.Fault.{Fault}
use Rattle.vast_session.specs.declared.fault.Fault.TheVariants.{Line, Memory as OutOfMemory}
use Rattle.vast_session.specs.declared.session.LineResult.{LineResult}
use Rattle.vast_session.specs.declared.session.Session.{Session}
use Rattle.vast_session.proofs.MadeSteps.{gave_before, same_before, told_before, tree_before}
use Rattle.vast_session.proofs.PackedSessions.{one_more, split_shorter}
use Rattle.vast_c.specs.SeenPacked.{MadeAllPacked, MadePacked, RunPacked, TellsPacked}
use Rattle.vast_c.specs.Internal.Seen.{LeftBy, LeftIfAny}
use Rattle.vast_c.specs.declared.kept.Cause.{Cause}
use Rattle.vast_c.specs.declared.kept.Cause.TheVariants.{Refused, Condition, Form, Memory}
use Rattle.vast_c.specs.declared.kept.Kept.{Kept}
use Rattle.vast_c.specs.declared.kept.ToldFault.{ToldFault}

-- What gives something has a byte at least.
pub gave_shorter : (a b : Session) (bytes behind : List ℕ) (given : LineResult) → GivesFront a b bytes given behind → length behind < length bytes
gave_shorter a b bytes behind given h = split_shorter bytes h.0 behind h.1

pub gave_front : (a b : Session) (bytes behind : List ℕ) (given : LineResult) → GivesFront a b bytes given behind → GaveFront a b bytes behind
gave_front a b bytes behind given h = (given, h)

pub ruleset calls = (gave_shorter, gave_front)

-- A call that is made as a step, or else as any.

pub front_shorter : (a b : Session) (bytes behind : List ℕ) → GaveFront a b bytes behind → length behind < length bytes
front_shorter a b bytes behind h = gave_shorter a b bytes behind h.0 h.1

pub left_memory : (a b : Session) → IsLeft a b OutOfMemory → LeftBy a b Memory
left_memory a b h = h.0

pub left_by_before : (a b c : Session) (cause : Cause) → IsSame a b → LeftBy b c cause → LeftBy a c cause
left_by_before a b c Refused e h = same_before a b c e h
left_by_before a b c Condition e h = same_before a b c e h
left_by_before a b c Form e h = same_before a b c e h
left_by_before a b c Memory e h = tree_before a b c e.0 h

pub tells_before : (a b c : Session) (n : ℕ) (bytes : List ℕ) (told : Option ToldFault) → IsSame a b → TellsPacked b c n bytes told → TellsPacked a c n bytes told
tells_before a b c n bytes None e h = tt
tells_before a b c n bytes (Some t) e h = told_before a b c n bytes (Line t.fault) e h

pub gave_if_ok : (a b c : Session) (bytes : List ℕ) (result : Result (Bor (List ℕ)) Cause) → IsSame a b → IfOk result (λ behind. GaveFront b c bytes behind.now) → IfOk result (λ behind. GaveFront a c bytes behind.now)
gave_if_ok a b c bytes (Ok behind) e h = gave_before a b c bytes behind.now e h
gave_if_ok a b c bytes (Err cause) e h = h

pub ruleset fronts = (front_shorter, left_memory, left_by_before, tells_before, gave_before)

pub packed_more : (n : ℕ) (a b c : Session) (bytes left behind : List ℕ) → RunsPacked n a b bytes left → GaveFront b c left behind → RunsPacked (n + 1) a c bytes behind
packed_more n a b c bytes left behind h g =
    let one : suc n ≡ n + 1 = omega arith in
    subst (λ (m : ℕ). RunsPacked m a c bytes behind) one (one_more n a b c bytes left behind g.0 h g.1)

-- The fault that is told of a packed call is what the session said of it.
pub told_packed :
    (a b c : Session) (n : ℕ) (bytes : List ℕ) (fault : Fault) (told : Option ToldFault) → c ≡ b → IfSome told (λ t. fault ≡ Line t.fault) → IsToldOfFront a b n bytes fault → TellsPacked a c n bytes told
told_packed a b c n bytes fault None same is said = tt
told_packed a b c n bytes fault (Some t) same is said =
    subst (λ (s : Session). IsToldOfFront a s n bytes (Line t.fault)) (sym same) (subst (IsToldOfFront a b n bytes) is said)

-- What packed calls did to the session that is open.
pub packed_as : (Same : Session → Session → Type 0) (b a : Kept) (bytes : List ℕ) (taken : ℕ) (cause : Option Cause) (before after : Option Kept) → before ≡ Some b → after ≡ Some a
    → ((s t : Session) → LeftIfAny cause s t → Same s t) → RunPacked b bytes taken (LeftIfAny cause) a → MadePacked before bytes taken Same after
packed_as Same b a bytes taken cause before after is_before is_after weaker run =
    rw (is_before, is_after)
    (record { between = run.between; behind = run.behind; made = run.made; same = weaker run.between a.session run.same; counted = run.counted; fault = run.fault })

pub all_packed : (b a : Kept) (bytes : List ℕ) (taken : ℕ) (before after : Option Kept) → before ≡ Some b → after ≡ Some a → RunsPacked taken b.session a.session bytes [] → MadeAllPacked before bytes taken after
all_packed b a bytes taken before after is_before is_after runs = rw (is_before, is_after) runs
