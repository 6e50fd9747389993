-- What packed calls leave of a session.
use Rattle.std.proofs.Common.{◌≡◌, ℕ, zero, suc, ◌<◌, ◌++◌, List, [], ◌∷◌, length, arith, true, Option, Ok, Err, Some, None, inl, inr, refl, ap, subst, sym, ◌∙◌}
use Rattle.std.proofs.lemmas.List.{length-append}
use Rattle.std.specs.Prelude.{IfSome, is_some}
use Rattle.vast_script.specs.declared.fault.StepFault.{StepFault}
use Rattle.vast_calls.specs.declared.arguments.Known.{Known}
use Rattle.vast_session.specs.declared.fault.Fault.{Fault}
use Rattle.vast_session.specs.declared.fault.Fault.TheVariants.{Line, Memory}
use Rattle.vast_calls.specs.declared.line.Action.{Action}
use Rattle.vast_calls.specs.declared.line.Action.TheVariants.{Ask, Call as CallAction}
use Rattle.vast_calls.specs.declared.line.Call.{Call}
use Rattle.vast_calls.specs.declared.line.Call.TheVariants.{Step as StepCall, Helper as HelperCall}
use Rattle.vast_calls.specs.declared.questions.Question.{Question}
use Rattle.vast_session.specs.declared.questions.answered.Value.{Value}
use Rattle.vast_session.specs.declared.session.LineResult.{LineResult}
use Rattle.vast_session.specs.declared.session.Session.{Session}
use Rattle.vast_calls.specs.declared.packed_call.PackedCall.{PackedCall}
use Rattle.vast_calls.specs.CallArguments.{Piece}
use Rattle.vast_calls.specs.Names.{IsFree}
use Rattle.vast_calls.specs.Packed.{ArePacked}
use Rattle.vast_session.specs.PackedCalls.{AnswersPacked, GivesPacked, IsPackedAction, IsToldOfPacked, MakesPacked, action_words}
use Rattle.vast_calls.specs.PackedCalls.{IsCallFront, NamesPacked, IsCallSplit, IsUnpacked}
use Rattle.vast_session.specs.PackedFronts.{GivesFront, IsToldOfFront, RunsAll, RunsPacked}
use Rattle.vast_session.specs.Questions.{Asks}
use Rattle.vast_session.specs.Session.{IsFileLeft, IsLeft, IsMade, IsOfLine, next_number}
use Rattle.vast_calls.specs.Written.{meaning}
use Rattle.vast_session.specs.Internal.PackedCalls.{IsToldMispacked, TakesPacked, given_by}
use Rattle.vast_calls.specs.Actions.{Acts}
use Rattle.vast_session.specs.Internal.Session.{IsAskFault, IsCallFault, IsQuestionFault, IsToldOf, MakesName}
use Rattle.vast_session.proofs.Sessions.{left_same, same-unused}

-- What was read.

pub read_packed : (known : Known) (session : Session) (bytes : List ℕ) (packed : PackedCall) → known.skipped.now ≡ session.skipped.items → IsUnpacked known.skipped.now bytes packed → IsUnpacked session.skipped.items bytes packed
read_packed known session bytes packed s h = subst (λ (skipped : List ℕ). IsUnpacked skipped bytes packed) s h

-- The bytes are the action that was read, and have its name.

named_action : (P : List Piece → Type 0) (name : List ℕ) (action : Action) → Acts P name action → ((action_words action).0 ≡ name) × P (action_words action).1
named_action P name (Ask question) h = (h.1, h.2)
named_action P name (CallAction call) h = (h.1, h.2)

action_in : (session : Session) (bytes : List ℕ) (packed : PackedCall) → IsUnpacked session.skipped.items bytes packed → ((action_words packed.action).0 ≡ packed.call.now) × IsPackedAction session packed.action bytes
action_in session bytes packed h =
    let named = named_action (λ ps. ArePacked session.skipped.items ps h.0) packed.call.now packed.action h.2 in
    (named.0, (h.0, subst (λ (name : List ℕ). IsCallFront bytes name h.0) (sym named.0) h.1, named.1))

this_in :
    (session : Session) (bytes : List ℕ) (packed : PackedCall) (action : Action) → IsUnpacked session.skipped.items bytes packed → packed.action ≡ action →
    ((action_words action).0 ≡ packed.call.now) × IsPackedAction session action bytes
this_in session bytes packed action h e =
    subst (λ (a : Action). ((action_words a).0 ≡ packed.call.now) × IsPackedAction session a bytes) e (action_in session bytes packed h)

-- What the call gave.

made_packed :
    (old new : Session) (bytes : List ℕ) (packed : PackedCall) (call : Call) → IsUnpacked old.skipped.items bytes packed → packed.action ≡ CallAction call → IsMade old new call →
    (IsFree (meaning old.names) None → MakesName old new None (Ok tt)) → MakesPacked old new call packed.call.now bytes
made_packed old new bytes packed call h e m n =
    let this = this_in old bytes packed (CallAction call) h e in
    let entered = n tt in
    (this.0, this.1, m, (entered.0.1, entered.1))

pub gives_made :
    (old new : Session) (bytes : List ℕ) (packed : PackedCall) (call : Call) (number : ℕ) (given : LineResult) → IsUnpacked old.skipped.items bytes packed → packed.action ≡ CallAction call → IsMade old new call →
    (IsFree (meaning old.names) None → MakesName old new None (Ok tt)) → number ≡ next_number old → given ≡ given_by number packed.call call → GivesPacked old new bytes given
gives_made old new bytes packed (StepCall step) number given h e m n is g =
    subst (λ (r : LineResult). GivesPacked old new bytes r) (sym g) (is, step, made_packed old new bytes packed (StepCall step) h e m n)
gives_made old new bytes packed (HelperCall helper) number given h e m n is g =
    subst (λ (r : LineResult). GivesPacked old new bytes r) (sym g) (is, helper, made_packed old new bytes packed (HelperCall helper) h e m n)

pub answered_packed :
    (old : Session) (bytes : List ℕ) (packed : PackedCall) (question : Question) (value : Value) → IsUnpacked old.skipped.items bytes packed → packed.action ≡ Ask question →
    Asks old.file old.answers.items (Ok value) question → AnswersPacked old old question (Ok value) packed.call.now bytes
answered_packed old bytes packed question value h e a =
    let this = this_in old bytes packed (Ask question) h e in
    (this.0, this.1, a, ((refl, refl), (refl, refl)))

-- What is told.

pub left_packed : (old new : Session) (fault : Fault) → IsFileLeft old new fault → (IsFree (meaning old.names) None → MakesName old new None (Err fault)) → IsLeft old new fault
left_packed old new fault f n = (f, n tt)

pub mispacked_told : (old new : Session) (number : ℕ) (bytes : List ℕ) (fault : Fault) → IsToldMispacked number bytes fault → IsToldOfPacked old new number bytes fault
mispacked_told old new number bytes (Line f) h = (h.2.0, inl (h.2.3, h.2.2, subst (λ (name : List ℕ). NamesPacked bytes name) (sym h.2.1) h.1))
mispacked_told old new number bytes Memory h = tt

found : (F : StepFault → Type 0) (cause : Option StepFault) → is_some cause ≡ true → IfSome cause F → (c : StepFault) × (cause ≡ Some c) × F c
found F None e h = absurd (cc e)
found F (Some c) e h = (c, refl, h)

pub asked_packed :
    (old : Session) (number : ℕ) (bytes : List ℕ) (packed : PackedCall) (question : Question) (fault : Fault) → IsUnpacked old.skipped.items bytes packed → packed.action ≡ Ask question →
    IsAskFault number packed.call.now fault → IsQuestionFault old question fault → IsToldOfPacked old old number bytes fault
asked_packed old number bytes packed question (Line f) h e a q =
    let this = this_in old bytes packed (Ask question) h e in
    let why = found (λ (c : StepFault). Asks old.file old.answers.items (Err c) question) f.cause a.3 q in
    (a.0, inr (Ask question, this.1, this.0 ∙ sym a.1, a.2, why.0, why.1, why.2))
asked_packed old number bytes packed question Memory h e a q = tt

pub called_packed :
    (old new : Session) (number : ℕ) (bytes : List ℕ) (packed : PackedCall) (call : Call) (fault : Fault) → IsUnpacked old.skipped.items bytes packed → packed.action ≡ CallAction call →
    IsOfLine number fault → IsCallFault old new packed.call.now call fault → IsToldOfPacked old new number bytes fault
called_packed old new number bytes packed call (Line f) h e o k =
    let this = this_in old bytes packed (CallAction call) h e in
    (o, inr (CallAction call, this.1, this.0 ∙ sym k.0, k.1, k.2, k.3, k.4))
called_packed old new number bytes packed call Memory h e o k = tt

-- A call at the front.

pub uncut : (old new : Session) (number : ℕ) (bytes : List ℕ) (fault : Fault) → IsToldOf number [] None None fault → IsToldOfFront old new number bytes fault
uncut old new number bytes (Line f) h = inr (h.0, inl (h.3, h.2, inl h.1))
uncut old new number bytes Memory h = inr tt

pub told_front :
    (old new : Session) (number : ℕ) (bytes call behind : List ℕ) (fault : Fault) → IsCallSplit bytes call behind → IsToldOfPacked old new number call fault → IsToldOfFront old new number bytes fault
told_front old new number bytes call behind fault s h = inl (call, behind, s, h)

pub gives_front :
    (old new : Session) (bytes call behind : List ℕ) (given : LineResult) → IsCallSplit bytes call behind → TakesPacked old new call (Ok given) → GivesFront old new bytes given behind
gives_front old new bytes call behind given s h = (call, s, h)

pub ruleset fronts = (uncut, told_front, gives_front, left_same, same-unused)

-- Calls one after another.

abbrev pub RunsUpTo : (old here : Session) → (bytes left : List ℕ) → Type 0
RunsUpTo old here bytes left = (n : ℕ) × RunsPacked n old here bytes left

pub one_more :
    (n : ℕ) (old here next : Session) (bytes left behind : List ℕ) (given : LineResult) → RunsPacked n old here bytes left → GivesFront here next left given behind → RunsPacked (suc n) old next bytes behind
one_more zero old here next bytes left behind given (e, s) g =
    (behind, next, given, subst (λ (l : List ℕ). GivesFront old next l given behind) e (subst (λ (h : Session). GivesFront h next left given behind) s g), (refl, refl))
one_more (suc n) old here next bytes left behind given (rest, between, gave, front, runs) g = (rest, between, gave, front, one_more n between here next rest left behind given runs g)

pub runs_none : (session : Session) (bytes : List ℕ) → RunsUpTo session session bytes bytes
runs_none session bytes = (0, (refl, refl))

pub runs_more :
    (old here next : Session) (bytes left behind : List ℕ) (given : LineResult) → RunsUpTo old here bytes left → GivesFront here next left given behind → RunsUpTo old next bytes behind
runs_more old here next bytes left behind given k g = (suc k.0, one_more k.0 old here next bytes left behind given k.1 g)

pub runs_all : (old here : Session) (bytes left : List ℕ) → RunsUpTo old here bytes left → left ≡ [] → RunsAll old here bytes
runs_all old here bytes left k e = subst (λ (l : List ℕ). RunsUpTo old here bytes l) e k

-- A call takes a byte at least.
pub split_shorter : (bytes call behind : List ℕ) → IsCallSplit bytes call behind → length behind < length bytes
split_shorter bytes call behind ([], h, e) = absurd h
split_shorter bytes call behind (b ∷ front, h, e) = omega (arith, ap length e ∙ length-append (b ∷ front) (call ++ behind), length-append call behind)

pub ruleset running = (runs_none, runs_more, runs_all, split_shorter)

pub ruleset packed = (gives_made, answered_packed, left_packed, mispacked_told, asked_packed, called_packed, left_same, same-unused)
