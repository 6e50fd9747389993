-- What a packed call that is a step, and is made, leaves of a session.
use Rattle.std.proofs.Common.{◌≡◌, ◌⊎◌, ℕ, ◌++◌, List, [], ◌∷◌, Ok, Err, Some, Result, inl, inr, refl, ap, subst, ◌∙◌}
use Rattle.std.specs.Borrow.{Bor}
use Rattle.vast_core.specs.Bench.{Bench}
use Rattle.vast_core.specs.FileTree.{tree}
use Rattle.vast_script.specs.declared.answer.Answer.{Answer}
use Rattle.vast_script.specs.declared.fault.StepFault.{StepFault}
use Rattle.vast_steps.specs.declared.step.Step.{Step as ScriptStep}
use Rattle.vast_session.specs.declared.fault.Fault.{Fault}
use Rattle.vast_session.specs.declared.fault.Fault.TheVariants.{Line, Memory}
use Rattle.vast_session.specs.declared.fault.LineFault.{LineFault}
use Rattle.vast_calls.specs.declared.line.Action.{Action}
use Rattle.vast_calls.specs.declared.line.Action.TheVariants.{Ask, Call as CallAction}
use Rattle.vast_calls.specs.declared.line.Call.{Call}
use Rattle.vast_calls.specs.declared.line.Call.TheVariants.{Step as StepCall, Helper as HelperCall}
use Rattle.vast_calls.specs.declared.questions.Question.{Question}
use Rattle.vast_session.specs.declared.questions.answered.Value.{Value}
use Rattle.vast_session.specs.declared.session.LineResult.{LineResult}
use Rattle.vast_session.specs.declared.session.LineResult.TheVariants.{Nothing, Step, Helper, Answer as Answered}
use Rattle.vast_session.specs.declared.session.Session.{Session}
use Rattle.vast_calls.specs.declared.table.numbered.Place.{Place}
use Rattle.vast_calls.specs.CallNames.{step_name}
use Rattle.vast_calls.specs.Packed.{ArePacked}
use Rattle.vast_session.specs.PackedCalls.{AnswersPacked, FailsBy, GivesPacked, IsMispacked, IsPackedAction, IsPackedFault, IsToldOfPacked, MakesPacked, action_number, action_words}
use Rattle.vast_session.specs.PackedFronts.{GaveFront, IsToldOfFront}
use Rattle.vast_calls.specs.PackedCalls.{IsCallSplit, IsPlaceFront, IsStepAt}
use Rattle.vast_session.specs.Questions.{Asks}
use Rattle.vast_session.specs.Session.{Calls, IsFileLeft, IsLeft, IsMade, IsSame, IsSameFile, IsSameKnown, next_number}
use Rattle.vast_session.specs.Internal.PackedCalls.{GavePacked, MadeAt}
use Rattle.vast_calls.proofs.CallRows.{call_in_front}
use Rattle.vast_session.proofs.Sessions.{next-same}

-- The file after a step that is refused.

pub refused_same : (old new : Session) (step : ScriptStep) (fault : StepFault) → Calls old.file new.file old.answers.items (Err fault) (StepCall step) → new.answers.items ≡ old.answers.items → IsSameFile old new
refused_same old new step fault h a = (h.1, a)

pub left_memory : (old new : Session) → IsSameFile old new → IsFileLeft old new Memory
left_memory old new h = (ap tree h.0, h.1)

pub ruleset made = (refused_same, left_memory)

-- The step of the place was made, which is the one that the bytes are.

pub made_step_at :
    (old new : Session) (skipped arguments : List ℕ) (place : Place) (step : ScriptStep) → skipped ≡ old.skipped.items → IsStepAt skipped place arguments step → IsMade old new (StepCall step) →
    IsSameKnown old new → MadeAt old new place arguments
made_step_at old new skipped arguments place step e s m k = (step, subst (λ (numbers : List ℕ). IsStepAt numbers place arguments step) e s, m, k)

made_packed_at : (old new : Session) (bytes arguments : List ℕ) (place : Place) → IsPlaceFront bytes place arguments → MadeAt old new place arguments → GavePacked old new bytes
made_packed_at old new bytes arguments place p made =
    let step : ScriptStep = made.0 in
    let name : Bor (List ℕ) = record { ref_ptr = (0, 0); now = step_name step } in
    let s : IsStepAt old.skipped.items place arguments step = made.1 in
    (Step (next_number old) name, (refl, step, (refl, (arguments, call_in_front bytes arguments (step_name step) place p.0 p.1 p.2 s.0, s.1), made.2, made.3)))

pub made_packed_step :
    (old new : Session) (bytes arguments : List ℕ) (place at : Place) → IsPlaceFront bytes place arguments → place ≡ at → MadeAt old new at arguments → GavePacked old new bytes
made_packed_step old new bytes arguments place at p e made = made_packed_at old new bytes arguments at (subst (λ (at : Place). IsPlaceFront bytes at arguments) e p) made

pub same_whole : (old new : Session) → IsSameFile old new → IsSameKnown old new → IsSame old new
same_whole old new f k = (f, k)

pub left_whole : (old new : Session) → IsFileLeft old new Memory → IsSameKnown old new → IsLeft old new Memory
left_whole old new f k = (f, k)

pub same_itself : (session : Session) → IsSame session session
same_itself session = ((refl, refl), (refl, refl))

pub ruleset places = (made_step_at, same_whole, left_whole, same_itself)

pub ruleset calls = (made_packed_step, same_itself)

-- The call at the front.

pub gave_front_of : (old new : Session) (bytes call behind : List ℕ) → IsCallSplit bytes call behind → GavePacked old new call → GaveFront old new bytes behind
gave_front_of old new bytes call behind s g = (g.0, (call, s, g.1))

pub ruleset fronts = (gave_front_of, same_itself)

-- What a session does that is the same as one before it, that one did.

action_before : (a b : Session) (action : Action) (bytes : List ℕ) → b.skipped.items ≡ a.skipped.items → IsPackedAction b action bytes → IsPackedAction a action bytes
action_before a b action bytes s h = (h.0, h.1, subst (λ (skipped : List ℕ). ArePacked skipped (action_words action).1 h.0) s h.2)

calls_before : (a b c : Session) (call : Call) (result : Result Answer StepFault) → IsSameFile a b → Calls b.file c.file b.answers.items result call → Calls a.file c.file a.answers.items result call
calls_before a b c call result f h =
    subst (λ (file : Bench). Calls file c.file a.answers.items result call) f.0 (subst (λ (answers : List Answer). Calls b.file c.file answers result call) f.1 h)

asks_before : (a b : Session) (question : Question) (result : Result Value StepFault) → IsSameFile a b → Asks b.file b.answers.items result question → Asks a.file a.answers.items result question
asks_before a b question result f h =
    subst (λ (file : Bench). Asks file a.answers.items result question) f.0 (subst (λ (answers : List Answer). Asks b.file answers result question) f.1 h)

known_before : (a b c : Session) → IsSameKnown a b → IsSameKnown b c → IsSameKnown a c
known_before a b c k h = (h.0 ∙ k.0, h.1 ∙ k.1)

file_before : (a b c : Session) → IsSameFile a b → IsSameFile b c → IsSameFile a c
file_before a b c f h = (h.0 ∙ f.0, h.1 ∙ f.1)

makes_before : (a b c : Session) (call : Call) (name bytes : List ℕ) → IsSame a b → MakesPacked b c call name bytes → MakesPacked a c call name bytes
makes_before a b c call name bytes e h = (
  h.0,
  action_before a b (CallAction call) bytes e.1.1 h.1,
  (h.2.0, calls_before a b c call (Ok h.2.0) e.0 h.2.1, h.2.2 ∙ ap (λ (xs : List Answer). xs ++ h.2.0 ∷ []) e.0.1),
  known_before a b c e.1 h.3,
)

answers_before : (a b c : Session) (question : Question) (answer : Result Value StepFault) (name bytes : List ℕ) → IsSame a b → AnswersPacked b c question answer name bytes → AnswersPacked a c question answer name bytes
answers_before a b c question answer name bytes e h =
    (h.0, action_before a b (Ask question) bytes e.1.1 h.1, asks_before a b question answer e.0 h.2, (file_before a b c e.0 h.3.0, known_before a b c e.1 h.3.1))

gives_before : (a b c : Session) (bytes : List ℕ) (given : LineResult) → IsSame a b → GivesPacked b c bytes given → GivesPacked a c bytes given
gives_before a b c bytes Nothing e h = absurd h
gives_before a b c bytes (Step number name) e h = (h.0 ∙ next-same a b e.0.1 e.1.1, h.1, makes_before a b c (StepCall h.1) name.now bytes e h.2)
gives_before a b c bytes (Helper number name) e h = (h.0 ∙ next-same a b e.0.1 e.1.1, h.1, makes_before a b c (HelperCall h.1) name.now bytes e h.2)
gives_before a b c bytes (Answered name value) e h = (h.0, answers_before a b c h.0 (Ok value) name.now bytes e h.1)

pub gave_before : (a b c : Session) (bytes behind : List ℕ) → IsSame a b → GaveFront b c bytes behind → GaveFront a c bytes behind
gave_before a b c bytes behind e h = (h.0, (h.1.0, h.1.1, gives_before a b c h.1.0 h.0 e h.1.2))

number_before : (a b : Session) (action : Action) → IsSame a b → action_number b action ≡ action_number a action
number_before a b (Ask question) e = refl
number_before a b (CallAction call) e = ap (λ (n : ℕ). Some n) (next-same a b e.0.1 e.1.1)

fails_before : (a b c : Session) (action : Action) (cause : StepFault) → IsSame a b → FailsBy b c action cause → FailsBy a c action cause
fails_before a b c (Ask question) cause e h = asks_before a b question (Err cause) e.0 h
fails_before a b c (CallAction call) cause e h = calls_before a b c call (Err cause) e.0 h

fault_before : (a b c : Session) (bytes : List ℕ) (fault : LineFault) → IsSame a b → IsPackedFault b c bytes fault → IsPackedFault a c bytes fault
fault_before a b c bytes fault e h =
    (h.0, action_before a b h.0 bytes e.1.1 h.1, h.2, h.3 ∙ number_before a b h.0 e, h.4, h.5, fails_before a b c h.0 h.4 e h.6)

either_before : (a b c : Session) (bytes : List ℕ) (fault : LineFault) → IsSame a b → IsMispacked bytes fault ⊎ IsPackedFault b c bytes fault → IsMispacked bytes fault ⊎ IsPackedFault a c bytes fault
either_before a b c bytes fault e (inl h) = inl h
either_before a b c bytes fault e (inr h) = inr (fault_before a b c bytes fault e h)

told_packed_before : (a b c : Session) (number : ℕ) (bytes : List ℕ) (fault : Fault) → IsSame a b → IsToldOfPacked b c number bytes fault → IsToldOfPacked a c number bytes fault
told_packed_before a b c number bytes (Line f) e h = (h.0, either_before a b c bytes f e h.1)
told_packed_before a b c number bytes Memory e h = tt

pub told_before : (a b c : Session) (number : ℕ) (bytes : List ℕ) (fault : Fault) → IsSame a b → IsToldOfFront b c number bytes fault → IsToldOfFront a c number bytes fault
told_before a b c number bytes fault e (inl h) = inl (h.0, h.1, h.2, told_packed_before a b c number h.0 fault e h.3)
told_before a b c number bytes fault e (inr h) = inr (told_packed_before a b c number [] fault e h)

pub same_before : (a b c : Session) → IsSame a b → IsSame b c → IsSame a c
same_before a b c e h = (file_before a b c e.0 h.0, known_before a b c e.1 h.1)

pub tree_before : (a b c : Session) → IsSameFile a b → IsFileLeft b c Memory → IsFileLeft a c Memory
tree_before a b c f h = (h.0 ∙ ap tree f.0, h.1 ∙ f.1)
