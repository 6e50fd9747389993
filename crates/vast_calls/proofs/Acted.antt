-- What a call does, over its arguments in a line or in a packed call.
use Rattle.std.proofs.Common.{◌≡◌, ℕ, List, Option, Some, refl, ap, subst, sym, ◌∙◌}
use Rattle.std.specs.Prelude.{unwrap_or}
use Rattle.std.specs.Borrow.{Bor}
use Rattle.vast_calls.specs.declared.arguments.Arguments.{Arguments}
use Rattle.vast_calls.specs.declared.arguments.Known.{Known}
use Rattle.vast_calls.specs.declared.arguments.Rest.{Rest}
use Rattle.vast_calls.specs.declared.arguments.Rest.TheVariants.{Words, Packed}
use Rattle.vast_calls.specs.declared.line.Action.{Action}
use Rattle.vast_calls.specs.declared.line.Action.TheVariants.{Ask, Call as CallAction}
use Rattle.vast_steps.specs.declared.step.Step.{Step}
use Rattle.vast_calls.specs.declared.helpers.Helper.{Helper}
use Rattle.vast_calls.specs.declared.line.Call.TheVariants.{Step as StepCall, Helper as HelperCall}
use Rattle.vast_calls.specs.declared.questions.Question.{Question}
use Rattle.vast_calls.specs.declared.table.numbered.Place.{Place}
use Rattle.vast_calls.specs.declared.table.numbered.Place.TheVariants.{Question as QuestionPlace, Helper as HelperPlace}
use Rattle.vast_calls.specs.CallArguments.{Piece, helper_pieces, step_pieces}
use Rattle.vast_calls.specs.CallNames.{helper_name, step_name}
use Rattle.vast_calls.specs.CallNumbers.{helper_names, question_names, name_at}
use Rattle.vast_calls.specs.Lines.{Asked, Helped, Stepped, word_kind, left}
use Rattle.vast_calls.specs.Questions.{question_words}
use Rattle.vast_calls.specs.Packed.{ArePacked}
use Rattle.vast_calls.specs.Written.{meaning}
use Rattle.vast_calls.specs.Actions.{Acts, IsActionOf}
use Rattle.vast_calls.specs.Internal.Actions.{ActsAt}
use Rattle.vast_calls.specs.Internal.CallRows.{StandsAt}
use Rattle.vast_calls.specs.Internal.Written.{AreIn, AreLeft, is_packed, rest_left}
use Rattle.vast_calls.proofs.CallRows.{kind_at}

-- What the call of a place does.

pub asks_at :
    (P : List Piece → Type 0) (place : Place) (n : ℕ) (question : Question) → place ≡ QuestionPlace n → StandsAt question_names n (question_words question).0 → P (question_words question).1 →
    ActsAt P place (Ask question)
asks_at P place n question e s h =
    subst (λ (at : Place). ActsAt P at (Ask question)) (sym e) ((question_words question).0, s, (kind_at question_names Asked n (question_words question).0 refl s, refl, h))

pub helps_at :
    (P : List Piece → Type 0) (place : Place) (n : ℕ) (helper : Helper) → place ≡ HelperPlace n → StandsAt helper_names n (helper_name helper) → P (helper_pieces helper) →
    ActsAt P place (CallAction (HelperCall helper))
helps_at P place n helper e s h =
    subst (λ (at : Place). ActsAt P at (CallAction (HelperCall helper))) (sym e) (helper_name helper, s, (kind_at helper_names Helped n (helper_name helper) refl s, refl, h))

pub steps_at :
    (P : List Piece → Type 0) (place : Place) (step : Step) → name_at place ≡ Some (step_name step) → word_kind (step_name step) ≡ Stepped → P (step_pieces step) →
    ActsAt P place (CallAction (StepCall step))
steps_at P place step s k h = (step_name step, s, (k, refl, h))

pub ruleset at_places = (asks_at, helps_at, steps_at)

-- The call of this name does so.
acts_named : (P : List Piece → Type 0) (place : Place) (name : List ℕ) (action : Action) → name_at place ≡ Some name → ActsAt P place action → Acts P name action
acts_named P place name action e h = subst (λ (n : List ℕ). Acts P n action) (ap (λ (n : Option (List ℕ)). unwrap_or n name) (sym h.1 ∙ e)) h.2

acts_more : (P Q : List Piece → Type 0) (name : List ℕ) (action : Action) → ((ps : List Piece) → P ps → Q ps) → Acts P name action → Acts Q name action
acts_more P Q name (Ask question) f h = (h.0, h.1, f _ h.2)
acts_more P Q name (CallAction call) f h = (h.0, h.1, f _ h.2)

-- What is left over these.
pub left_over :
    (a : Arguments) (known : Known) (rest : Rest) (ps : List Piece) → a.known ≡ known → a.rest ≡ rest → AreLeft a ps →
    AreIn (is_packed rest) (meaning known.names.now) known.skipped.now ps (rest_left rest)
left_over a known rest ps k r h =
    subst (λ (q : Rest). AreIn (is_packed q) (meaning known.names.now) known.skipped.now ps (rest_left q)) r
    (subst (λ (n : Known). AreIn (is_packed a.rest) (meaning n.names.now) n.skipped.now ps (rest_left a.rest)) k h)

pub acts_in_line :
    (a : Arguments) (known : Known) (rest : Option (Bor (List ℕ))) (place : Place) (name : List ℕ) (action : Action) → name_at place ≡ Some name → ActsAt (AreLeft a) place action → a.known ≡ known →
    a.rest ≡ Words rest → IsActionOf (meaning known.names.now) known.skipped.now name (left rest) action
acts_in_line a known rest place name action e h k r =
    acts_more (AreLeft a) _ name action (λ ps p. left_over a known (Words rest) ps k r p) (acts_named (AreLeft a) place name action e h)

pub acts_packed :
    (a : Arguments) (known : Known) (bytes : Bor (List ℕ)) (place : Place) (name : List ℕ) (action : Action) → name_at place ≡ Some name → ActsAt (AreLeft a) place action → a.known ≡ known →
    a.rest ≡ Packed bytes → Acts (λ ps. ArePacked known.skipped.now ps bytes.now) name action
acts_packed a known bytes place name action e h k r =
    acts_more (AreLeft a) _ name action (λ ps p. left_over a known (Packed bytes) ps k r p) (acts_named (AreLeft a) place name action e h)

pub ruleset in_a_line = (acts_in_line)
