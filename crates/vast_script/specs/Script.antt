-- What becomes of a list of steps.
use Rattle.std.specs.Prelude.{◌≡◌, ℕ, List, [], ◌∷◌, ◌++◌, length, take, Vec, Result, Ok, Err, string_bytes}
use Rattle.std.specs.List.{fold}
use Rattle.vast_core.specs.Bench.{Bench}
use Rattle.std.specs.declared.alloc.Global.{Global}
use Rattle.vast_script.specs.declared.answer.Answer.{Answer}
use Rattle.vast_script.specs.declared.fault.ScriptFault.{ScriptFault}
use Rattle.vast_script.specs.declared.fault.ScriptFault.TheVariants.{NoAnswer, WrongKind, Condition, Refused, Memory}
use Rattle.vast_steps.specs.declared.step.Step.{Step}
use Rattle.vast_steps.specs.declared.step.Step.TheVariants.{Operators, Expressions, Types, Modules, Loops, Statements, Artifacts}
use Rattle.vast_script.specs.Outcome.{Call, Cause, Missing, OtherKind, NotMet, InWords, Outcome, Made, AtFault}
use Rattle.vast_script.specs.Operators.{operation_call}
use Rattle.vast_steps.specs.Operators.{operation}
use Rattle.vast_script.specs.Expressions.{expression_call}
use Rattle.vast_script.specs.Types.{type_call}
use Rattle.vast_script.specs.Modules.{module_call}
use Rattle.vast_script.specs.Loops.{loop_call}
use Rattle.vast_script.specs.Statements.{statement_call}
use Rattle.vast_script.specs.Artifacts.{artifact_call}

-- The call that a step is.
abbrev pub call_of : Step → Call
call_of (Operators step) = operation_call (operation step)
call_of (Expressions step) = expression_call step
call_of (Types step) = type_call step
call_of (Modules step) = module_call step
call_of (Loops step) = loop_call step
call_of (Statements step) = statement_call step
call_of (Artifacts step) = artifact_call step

-- A run of steps: all so far were made, with these answers; or the step of this number was the first at fault. Either
-- way it has left this bench.
pub data Run : Type 0 where
  Going : List Answer → Bench → Run
  Stopped : ℕ → Cause → Bench → Run

abbrev pub gone_on : List Answer → Bench → Outcome → Run
gone_on answers b (Made answer after) = Going (answers ++ answer ∷ []) after
gone_on answers b (AtFault cause) = Stopped (length answers) cause b

-- One call more; after a fault none is made.
abbrev pub one_call : Run → Call → Run
one_call (Going answers b) call = gone_on answers b (call b answers)
one_call (Stopped i cause b) call = Stopped i cause b

unfoldable pub one_more : Run → Step → Run
one_more r step = one_call r (call_of step)

-- All steps, one after another.
abbrev pub run : Bench → List Step → Run
run b steps = fold one_more (Going [] b) steps

abbrev pub left_by : Run → Bench
left_by (Going answers b) = b
left_by (Stopped i cause b) = b

-- What the calls build.
abbrev pub called : Bench → List Call → Bench
called b calls = left_by (fold one_call (Going [] b) calls)

-- What the steps build.
abbrev pub built : Bench → List Step → Bench
built b steps = left_by (run b steps)

-- The step of this number is the first at fault, for this cause, and the steps before it have built what there is.
pub record StopsAt (old new : Bench) (steps : List Step) (i : ℕ) (cause : Cause) : Type 0 where
  pub stopped : run old steps ≡ Stopped i cause new
  pub left : built old (take i steps) ≡ new

-- Some of the first steps were made, and no more.
pub record MadeSome (old new : Bench) (steps : List Step) : Type 0 where
  pub count : ℕ
  pub answers : List Answer
  pub made : run old (take count steps) ≡ Going answers new

-- All steps are made, and these are their answers; or the first at fault is named; or memory was refused.
abbrev pub Replayed : (old new : Bench) → List Step → Result (Vec Answer Global) ScriptFault → Type 0
Replayed old new steps (Ok answers) = run old steps ≡ Going answers.items new
Replayed old new steps (Err (NoAnswer i)) = StopsAt old new steps i Missing
Replayed old new steps (Err (WrongKind i)) = StopsAt old new steps i OtherKind
Replayed old new steps (Err (Condition i)) = StopsAt old new steps i NotMet
Replayed old new steps (Err (Refused i e)) = StopsAt old new steps i (InWords (string_bytes e.0))
Replayed old new steps (Err Memory) = MadeSome old new steps
