-- What lists of steps keep.
use Rattle.std.proofs.Common.{List, [], ◌∷◌}
use Rattle.std.specs.List.{fold}
use Rattle.vast_core.specs.Bench.{Bench}
use Rattle.vast_script.specs.declared.answer.Answer.{Answer}
use Rattle.vast_steps.specs.declared.step.Step.{Step}
use Rattle.vast_steps.specs.declared.step.Step.TheVariants.{Operators, Expressions, Types, Modules, Loops, Statements, Artifacts}
use Rattle.vast_script.specs.Outcome.{Outcome, Made, AtFault}
use Rattle.vast_steps.specs.Operators.{operation}
use Rattle.vast_script.specs.Script.{call_of, Run, Going, Stopped, gone_on, one_more, left_by}
use Rattle.xlsynth_vast.specs.Keeps.{Keeps}
use Rattle.vast_script.specs.Laws.{StepsKeepTheFile}
use Rattle.xlsynth_vast.proofs.Kept.{keeps-same, keeps-then}
use Rattle.vast_script.proofs.KeptOutcomes.{OutcomeKeeps, CallKeeps}
use Rattle.vast_script.proofs.KeptOperators.{operation-keeps}
use Rattle.vast_script.proofs.KeptExpressions.{expression-keeps}
use Rattle.vast_script.proofs.KeptTypes.{type-keeps}
use Rattle.vast_script.proofs.KeptModules.{module-keeps}
use Rattle.vast_script.proofs.KeptLoops.{loop-keeps}
use Rattle.vast_script.proofs.KeptStatements.{statement-keeps}
use Rattle.vast_script.proofs.KeptArtifacts.{artifact-keeps}

step-keeps : (step : Step) → CallKeeps (call_of step)
step-keeps (Operators step) = operation-keeps (operation step)
step-keeps (Expressions step) = expression-keeps step
step-keeps (Types step) = type-keeps step
step-keeps (Modules step) = module-keeps step
step-keeps (Loops step) = loop-keeps step
step-keeps (Statements step) = statement-keeps step
step-keeps (Artifacts step) = artifact-keeps step

outcome-left : (b : Bench) (answers : List Answer) (o : Outcome) → OutcomeKeeps b o → Keeps b (left_by (gone_on answers b o))
outcome-left b answers (Made answer after) h = h
outcome-left b answers (AtFault cause) h = keeps-same b

more-keeps : (r : Run) (step : Step) → Keeps (left_by r) (left_by (one_more r step))
unfolding one_more
more-keeps (Going answers b) step = outcome-left b answers (call_of step b answers) (step-keeps step b answers)
more-keeps (Stopped i cause b) step = keeps-same b

run-keeps : (r : Run) (steps : List Step) → Keeps (left_by r) (left_by (fold one_more r steps))
run-keeps r [] = keeps-same (left_by r)
run-keeps r (step ∷ steps) = keeps-then (left_by r) (left_by (one_more r step)) _ (more-keeps r step) (run-keeps (one_more r step) steps)

pub steps_keep : StepsKeepTheFile
steps_keep b steps = run-keeps (Going [] b) steps
