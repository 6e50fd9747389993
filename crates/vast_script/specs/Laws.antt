-- Laws of lists of steps.
use Rattle.std.specs.Prelude.{List}
use Rattle.vast_core.specs.Bench.{Bench}
use Rattle.xlsynth_vast.specs.Keeps.{Keeps}
use Rattle.vast_steps.specs.declared.step.Step.{Step}
use Rattle.vast_script.specs.Script.{built}

-- Whatever steps are made, all of that is kept.
abbrev pub StepsKeepTheFile : Type 0
StepsKeepTheFile = (b : Bench) (steps : List Step) → Keeps b (built b steps)
