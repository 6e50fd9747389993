-- How a run ends.
use Rattle.std.specs.Prelude.{ℕ}
use Rattle.vast_replay.specs.declared.outcome.Outcome.{Outcome}
use Rattle.vast_replay.specs.declared.outcome.Outcome.TheVariants.{Made, Warned, Told, Refused, NotInForm, Failed}

-- the program's status
abbrev pub status_of : Outcome → ℕ
status_of Made = 0
status_of Warned = 0
status_of Told = 3
status_of Refused = 1
status_of NotInForm = 2
status_of Failed = 1

-- how bad it is
abbrev pub badness : Outcome → ℕ
badness Made = 0
badness Warned = 1
badness Told = 2
badness Refused = 3
badness NotInForm = 4
badness Failed = 5
