-- How a run ends.
use Rattle.std.specs.Prelude.{ℕ}
use Rattle.vast_check.specs.declared.outcome.Outcome.{Outcome}
use Rattle.vast_check.specs.declared.outcome.Outcome.TheVariants.{Yes, No, Unread, Failed}
use Rattle.vast_check.specs.declared.program.Trouble.{Trouble}
use Rattle.vast_check.specs.declared.program.Trouble.TheVariants.{Write, Memory}

-- the program's status
abbrev pub status_of : Outcome → ℕ
status_of Yes = 0
status_of No = 1
status_of Unread = 2
status_of Failed = 2

-- how bad it is
abbrev pub badness : Outcome → ℕ
badness Yes = 0
badness No = 1
badness Unread = 2
badness Failed = 3

-- what becomes of a file or of a run that meets trouble
abbrev pub outcome_of : Trouble → Outcome
outcome_of Write = Failed
outcome_of Memory = Failed
outcome_of _ = Unread
