use Rattle.std.proofs.Common.{take, All}
use Rattle.vast_core.specs.Sound.{EventSound}
use Rattle.vast_core.specs.View.{bench}
use Rattle.vast_core.proofs.ast.Ast.first_wrong_event.Given as goal

-- Those that were passed are events.
abbrev pub invariant-loop-index : goal.invariant-loop-index
invariant-loop-index l = All (EventSound (bench l.self)) (take l.index l.events)
