use Rattle.std.proofs.Common.{drop}
use Rattle.vast_core.specs.Bench.{trees_of}
use Rattle.vast_core.specs.View.{bench}
use Rattle.vast_print.specs.Members.{events_text}
use Rattle.vast_print.proofs.SeparatedLaws.{rest_events}
use Rattle.vast_print.proofs.Left.{TextLeft}
use Rattle.vast_print.proofs.always.print_events.Given as goal

abbrev pub invariant-loop-i : goal.invariant-loop-i
invariant-loop-i l = TextLeft l.fn.out l.out (events_text (trees_of (bench l.ast) l.events)) (rest_events l.i (trees_of (bench l.ast) (drop l.i l.events)))
