use Rattle.std.proofs.Common.{◌≡◌, drop}
use Rattle.vast_literal.specs.PlainFile.{are_plain_events}
use Rattle.vast_core.specs.Bench.{trees_of}
use Rattle.vast_core.specs.View.{bench}
use Rattle.vast_plain.proofs.parts.are_plain_events.Given as goal

abbrev pub invariant-loop-event : goal.invariant-loop-event
invariant-loop-event l =
    are_plain_events (trees_of (bench l.ast) l.events) ≡ are_plain_events (trees_of (bench l.ast) (drop l.event-index l.events))
