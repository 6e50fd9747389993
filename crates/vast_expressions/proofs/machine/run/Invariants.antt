use Rattle.std.proofs.Common.{[], ◌∷◌, map}
use Rattle.vast_expressions.specs.Internal.Items.{item_view}
use Rattle.vast_expressions.proofs.Midway.{Midway, work}
use Rattle.vast_expressions.proofs.machine.run.Given as goal

abbrev pub invariant-turns : goal.invariant-turns
invariant-turns g l = Midway g.S.Sink.hears (item_view l.fn.start ∷ []) (g.R.Source.left l.fn.source) l.fn.sink (item_view l.item ∷ map item_view l.stack) (g.R.Source.left l.source) l.sink

abbrev pub decreases-turns : goal.decreases-turns
decreases-turns g l = work (item_view l.item ∷ map item_view l.stack) (g.R.Source.left l.source)
