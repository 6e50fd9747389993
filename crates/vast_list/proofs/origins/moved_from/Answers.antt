use Rattle.std.proofs.Common.{sym, refl}
use Rattle.vast_list.proofs.origins.moved_from.Goals as goal

pub returns-then-eq : goal.returns-then-eq
returns-then-eq c = (c.loop-place.place, c.index-kept-place.result, c.loop-place-test.true, sym c.index-kept-place.is, refl)
