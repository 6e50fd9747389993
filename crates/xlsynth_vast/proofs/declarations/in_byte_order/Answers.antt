use Rattle.std.proofs.Common.{◌≡◌, ◌<◌, ℕ, List, [], Bor, length, get_or, rules}
use Rattle.std.proofs.lemmas.Option.{get_or_from_slice_get}
use Rattle.xlsynth_vast.proofs.Taken.{sorted-more}
use Rattle.xlsynth_vast.proofs.declarations.in_byte_order.Goals as goal

pub loop-index-preserved : goal.loop-index-preserved
loop-index-preserved c =
    let names = c.args.names.now in
    let i = c.loop-index.index in
    let within : i < length names = search rules in
    let at : get_or names i [] ≡ c.name.result.now = get_or_from_slice_get names i c.name.result.now [] c.name.ensures in
    sorted-more (λ (r : Bor (List ℕ)). r.now) c.loop-index.sorted.keys c.insert.new.self.keys c.name.result names i within at c.in_ok-insert.ensures.keys c.loop-index.invariant
