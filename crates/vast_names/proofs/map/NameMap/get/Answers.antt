use Rattle.std.proofs.Common.{◌≡◌, ◌<◌, Some, None, length, slice_get, sym, ap, ◌∙◌, arith}
use Rattle.std.proofs.lemmas.List.{get_or_read}
use Rattle.std.proofs.lemmas.Option.{slice_get-get_or, slice_get_within}
use Rattle.vast_names.proofs.Meanings.{value-absent, value-at}
use Rattle.vast_names.proofs.map.NameMap.get.Goals as goal

pub returns-in-Some : goal.returns-in-Some
returns-in-Some g c =
    let names = c.self.inside.names in
    let values = c.self.inside.values.items in
    let place = c.in-Some.place in
    let within : place < length values = omega (arith, slice_get_within names place c.args.name.now c.in-Some.ensures, c.self.invariant.each) in
    let read : slice_get values place ≡ Some c.index.result.now = slice_get-get_or values place None within ∙ ap Some (sym (get_or_read values place c.index.result.now within c.index.ensures None)) in
    rw (← c.self.view_is) (sym (value-at names values place c.args.name.now c.index.result.now c.self.invariant.distinct c.in-Some.ensures read))

pub returns-in-None : goal.returns-in-None
returns-in-None g c = rw (← c.self.view_is) (sym (value-absent c.self.inside.names c.self.inside.values.items c.args.name.now c.in-None.ensures))
