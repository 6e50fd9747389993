use Rattle.std.proofs.Common.{◌≡◌, ◌<◌, get_or, length, arith}
use Rattle.std.proofs.lemmas.List.{get_or_read}
use Rattle.vast_names.proofs.Cut.{length-cut, start-below}
use Rattle.vast_names.proofs.texts.Texts.get.Goals as goal

pub slice_bounds-result-count : goal.slice_bounds-result-count
slice_bounds-result-count c =
    let t = c.args.self.now in
    let within : c.args.index < length t.ends.items = omega (arith, length-cut 0 t.ends.items t.bytes.items) in
    let end : c.index.result.now ≡ get_or t.ends.items c.args.index 0 = get_or_read t.ends.items c.args.index c.index.result.now within c.index.ensures 0 in
    omega (arith, start-below 0 t.ends.items t.bytes.items c.args.index c.requires.cut within, c.start-start.ensures, end)
