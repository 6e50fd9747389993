use Rattle.std.proofs.Common.{false, rules}
use Rattle.vast_list.specs.Built.{IsListText}
use Rattle.vast_calls.specs.Lines.{line_texts}
use Rattle.vast_list.specs.PackedLists.{IsPackedText}
use Rattle.vast_list.proofs.pack.pack_list.Goals as goal

pub returns-in-Ok-clause-twin : goal.returns-in-Ok-clause-twin
returns-in-Ok-clause-twin c =
    let text = c.in-Some.text.items in
    let listed : IsListText false (line_texts c.args.list.now.lines.items) text = search rules in
    let packed : IsPackedText c.in-Ok.bytes.items text = c.in-Ok.ensures in
    rw c.packed_bytes.ensures (text, listed, packed)
