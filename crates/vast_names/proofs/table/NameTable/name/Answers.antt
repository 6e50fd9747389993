use Rattle.std.proofs.Common.{length, ◌<◌, []}
use Rattle.std.specs.Str.{IsUtf8}
use Rattle.std.proofs.lemmas.List.Elements.{All-get_or}
use Rattle.vast_names.specs.Internal.Texts.{texts_of}
use Rattle.vast_names.proofs.table.NameTable.name.Goals as goal

-- each name is text
pub returns-in-Err : goal.returns-in-Err
returns-in-Err c =
    let t = c.self.inside.texts in
    let within : c.args.index < length (texts_of t) = rw c.self.view_is c.requires in
    let text : IsUtf8 c.get.result.now = rw c.get.ensures (All-get_or IsUtf8 (texts_of t) c.args.index [] within c.self.invariant.text) in
    absurd (c.in-Err.ensures.cases.0 text)
