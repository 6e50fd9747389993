use Rattle.std.proofs.Common.{◌<◌, [], length, rules}
use Rattle.std.proofs.lemmas.List.Elements.{All-get_or}
use Rattle.std.specs.Str.{IsUtf8}
use Rattle.vast_names.specs.Internal.Texts.{texts_of}
use Rattle.vast_names.proofs.index.Index.filed.Goals as goal

pub file-requires-clause-text : goal.file-requires-clause-text
file-requires-clause-text c =
    let texts = texts_of c.args.texts.now in
    let within : c.loop-i.i < length texts = search rules in
    rw c.get.ensures (All-get_or IsUtf8 texts c.loop-i.i [] within c.requires.text)
