use Rattle.std.proofs.Common.{◌≡◌, ◌+◌, ◌<◌, ◌∷◌, ◌++◌, [], length, get_or, rules}
use Rattle.std.proofs.lemmas.List.{get_or_read}
use Rattle.std.specs.BTreeMap.{get_by_text}
use Rattle.vast_names.proofs.Filing.{filed-chain}
use Rattle.vast_names.proofs.index.Index.file_in_chain.Goals as goal

pub returns-clause-ok : goal.returns-clause-ok
returns-clause-ok c = λ name own names filed.
    let index = c.args.self.now in
    let slot = c.args.slot in
    let within : slot < length index.heads.items = c.requires.slot in
    let head : c.index.result.now ≡ get_or index.heads.items slot 0 = get_or_read index.heads.items slot c.index.result.now within c.index.ensures 0 in
    let pushed : c.push.new.self.items ≡ index.links.items ++ c.index.result.now ∷ [] = search rules in
    let newest : c.len.result ≡ length index.links.items + 1 = search rules in
    rw (pushed, head, newest)
    (filed-chain names index.heads.items index.links.items (get_by_text index.crowded) name slot own within filed)
