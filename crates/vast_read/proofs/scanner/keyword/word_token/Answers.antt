use Rattle.std.proofs.Common.{◌≡◌, rules, tests}
use Rattle.vast_read.proofs.scanner.Keywords.{key_found, keyword_found, name_found}
use Rattle.vast_read.proofs.scanner.keyword.word_token.Goals as goal

pub returns-in-Some : goal.returns-in-Some
returns-in-Some c =
    let h = c.if-eq.ensures in
    let same : c.word_at.result.now ≡ c.args.word.now = search (tests, rules) in
    key_found c.place_of-place.result c.word_at.result.now c.args.word.now c.in-Some.key _ c.word_at.ensures same c.key_at.ensures (c.in-Some.is) c.place_of-place.ensures.within

pub returns-in-None : goal.returns-in-None
returns-in-None c =
    let h = c.if-eq.ensures in
    let same : c.word_at.result.now ≡ c.args.word.now = search (tests, rules) in
    keyword_found c.place_of-place.result c.word_at.result.now c.args.word.now _ c.word_at.ensures same c.key_at.ensures (c.in-None.is) c.place_of-place.ensures.within

pub returns-else-eq : goal.returns-else-eq
returns-else-eq c =
    let h = c.if-eq.ensures in
    let other : c.word_at.result.now ≡ c.args.word.now → ⊥ = search (tests, rules) in
    name_found c.place_of-place.result c.word_at.result.now c.args.word.now c.word_at.ensures c.place_of-place.ensures.place other
