use Rattle.std.proofs.Common.{◌≡◌, ◌++◌, ◌∷◌, [], ◌+◌, length, rules}
use Rattle.vast_names.proofs.Cut.{AreEnds-push, cut-push}
use Rattle.vast_names.proofs.texts.Texts.push.Goals as goal

pub returns-clause-cut : goal.returns-clause-cut
returns-clause-cut c =
    let t = c.args.self.now in
    let bytes : c.extend_from_slice.new.self.items ≡ t.bytes.items ++ c.args.text.now = search rules in
    let ends : c.push.new.self.items ≡ t.ends.items ++ c.args.end ∷ [] = search rules in
    let end : c.args.end ≡ length t.bytes.items + length c.args.text.now = search rules in
    rw (bytes, ends, end) (AreEnds-push 0 t.ends.items t.bytes.items c.args.text.now c.requires.cut)

pub returns-clause-texts : goal.returns-clause-texts
returns-clause-texts c =
    let t = c.args.self.now in
    let bytes : c.extend_from_slice.new.self.items ≡ t.bytes.items ++ c.args.text.now = search rules in
    let ends : c.push.new.self.items ≡ t.ends.items ++ c.args.end ∷ [] = search rules in
    let end : c.args.end ≡ length t.bytes.items + length c.args.text.now = search rules in
    rw (bytes, ends, end) (cut-push 0 t.ends.items t.bytes.items c.args.text.now c.requires.cut)
