use Rattle.std.proofs.Common.{◌≡◌, ◌∷◌, ◌++◌, [], Some, length, rules, string_bytes}
use Rattle.std.proofs.lemmas.Map.Text.{btree_map_updates_text}
use Rattle.std.specs.BTreeMap.{get_by_text}
use Rattle.vast_names.proofs.Filing.{filed-tree, filed-same, on-err}
use Rattle.vast_names.proofs.index.Index.file_in_tree.Goals as goal

pub returns-in_err-insert-clause-err : goal.returns-in_err-insert-clause-err
returns-in_err-insert-clause-err c =
    let index = c.args.self.now in
    on-err c.from_residual-in_err-insert.result
    (λ names filed.
    rw c.reserve.ensures.items
    (filed-same names index.heads.items index.links.items index.crowded c.insert.new.self c.in_err-insert.ensures.err filed))

pub returns-clause-ok : goal.returns-clause-ok
returns-clause-ok c = λ names filed.
    let index = c.args.self.now in
    let links : c.push.new.self.items ≡ index.links.items ++ 0 ∷ [] = search rules in
    let key : string_bytes c.in_ok-key.key ≡ c.args.name.now = search rules in
    let at : c.len.result ≡ length index.links.items = search rules in
    rw links
    (filed-tree names index.heads.items index.links.items (get_by_text index.crowded) (get_by_text c.insert.new.self) c.args.name.now (λ other. rw (← key, ← at) (btree_map_updates_text (string_bytes c.in_ok-key.key) index.crowded c.insert.new.self (Some c.len.result) c.in_ok-insert.ensures.updates other)) filed)
