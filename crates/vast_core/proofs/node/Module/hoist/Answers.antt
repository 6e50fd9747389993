use Rattle.std.proofs.Common.{◌≡◌, ◌++◌, rules, ap}
use Rattle.std.proofs.lemmas.List.Sorted.{answers_always}
use Rattle.std.proofs.lemmas.Result.{on_ok_weaker}
use Rattle.vast_core.specs.Records.{module_record}
use Rattle.vast_core.proofs.Parting.{other}
use Rattle.vast_core.proofs.Hoisting.{hoist-sorted}
use Rattle.vast_core.proofs.node.Module.hoist.Goals as goal
use Rattle.vast_core.specs.Hoisting.{is_declaration}

pub returns-clause-ok : goal.returns-clause-ok
returns-clause-ok c =
    let keys = answers_always _ _ _ (λ f a r next called. search rules) in
    let stable = c.sort_by_key-sorted.ensures.stable (other is_declaration) keys in
    let items : c.append.new.self.items ≡ c.split_off.new.self.items ++ c.sort_by_key-sorted.new.self.items = rw c.unwrap.ensures at c.append.ensures.items in
    let head = c.in_ok-suffix.ensures.items in
    let tail = c.in_ok-suffix.ensures.tail in
    on_ok_weaker c.sort_by_key-sorted.result
    (λ sorted. ap (λ ms. record (module_record c.args.self.now) { members = ms })
    (hoist-sorted c.args.start c.args.self.now.members.items c.append.new.self.items c.split_off.new.self.items c.in_ok-suffix.suffix.items c.sort_by_key-sorted.new.self.items items head tail (sorted (other is_declaration) keys) stable))
    c.sort_by_key-sorted.ensures.sorted
