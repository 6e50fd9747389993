use Rattle.std.proofs.Common.{◌≡◌, ◌++◌, ◌∷◌, [], rules, refl}
use Rattle.vast_core.specs.Records.{with_name, in_byte_order}
use Rattle.vast_core.proofs.Names.{entered-one}
use Rattle.vast_core.proofs.node.Module.enter_member.Goals as goal

pub returns-clause-ok : goal.returns-clause-ok
returns-clause-ok c =
    let names : in_byte_order c.enter.new.self ≡ with_name c.args.name.now (in_byte_order c.args.self.now.names) = rw c.in_ok-enter.ensures.ok (entered-one c.args.self.now.names c.args.name.now) in
    let members : c.push.new.self.items ≡ c.args.self.now.members.items ++ c.args.member ∷ [] = search rules in
    rw (names, members) refl
