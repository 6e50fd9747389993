use Rattle.std.proofs.Common.{◌≡◌, ◌++◌, ◌∷◌, [], rules, refl}
use Rattle.vast_core.specs.Records.{with_name, in_byte_order}
use Rattle.vast_core.proofs.Names.{entered-one}
use Rattle.vast_core.proofs.node.Function.enter_local.Goals as goal

pub returns-clause-ok : goal.returns-clause-ok
returns-clause-ok c =
    let names : in_byte_order c.enter.new.self ≡ with_name c.args.variable.name (in_byte_order c.args.self.now.names) = rw (c.in_ok-enter.ensures.ok, c.as_str.ensures) (entered-one c.args.self.now.names c.args.variable.name) in
    let variables : c.push.new.self.items ≡ c.args.self.now.locals.items ++ c.args.variable ∷ [] = search rules in
    rw (names, variables) refl
