use Rattle.std.proofs.Common.{◌≢◌, ℕ, List, All, None, rules}
use Rattle.vast_names.proofs.Meanings.{value-set, value-nothing}
use Rattle.vast_names.proofs.map.NameMap.remove.Goals as goal

pub returns-in-Some : goal.returns-in-Some
returns-in-Some g c =
    rw (← c.self.view_is)
    (value-set c.self.inside.names c.self.inside.values.items c.in-Some.place c.args.name.now None c.self.invariant.distinct c.self.invariant.each c.in-Some.ensures)

pub returns-in_default : goal.returns-in_default
returns-in_default g c =
    let absent : All (λ (taken : List ℕ). taken ≢ c.args.name.now) c.self.inside.names = search rules in
    rw (← c.self.view_is) (value-nothing c.self.inside.names c.self.inside.values.items c.args.name.now absent)
