use Rattle.std.proofs.Common.{◌≡◌, ◌≢◌, ℕ, List, [], ◌∷◌, ◌++◌, Some, All, rules}
use Rattle.vast_names.proofs.Meanings.{value-set, value-push, map-push}
use Rattle.vast_names.proofs.map.NameMap.insert.Goals as goal

pub returns-in-Some-clause-ok : goal.returns-in-Some-clause-ok
returns-in-Some-clause-ok g c =
    rw (← c.self.view_is)
    (value-set c.self.inside.names c.self.inside.values.items c.in-Some.place c.args.name.now (Some c.args.value) c.self.invariant.distinct c.self.invariant.each c.in-Some.ensures)

pub invariant_of-self-2 : goal.invariant_of-self-2
invariant_of-self-2 g c =
    let names = c.self.inside.names in
    let values = c.self.inside.values.items in
    let absent : All (λ (taken : List ℕ). taken ≢ c.args.name.now) names = search rules in
    let entered : c.enter.new.self ≡ names ++ c.args.name.now ∷ [] = search rules in
    let pushed : c.push.new.self.items ≡ values ++ Some c.args.value ∷ [] = search rules in
    rw (entered, pushed) (map-push names values c.args.name.now (Some c.args.value) absent c.self.invariant)

pub returns-clause-ok : goal.returns-clause-ok
returns-clause-ok g c =
    let names = c.self.inside.names in
    let values = c.self.inside.values.items in
    let absent : All (λ (taken : List ℕ). taken ≢ c.args.name.now) names = search rules in
    let entered : c.enter.new.self ≡ names ++ c.args.name.now ∷ [] = search rules in
    let pushed : c.push.new.self.items ≡ values ++ Some c.args.value ∷ [] = search rules in
    rw (← c.self.view_is, entered, pushed) (value-push names values c.args.name.now (Some c.args.value) absent c.self.invariant.each)
