-- Hoisting again changes nothing.
use Rattle.std.proofs.Common.{◌≡◌, ℕ, zero, suc, List, [], ◌∷◌, refl, ap}
use Rattle.vast_core.specs.Records.{ModuleRecord, changed_at}
use Rattle.vast_core.specs.declared.node.Member.{Member}
use Rattle.vast_core.specs.Hoisting.{with_members_hoisted}
use Rattle.vast_core.proofs.Hoisting.{hoisted-twice}
use Rattle.xlsynth_vast.specs.Laws.{HoistingAgain}

module-twice : (start : ℕ) (m : ModuleRecord) → with_members_hoisted start (with_members_hoisted start m) ≡ with_members_hoisted start m
module-twice start m = ap (λ (members : List Member). record m { members = members }) (hoisted-twice start m.members)

changed-twice : {A : Type 0} (f : A → A) → ((x : A) → f (f x) ≡ f x) → (i : ℕ) (xs : List A) → changed_at i f (changed_at i f xs) ≡ changed_at i f xs
changed-twice f h i [] = refl
changed-twice f h zero (x ∷ xs) = ap (λ y. y ∷ xs) (h x)
changed-twice f h (suc i) (x ∷ xs) = ap (λ r. x ∷ r) (changed-twice f h i xs)

pub hoisting-again : HoistingAgain
hoisting-again owner start b =
    ap (λ (modules : List ModuleRecord). record b { modules = modules }) (changed-twice (with_members_hoisted start) (module-twice start) owner.id.index b.modules)
