-- Hoisting: a module's declarations before its other members, from some member on.
use Rattle.std.specs.Prelude.{ℕ, Bool, true, false, not, List, [], ◌++◌, take, drop, Option, Some, None}
use Rattle.std.specs.List.{filter}
use Rattle.vast_core.specs.Handles.{VastModule}
use Rattle.vast_core.specs.Records.{ModuleRecord, Member, DeclarationEntry, changed_at}
use Rattle.vast_core.specs.Bench.{Bench}

-- A wire, a reg or a logic.
abbrev pub is_declaration : Member → Bool
is_declaration (DeclarationEntry kind name data_type) = true
is_declaration _ = false

-- The elements that pass the test, in their order, and then the others in theirs.
abbrev pub parted : {A : Type 0} → (A → Bool) → List A → List A
parted test xs = filter test xs ++ filter (λ x. not (test x)) xs

-- The first members stay; of the rest the declarations come first.
abbrev pub hoisted : ℕ → List Member → List Member
hoisted start members = take start members ++ parted is_declaration (drop start members)

abbrev pub members_of : Option ModuleRecord → List Member
members_of None = []
members_of (Some m) = m.members

abbrev pub with_members_hoisted : ℕ → ModuleRecord → ModuleRecord
with_members_hoisted start m = record m { members = hoisted start m.members }

-- The module's first members stay; of the rest the declarations come first.
abbrev pub with_hoisted : VastModule → ℕ → Bench → Bench
with_hoisted m start b = record b { modules = changed_at m.id.index (with_members_hoisted start) b.modules }
