use Rattle.std.proofs.Common.{◌<◌, length, rules, refl}
use Rattle.vast_core.specs.Nests.{nest_record}
use Rattle.vast_core.specs.Containers.{with_unique}
use Rattle.vast_core.specs.Internal.Containers.{AsUnique, no_fresh}
use Rattle.vast_core.specs.View.{bench}
use Rattle.vast_core.proofs.Lists.{changed-map}
use Rattle.vast_core.proofs.Readers.{length-nests}
use Rattle.vast_core.proofs.Enters.{case-place, nothing-comes}
use Rattle.vast_core.proofs.Admitted.{bench-grown, sound-grown, admitted-unique}
use Rattle.vast_core.proofs.ast.Ast.case_set_unique.Goals as goal

pub index_mut-target-requires : goal.index_mut-target-requires
index_mut-target-requires c =
    let below : c.args.c.id.index < length c.self.inside.nests.items = rw (length-nests c.args.self.now _ c.self.view_is) at (case-place (bench c.args.self.now) c.args.c c.requires)
    in search rules

pub invariant_of-self : goal.invariant_of-self
invariant_of-self c =
    let there = case-place (bench c.args.self.now) c.args.c c.requires in
    let below : c.args.c.id.index < length c.self.inside.nests.items = rw (length-nests c.args.self.now _ c.self.view_is) at there in
    sound-grown c.args.self.now _ _ (AsUnique c.args.c.id.index c.args.unique) no_fresh c.self.view_is
    (admitted-unique _ c.args.c.id.index c.args.unique _ _ below
    (changed-map nest_record (with_unique c.args.unique) c.self.inside.nests.items c.args.c.id.index c.index_mut-target.result.now c.set_unique.new.self below c.index_mut-target.ensures.value c.set_unique.ensures))
    c.self.invariant (record { fresh = nothing-comes _ _; listing = there; placed = refl })

pub returns : goal.returns
returns c =
    let below : c.args.c.id.index < length c.self.inside.nests.items = rw (length-nests c.args.self.now _ c.self.view_is) at (case-place (bench c.args.self.now) c.args.c c.requires) in
    bench-grown c.args.self.now _ _ (AsUnique c.args.c.id.index c.args.unique) no_fresh c.self.view_is
    (admitted-unique _ c.args.c.id.index c.args.unique _ _ below
    (changed-map nest_record (with_unique c.args.unique) c.self.inside.nests.items c.args.c.id.index c.index_mut-target.result.now c.set_unique.new.self below c.index_mut-target.ensures.value c.set_unique.ensures))
