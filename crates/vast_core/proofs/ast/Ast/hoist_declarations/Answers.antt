use Rattle.std.proofs.Common.{◌<◌, [], length, rules, refl, sym}
use Rattle.std.proofs.lemmas.List.{append-nil}
use Rattle.vast_core.specs.Records.{module_record}
use Rattle.vast_core.specs.Hoisting.{with_members_hoisted}
use Rattle.vast_core.specs.Internal.Containers.{Hoists, InModule, no_fresh}
use Rattle.vast_core.proofs.Lists.{changed-map, unchanged-map}
use Rattle.vast_core.proofs.Readers.{module-arena, arena-below, arena-read}
use Rattle.vast_core.proofs.Terms.{refused}
use Rattle.vast_core.proofs.Enters.{nothing-comes}
use Rattle.vast_core.proofs.Admitted.{bench-still, sound-still, bench-grown, sound-grown, admitted-change}
use Rattle.vast_core.proofs.Hoisting.{start-within}
use Rattle.vast_core.proofs.ast.Ast.hoist_declarations.Goals as goal

pub index_mut-target-requires : goal.index_mut-target-requires
index_mut-target-requires c =
    let below : c.args.owner.id.index < length c.self.inside.modules.items = arena-below module-arena c.args.self.now _ c.args.owner.id.index c.self.view_is c.requires.owner.of_kind
    in search rules

pub hoist-requires : goal.hoist-requires
hoist-requires c =
    let below : c.args.owner.id.index < length c.self.inside.modules.items = arena-below module-arena c.args.self.now _ c.args.owner.id.index c.self.view_is c.requires.owner.of_kind in
    let there = (arena-read module-arena c.args.self.now _ c.args.owner.id.index c.index_mut-target.result.now c.self.view_is c.self.invariant below c.index_mut-target.ensures.value).there in
    start-within c.args.start _ (module_record c.index_mut-target.result.now) c.index_mut-target.result.now.members.items there refl c.requires.start

pub invariant_of-self : goal.invariant_of-self
invariant_of-self c =
    let below : c.args.owner.id.index < length c.self.inside.modules.items = arena-below module-arena c.args.self.now _ c.args.owner.id.index c.self.view_is c.requires.owner.of_kind in
    sound-still c.args.self.now _ _ _ _ _ _ _ _ _ _ _ _ c.self.view_is refl refl refl
    (unchanged-map module_record c.self.inside.modules.items c.args.owner.id.index c.index_mut-target.result.now c.hoist.new.self below c.index_mut-target.ensures.value c.in_err-hoist.ensures.err) refl refl
    c.self.invariant

pub returns-in_err-hoist : goal.returns-in_err-hoist
returns-in_err-hoist c =
    let below : c.args.owner.id.index < length c.self.inside.modules.items = arena-below module-arena c.args.self.now _ c.args.owner.id.index c.self.view_is c.requires.owner.of_kind in
    refused _ _ c.from_residual.result _ _ c.from_residual.ensures.0
    (bench-still c.args.self.now _ _ _ _ _ _ _ _ _ _ _ _ c.self.view_is refl refl refl
    (unchanged-map module_record c.self.inside.modules.items c.args.owner.id.index c.index_mut-target.result.now c.hoist.new.self below c.index_mut-target.ensures.value c.in_err-hoist.ensures.err) refl refl)

pub invariant_of-self-2 : goal.invariant_of-self-2
invariant_of-self-2 c =
    let below : c.args.owner.id.index < length c.self.inside.modules.items = arena-below module-arena c.args.self.now _ c.args.owner.id.index c.self.view_is c.requires.owner.of_kind in
    sound-grown c.args.self.now _ _ (InModule c.args.owner (Hoists c.args.start)) no_fresh c.self.view_is
    (admitted-change _ c.args.owner (Hoists c.args.start) [] _ _ _ _ below (sym (append-nil _))
    (changed-map module_record (with_members_hoisted c.args.start) c.self.inside.modules.items c.args.owner.id.index c.index_mut-target.result.now c.hoist.new.self below c.index_mut-target.ensures.value c.in_ok-hoist.ensures.ok))
    c.self.invariant (record { fresh = nothing-comes _ _; listing = (c.requires.owner, tt); placed = refl })

pub returns : goal.returns
returns c =
    let below : c.args.owner.id.index < length c.self.inside.modules.items = arena-below module-arena c.args.self.now _ c.args.owner.id.index c.self.view_is c.requires.owner.of_kind in (
      refl,
      bench-grown c.args.self.now _ _ (InModule c.args.owner (Hoists c.args.start)) no_fresh c.self.view_is
          (admitted-change _ c.args.owner (Hoists c.args.start) [] _ _ _ _ below (sym (append-nil _))
          (changed-map module_record (with_members_hoisted c.args.start) c.self.inside.modules.items c.args.owner.id.index c.index_mut-target.result.now c.hoist.new.self below c.index_mut-target.ensures.value c.in_ok-hoist.ensures.ok)),
    )
