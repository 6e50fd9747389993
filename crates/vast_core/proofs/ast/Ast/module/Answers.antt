use Rattle.std.proofs.Common.{◌<◌, length, rules}
use Rattle.vast_core.specs.Bench.{OwnsPort}
use Rattle.vast_core.specs.Sound.{MemberSound, ParameterPortSound}
use Rattle.vast_core.specs.View.{bench}
use Rattle.vast_core.proofs.Lists.{All-own}
use Rattle.vast_core.proofs.Readers.{module-arena, arena-below, arena-read}
use Rattle.vast_core.proofs.ast.Ast.module.Goals as goal

pub index-requires : goal.index-requires
index-requires c =
    let below : c.args.m.id.index < length c.self.inside.modules.items = arena-below module-arena c.args.self.now _ c.args.m.id.index c.self.view_is c.requires.of_kind
    in search rules

pub returns-clause-there : goal.returns-clause-there
returns-clause-there c = (arena-read module-arena c.args.self.now _ c.args.m.id.index _ c.self.view_is c.self.invariant (arena-below module-arena c.args.self.now _ c.args.m.id.index c.self.view_is c.requires.of_kind) c.index.ensures).there

pub returns-clause-ports : goal.returns-clause-ports
returns-clause-ports c = All-own (OwnsPort (bench c.args.self.now)) c.index.result.now.ports.items (arena-read module-arena c.args.self.now _ c.args.m.id.index _ c.self.view_is c.self.invariant (arena-below module-arena c.args.self.now _ c.args.m.id.index c.self.view_is c.requires.of_kind) c.index.ensures).sound.ports

pub returns-clause-members : goal.returns-clause-members
returns-clause-members c = All-own (MemberSound (bench c.args.self.now)) c.index.result.now.members.items (arena-read module-arena c.args.self.now _ c.args.m.id.index _ c.self.view_is c.self.invariant (arena-below module-arena c.args.self.now _ c.args.m.id.index c.self.view_is c.requires.of_kind) c.index.ensures).sound.members

pub returns-clause-parameters : goal.returns-clause-parameters
returns-clause-parameters c = All-own (ParameterPortSound (bench c.args.self.now)) c.index.result.now.parameters.items (arena-read module-arena c.args.self.now _ c.args.m.id.index _ c.self.view_is c.self.invariant (arena-below module-arena c.args.self.now _ c.args.m.id.index c.self.view_is c.requires.of_kind) c.index.ensures).sound.parameters
