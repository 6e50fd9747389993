use Rattle.std.proofs.Common.{◌<◌, length, rules}
use Rattle.vast_core.specs.Sound.{ConnectionSound}
use Rattle.vast_core.specs.View.{bench}
use Rattle.vast_core.proofs.Lists.{All-own}
use Rattle.vast_core.proofs.Readers.{instance-arena, arena-below, arena-read}
use Rattle.vast_core.proofs.ast.Ast.instance.Goals as goal

pub index-requires : goal.index-requires
index-requires c =
    let below : c.args.i.id.index < length c.self.inside.instances.items = arena-below instance-arena c.args.self.now _ c.args.i.id.index c.self.view_is c.requires.of_kind
    in search rules

pub returns-clause-there : goal.returns-clause-there
returns-clause-there c = (arena-read instance-arena c.args.self.now _ c.args.i.id.index _ c.self.view_is c.self.invariant (arena-below instance-arena c.args.self.now _ c.args.i.id.index c.self.view_is c.requires.of_kind) c.index.ensures).there

pub returns-clause-parameters : goal.returns-clause-parameters
returns-clause-parameters c = All-own (ConnectionSound (bench c.args.self.now)) c.index.result.now.parameters.items (arena-read instance-arena c.args.self.now _ c.args.i.id.index _ c.self.view_is c.self.invariant (arena-below instance-arena c.args.self.now _ c.args.i.id.index c.self.view_is c.requires.of_kind) c.index.ensures).sound.parameters

pub returns-clause-connections : goal.returns-clause-connections
returns-clause-connections c = All-own (ConnectionSound (bench c.args.self.now)) c.index.result.now.connections.items (arena-read instance-arena c.args.self.now _ c.args.i.id.index _ c.self.view_is c.self.invariant (arena-below instance-arena c.args.self.now _ c.args.i.id.index c.self.view_is c.requires.of_kind) c.index.ensures).sound.connections
