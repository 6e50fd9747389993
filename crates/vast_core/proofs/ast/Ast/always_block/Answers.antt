-- proofs/ast/Ast/always_block/Answers.antt
use Rattle.std.proofs.Common.{◌<◌, length, rules}
use Rattle.vast_core.specs.View.{bench}
use Rattle.vast_core.specs.Sound.{EventSound}
use Rattle.vast_core.proofs.Lists.{All-own}
use Rattle.vast_core.proofs.Readers.{always-arena, arena-below, arena-read}
use Rattle.vast_core.proofs.ast.Ast.always_block.Goals as goal

pub index-requires : goal.index-requires
index-requires c =
    let below : c.args.a.id.index < length c.self.inside.always_blocks.items = arena-below always-arena c.args.self.now _ c.args.a.id.index c.self.view_is c.requires.of_kind
    in search rules

pub returns-clause-there : goal.returns-clause-there
returns-clause-there c = (arena-read always-arena c.args.self.now _ c.args.a.id.index _ c.self.view_is c.self.invariant (arena-below always-arena c.args.self.now _ c.args.a.id.index c.self.view_is c.requires.of_kind) c.index.ensures).there

pub returns-clause-events : goal.returns-clause-events
returns-clause-events c = All-own (EventSound (bench c.args.self.now)) _ (arena-read always-arena c.args.self.now _ c.args.a.id.index _ c.self.view_is c.self.invariant (arena-below always-arena c.args.self.now _ c.args.a.id.index c.self.view_is c.requires.of_kind) c.index.ensures).sound.events

pub returns-clause-block : goal.returns-clause-block
returns-clause-block c = (arena-read always-arena c.args.self.now _ c.args.a.id.index _ c.self.view_is c.self.invariant (arena-below always-arena c.args.self.now _ c.args.a.id.index c.self.view_is c.requires.of_kind) c.index.ensures).sound.block
