use Rattle.std.proofs.Common.{◌<◌, length, rules}
use Rattle.vast_core.proofs.Readers.{definition-arena, arena-below, arena-read}
use Rattle.vast_core.proofs.ast.Ast.definition.Goals as goal

pub index-requires : goal.index-requires
index-requires c =
    let below : c.args.d.id.index < length c.self.inside.definitions.items = arena-below definition-arena c.args.self.now _ c.args.d.id.index c.self.view_is c.requires.of_kind
    in search rules

pub returns-clause-there : goal.returns-clause-there
returns-clause-there c = (arena-read definition-arena c.args.self.now _ c.args.d.id.index _ c.self.view_is c.self.invariant (arena-below definition-arena c.args.self.now _ c.args.d.id.index c.self.view_is c.requires.of_kind) c.index.ensures).there

pub returns-clause-data_type : goal.returns-clause-data_type
returns-clause-data_type c = (arena-read definition-arena c.args.self.now _ c.args.d.id.index _ c.self.view_is c.self.invariant (arena-below definition-arena c.args.self.now _ c.args.d.id.index c.self.view_is c.requires.of_kind) c.index.ensures).sound
