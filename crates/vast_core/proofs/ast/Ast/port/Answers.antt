use Rattle.std.proofs.Common.{◌<◌, length, rules}
use Rattle.vast_core.proofs.Readers.{port-arena, arena-below, arena-read}
use Rattle.vast_core.proofs.ast.Ast.port.Goals as goal

pub index-requires : goal.index-requires
index-requires c =
    let below : c.args.p.id.index < length c.self.inside.ports.items = arena-below port-arena c.args.self.now _ c.args.p.id.index c.self.view_is c.requires.of_kind
    in search rules

pub returns-clause-there : goal.returns-clause-there
returns-clause-there c = (arena-read port-arena c.args.self.now _ c.args.p.id.index _ c.self.view_is c.self.invariant (arena-below port-arena c.args.self.now _ c.args.p.id.index c.self.view_is c.requires.of_kind) c.index.ensures).there

pub returns-clause-data_type : goal.returns-clause-data_type
returns-clause-data_type c = (arena-read port-arena c.args.self.now _ c.args.p.id.index _ c.self.view_is c.self.invariant (arena-below port-arena c.args.self.now _ c.args.p.id.index c.self.view_is c.requires.of_kind) c.index.ensures).sound.0

pub returns-clause-logic_ref : goal.returns-clause-logic_ref
returns-clause-logic_ref c = (arena-read port-arena c.args.self.now _ c.args.p.id.index _ c.self.view_is c.self.invariant (arena-below port-arena c.args.self.now _ c.args.p.id.index c.self.view_is c.requires.of_kind) c.index.ensures).sound.1
