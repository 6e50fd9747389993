use Rattle.std.proofs.Common.{◌<◌, length, rules}
use Rattle.vast_core.proofs.Readers.{assignment-arena, arena-below, arena-read}
use Rattle.vast_core.proofs.ast.Ast.assignment.Goals as goal

pub index-requires : goal.index-requires
index-requires c =
    let below : c.args.s.id.index < length c.self.inside.assignments.items = arena-below assignment-arena c.args.self.now _ c.args.s.id.index c.self.view_is c.requires.of_kind
    in search rules

pub returns-clause-there : goal.returns-clause-there
returns-clause-there c = (arena-read assignment-arena c.args.self.now _ c.args.s.id.index _ c.self.view_is c.self.invariant (arena-below assignment-arena c.args.self.now _ c.args.s.id.index c.self.view_is c.requires.of_kind) c.index.ensures).there

pub returns-clause-lhs : goal.returns-clause-lhs
returns-clause-lhs c = (arena-read assignment-arena c.args.self.now _ c.args.s.id.index _ c.self.view_is c.self.invariant (arena-below assignment-arena c.args.self.now _ c.args.s.id.index c.self.view_is c.requires.of_kind) c.index.ensures).sound.0

pub returns-clause-rhs : goal.returns-clause-rhs
returns-clause-rhs c = (arena-read assignment-arena c.args.self.now _ c.args.s.id.index _ c.self.view_is c.self.invariant (arena-below assignment-arena c.args.self.now _ c.args.s.id.index c.self.view_is c.requires.of_kind) c.index.ensures).sound.1
