-- proofs/ast/Ast/function/Answers.antt
use Rattle.std.proofs.Common.{◌<◌, length, rules}
use Rattle.vast_core.proofs.Readers.{function-arena, arena-below, arena-read}
use Rattle.vast_core.proofs.ast.Ast.function.Goals as goal

pub index-requires : goal.index-requires
index-requires c =
    let below : c.args.f.id.index < length c.self.inside.functions.items = arena-below function-arena c.args.self.now _ c.args.f.id.index c.self.view_is c.requires.of_kind
    in search rules

pub returns-clause-there : goal.returns-clause-there
returns-clause-there c = (arena-read function-arena c.args.self.now _ c.args.f.id.index _ c.self.view_is c.self.invariant (arena-below function-arena c.args.self.now _ c.args.f.id.index c.self.view_is c.requires.of_kind) c.index.ensures).there

pub returns-clause-sound : goal.returns-clause-sound
returns-clause-sound c = (arena-read function-arena c.args.self.now _ c.args.f.id.index _ c.self.view_is c.self.invariant (arena-below function-arena c.args.self.now _ c.args.f.id.index c.self.view_is c.requires.of_kind) c.index.ensures).sound
