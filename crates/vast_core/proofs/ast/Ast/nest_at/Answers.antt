-- proofs/ast/Ast/nest_at/Answers.antt
use Rattle.std.proofs.Common.{◌<◌, ◌≤◌, length, rules}
use Rattle.vast_core.proofs.Readers.{nest-there, nest-past, nest-sound, nest-unfolded}
use Rattle.vast_core.proofs.ast.Ast.nest_at.Goals as goal

pub returns-then-index-len-clause-some : goal.returns-then-index-len-clause-some
returns-then-index-len-clause-some c =
    let below : c.args.index < length c.self.inside.nests.items = search rules
    in nest-there c.args.self.now _ c.args.index _ c.self.view_is below c.index.ensures

pub returns-then-index-len-clause-owned : goal.returns-then-index-len-clause-owned
returns-then-index-len-clause-owned c =
    let below : c.args.index < length c.self.inside.nests.items = search rules
    in nest-sound c.args.self.now _ c.args.index _ c.self.view_is c.self.invariant below c.index.ensures

pub returns-then-index-len-clause-unfolded : goal.returns-then-index-len-clause-unfolded
returns-then-index-len-clause-unfolded c =
    let below : c.args.index < length c.self.inside.nests.items = search rules
    in nest-unfolded c.args.self.now _ c.args.index _ c.self.view_is c.self.invariant below c.index.ensures

pub returns-else-index-len-clause-none : goal.returns-else-index-len-clause-none
returns-else-index-len-clause-none c =
    let past : length c.self.inside.nests.items ≤ c.args.index = search rules
    in nest-past c.args.self.now _ c.args.index c.self.view_is past
