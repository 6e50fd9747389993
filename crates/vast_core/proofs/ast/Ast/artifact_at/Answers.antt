use Rattle.std.proofs.Common.{◌<◌, ◌≤◌, length, rules}
use Rattle.vast_core.proofs.Readers.{artifact-past, artifact-arena, arena-read}
use Rattle.vast_core.proofs.ast.Ast.artifact_at.Goals as goal

pub returns-then-index-len-clause-some : goal.returns-then-index-len-clause-some
returns-then-index-len-clause-some c =
    let below : c.args.index < length c.self.inside.artifacts.items = search rules
    in (arena-read artifact-arena c.args.self.now _ c.args.index _ c.self.view_is c.self.invariant below c.index.ensures).there

pub returns-then-index-len-clause-owned : goal.returns-then-index-len-clause-owned
returns-then-index-len-clause-owned c =
    let below : c.args.index < length c.self.inside.artifacts.items = search rules
    in (arena-read artifact-arena c.args.self.now _ c.args.index _ c.self.view_is c.self.invariant below c.index.ensures).sound

pub returns-else-index-len-clause-none : goal.returns-else-index-len-clause-none
returns-else-index-len-clause-none c =
    let past : length c.self.inside.artifacts.items ≤ c.args.index = search rules
    in artifact-past c.args.self.now _ c.args.index c.self.view_is past
