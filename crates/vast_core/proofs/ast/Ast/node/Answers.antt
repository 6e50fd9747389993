use Rattle.std.proofs.Common.{◌<◌, ◌≤◌, length, rules}
use Rattle.vast_core.specs.View.{bench}
use Rattle.vast_core.proofs.NodeLaws.{at_some, at_none}
use Rattle.vast_core.proofs.ast.Ast.node.Goals as goal

pub returns-then-index-len-clause-some : goal.returns-then-index-len-clause-some
unfolding bench
returns-then-index-len-clause-some c =
    let below : c.args.index < length c.self.inside.terms.items = search rules
    in rw (← c.self.view_is) (at_some _ _ _ _ c.self.invariant.terms below c.index.ensures)

pub returns-else-index-len-clause-none : goal.returns-else-index-len-clause-none
unfolding bench
returns-else-index-len-clause-none c =
    let past : length c.self.inside.terms.items ≤ c.args.index = search rules
    in rw (← c.self.view_is) (at_none _ _ _ past)
