use Rattle.std.proofs.Common.{sym}
use Rattle.vast_core.specs.Nodes.{no_nodes}
use Rattle.vast_core.specs.View.{bench}
use Rattle.vast_core.proofs.NodeLaws.{built-id}
use Rattle.vast_core.proofs.ast.Ast.id.Goals as goal

pub returns : goal.returns
unfolding bench
returns c = rw (← c.self.view_is) (sym (built-id (no_nodes c.self.inside.id) c.self.inside.terms.items))
