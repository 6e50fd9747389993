use Rattle.vast_core.proofs.Names.{free-test}
use Rattle.vast_core.proofs.node.Module.name_is_free.Goals as goal

pub returns : goal.returns
returns c = free-test c.args.name.now c.args.self.now.names c.contains.result c.contains.ensures
