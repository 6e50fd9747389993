use Rattle.std.proofs.Common.{None}
use Rattle.vast_calls.proofs.Entered.{other_entered}
use Rattle.vast_calls.proofs.names.Names.remove.Goals as goal

pub returns : goal.returns
returns c = other_entered c.args.self.now _ c.args.name.now None c.remove.ensures c.remove-2.ensures
