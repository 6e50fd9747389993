use Rattle.std.proofs.Common.{Ok, true}
use Rattle.vast_list.proofs.Built.{takes_once}
use Rattle.vast_list.proofs.again.Rerun.take.Goals as goal

pub returns-in-Ok : goal.returns-in-Ok
returns-in-Ok c = takes_once true c.args.session.now c.line.new.self c.args.line.now (Ok c.in-Ok.given) c.in-Ok.ensures.takes c.in-Ok.ensures.given
