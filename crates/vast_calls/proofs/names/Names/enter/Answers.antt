use Rattle.vast_calls.proofs.Entered.{is_entered}
use Rattle.vast_calls.proofs.names.Names.enter.Goals as goal

pub returns-in_ok-insert-clause-entered : goal.returns-in_ok-insert-clause-entered
returns-in_ok-insert-clause-entered c = is_entered c.args.self.now c.insert.new.self c.args.name c.in-Some.name c.args.stands_for c.in-Some.is c.in_ok-insert.ensures.ok
