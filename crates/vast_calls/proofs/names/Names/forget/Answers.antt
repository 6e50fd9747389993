use Rattle.vast_calls.proofs.Entered.{is_forgotten}
use Rattle.vast_calls.proofs.names.Names.forget.Goals as goal

pub returns-in-Some : goal.returns-in-Some
returns-in-Some c = is_forgotten c.args.self.now c.remove.new.self c.args.name c.in-Some.name c.in-Some.is c.remove.ensures
