use Rattle.vast_calls.proofs.Entered.{none_named}
use Rattle.vast_calls.proofs.names.Names.new.Goals as goal

pub returns : goal.returns
returns c = none_named _ c.new.ensures c.new-2.ensures
