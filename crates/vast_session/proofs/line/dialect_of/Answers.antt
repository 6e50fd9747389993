use Rattle.vast_session.proofs.Sessions.{named_dialect}
use Rattle.vast_session.proofs.line.dialect_of.Goals as goal

pub returns-in-Err-clause-none : goal.returns-in-Err-clause-none
returns-in-Err-clause-none c = named_dialect c.args.line.now c.in-Err.ensures.utf8
