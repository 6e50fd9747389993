use Rattle.std.proofs.Common.{rules}
use Rattle.vast_session.proofs.Sessions.{in_form}
use Rattle.vast_session.proofs.session.Session.check.Goals as goal

pub returns-clause-form : goal.returns-clause-form
returns-clause-form c = in_form c.args.self.now c.in_ok-text.text.now c.args.line.now c.in_ok-read.field-0 c.in_ok-read.ensures (search rules) c.in_ok-text.ensures.text
