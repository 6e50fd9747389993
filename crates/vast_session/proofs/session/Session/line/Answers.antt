use Rattle.std.proofs.Common.{◌≡◌, ℕ, List, Ok, subst}
use Rattle.std.specs.Prelude.{option_copied}
use Rattle.vast_calls.specs.declared.line.Action.{Action}
use Rattle.vast_calls.specs.declared.line.Call.{Call}
use Rattle.vast_calls.specs.declared.line.Action.TheVariants.{Call as CallAction}
use Rattle.vast_calls.specs.Lines.{behind_call, without_return}
use Rattle.vast_calls.specs.Names.{IsFree}
use Rattle.vast_session.specs.Session.{GivesCall, IsMade}
use Rattle.vast_calls.specs.Actions.{IsActionOf, IsRead}
use Rattle.vast_session.specs.Internal.Session.{MakesName}
use Rattle.vast_calls.specs.Written.{meaning}
use Rattle.vast_calls.specs.declared.line.Line.{Line as ReadLine}
use Rattle.vast_session.specs.declared.session.Session.{Session}
use Rattle.vast_session.proofs.Sessions.{enters_read, free_read, has_made}
use Rattle.vast_session.proofs.session.Session.line.Goals as goal

-- The call that a line was read as was made.
made_as_read :
    (old new : Session) (call : Call) (read : ReadLine) (text line : List ℕ) → IsRead (meaning old.names) old.skipped.items text read → read.action ≡ CallAction call → IsMade old new call →
    (IsFree (meaning old.names) (option_copied read.name) → MakesName old new (option_copied read.name) (Ok tt)) → text ≡ without_return line → GivesCall old new read.call.now line
made_as_read old new call read text line r a m n e =
    let acts = subst (λ (action : Action). IsActionOf (meaning old.names) old.skipped.items read.call.now (behind_call text) action) a r.1 in
    (has_made old new call read.call.now text line m acts.1 acts.2 e, enters_read old new text line read _ r e (n (free_read (meaning old.names) old.skipped.items text read r)))

pub returns-in-Step-clause-takes : goal.returns-in-Step-clause-takes
returns-in-Step-clause-takes c =
    made_as_read c.args.self.now c.make.new.self c.in-Call.made c.in_ok-name.field-0 c.in_ok-text.text.now c.args.line.now c.in_ok-name.ensures c.in-Call.is c.in_ok-make-in-Call.ensures.made c.in_ok-make-in-Call.ensures.name c.in_ok-text.ensures.text

pub returns-clause-takes : goal.returns-clause-takes
returns-clause-takes c =
    made_as_read c.args.self.now c.make.new.self c.in-Call.made c.in_ok-name.field-0 c.in_ok-text.text.now c.args.line.now c.in_ok-name.ensures c.in-Call.is c.in_ok-make-in-Call.ensures.made c.in_ok-make-in-Call.ensures.name c.in_ok-text.ensures.text
