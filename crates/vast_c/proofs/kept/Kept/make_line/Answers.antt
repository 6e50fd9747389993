use Rattle.std.proofs.Common.{ℕ, sym, subst}
use Rattle.vast_session.specs.declared.session.Session.{Session}
use Rattle.vast_session.specs.Session.{IsOfLine}
use Rattle.vast_c.specs.Internal.Seen.{LeftBy}
use Rattle.vast_c.specs.Seen.{more_lines}
use Rattle.vast_c.proofs.Steps.{told_of}
use Rattle.vast_c.proofs.kept.Kept.make_line.Goals as goal

pub returns-in-Err-clause-left : goal.returns-in-Err-clause-left
returns-in-Err-clause-left c =
    subst (λ (after : Session). LeftBy c.args.self.now.session after c.tell.result) (sym c.tell.ensures.session) (c.tell.ensures.left c.args.self.now.session c.line.new.self c.in-Err.ensures.takes)

pub returns-in-Err-clause-fault : goal.returns-in-Err-clause-fault
returns-in-Err-clause-fault c =
    let said = c.in-Err.ensures in
    let number = subst (λ (n : ℕ). IsOfLine n c.in-Err.fault) c.saturating_add-number.ensures said.number in
    told_of c.args.self.now.session c.line.new.self c.tell.new.self.session (more_lines c.args.self.now.lines 1) c.args.line.now c.in-Err.fault c.tell.new.self.told c.tell.ensures.session c.tell.ensures.fault number said.cause said.passed
