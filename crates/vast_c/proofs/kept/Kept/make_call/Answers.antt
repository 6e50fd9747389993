use Rattle.std.proofs.Common.{ℕ, sym, subst}
use Rattle.vast_session.specs.PackedFronts.{IsToldOfFront}
use Rattle.vast_session.specs.declared.session.Session.{Session}
use Rattle.vast_c.specs.Internal.Seen.{LeftBy}
use Rattle.vast_c.specs.Seen.{more_lines}
use Rattle.vast_c.proofs.PackedSteps.{told_packed}
use Rattle.vast_c.proofs.kept.Kept.make_call.Goals as goal

pub returns-in-Err-clause-left : goal.returns-in-Err-clause-left
returns-in-Err-clause-left c =
    subst (λ (after : Session). LeftBy c.args.self.now.session after c.tell.result) (sym c.tell.ensures.session) (c.tell.ensures.left c.args.self.now.session c.packed.new.self c.in-Err.ensures.takes)

pub returns-in-Err-clause-fault : goal.returns-in-Err-clause-fault
returns-in-Err-clause-fault c =
    let before = c.args.self.now.session in
    let said = subst (λ (n : ℕ). IsToldOfFront before c.packed.new.self n c.args.bytes.now c.in-Err.fault) c.saturating_add-place.ensures c.in-Err.ensures.told in
    told_packed before c.packed.new.self c.tell.new.self.session (more_lines c.args.self.now.lines 1) c.args.bytes.now c.in-Err.fault c.tell.new.self.told c.tell.ensures.session c.tell.ensures.fault said
