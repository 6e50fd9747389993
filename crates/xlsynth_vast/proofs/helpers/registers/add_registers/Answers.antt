-- proofs/helpers/registers/add_registers/Answers.antt
use Rattle.std.proofs.Common.{rules, ◌≡◌, ◌<◌, length, Ok, Err}
use Rattle.vast_literal.specs.declared.error.VastFault.TheVariants.{Memory}
use Rattle.xlsynth_vast.proofs.RegisterMembers.{block-unused, block-clock, block-detached, edge-unused, scope-owned, scope-older, registers-added, check-refused}
use Rattle.xlsynth_vast.proofs.RegisterSteps.{edged-event, is-added}
use Rattle.xlsynth_vast.proofs.RegisterValues.{registers-take-their-values, none-take}
use Rattle.xlsynth_vast.proofs.KeptRegisters.{keeps-unused, registers-kept}
use Rattle.xlsynth_vast.proofs.Unseen.{unseen-refused}
use Rattle.xlsynth_vast.proofs.helpers.registers.add_registers.Goals as goal

pub returns-in_err-check_reset-clause-built : goal.returns-in_err-check_reset-clause-built
returns-in_err-check_reset-clause-built c =
    let e : c.from_residual.result ≡ Err c.in_err-check_reset.field-0.0 = search rules in
    rw e (check-refused _ _ _ c.args.reset c.args.registers.now _ c.in_err-check_reset.ensures)

pub make_pos_edge-requires : goal.make_pos_edge-requires
make_pos_edge-requires c = rw c.in_ok-block.ensures.1 (block-clock c.args.reset c.args.registers.now c.args.file.now c.args.clk.now c.requires.clk)

pub attach-requires-clause-scope : goal.attach-requires-clause-scope
attach-requires-clause-scope c =
    rw (c.in_ok-event.ensures.built.1, c.in_ok-block.ensures.1)
    (scope-owned c.args.file.now _ c.args.scope (edge-unused c.args.file.now _ c.args.clk.now (block-unused c.args.reset c.args.registers.now c.args.file.now)) c.requires.scope)

pub attach-requires-clause-event : goal.attach-requires-clause-event
attach-requires-clause-event c = edged-event _ _ c.args.clk.now c.in_ok-event.event c.in_ok-event.ensures.built

pub attach-requires-clause-detached : goal.attach-requires-clause-detached
attach-requires-clause-detached c = rw (c.in_ok-event.ensures.built.1, c.in_ok-block.ensures.0, c.in_ok-block.ensures.1) (block-detached c.args.reset c.args.registers.now c.args.file.now)

pub attach-requires-clause-newer : goal.attach-requires-clause-newer
attach-requires-clause-newer c = rw c.in_ok-block.ensures.0 (scope-older c.args.file.now c.args.scope c.requires.scope)

pub returns-clause-built : goal.returns-clause-built
returns-clause-built c =
    let some : 0 < length c.args.registers.now = search rules in
    registers-added c.args.file.now _ c.args.clk.now c.args.reset c.args.registers.now c.args.scope c.requires.scope c.requires.clk c.requires.reset c.requires.registers some c.in_ok-check_reset.ensures
    (is-added c.args.file.now _ _ _ c.in_ok-block.block c.args.clk.now c.in_ok-event.event c.args.reset c.args.registers.now c.args.scope c.in_ok-block.ensures c.in_ok-event.ensures.built c.in_ok-attach.ensures.1)

pub returns-in_err-event-clause-built : goal.returns-in_err-event-clause-built
returns-in_err-event-clause-built c =
    let e : c.from_residual-in_err-event.result ≡ Err (Memory c.in_err-event.field-0.0) = search rules in
    rw (e, c.in_err-event.ensures.built, c.in_ok-block.ensures.1) (block-unused c.args.reset c.args.registers.now c.args.file.now)

pub returns-in_err-attach-clause-built : goal.returns-in_err-attach-clause-built
returns-in_err-attach-clause-built c =
    let e : c.from_residual-in_err-attach.result ≡ Err (Memory c.in_err-attach.field-0.0) = search rules in
    rw (e, c.in_err-attach.ensures, c.in_ok-event.ensures.built.1, c.in_ok-block.ensures.1) (edge-unused c.args.file.now _ c.args.clk.now (block-unused c.args.reset c.args.registers.now c.args.file.now))

pub returns-clause-kept : goal.returns-clause-kept
returns-clause-kept c = registers-kept _ _ (Ok tt) c.args.clk.now c.args.reset c.args.registers.now c.args.scope (returns-clause-built c)

pub returns-in_err-block-clause-kept : goal.returns-in_err-block-clause-kept
returns-in_err-block-clause-kept c = keeps-unused _ _ c.in_err-block.ensures

pub returns-in_err-event-clause-kept : goal.returns-in_err-event-clause-kept
returns-in_err-event-clause-kept c = keeps-unused _ _ (rw (c.in_err-event.ensures.built, c.in_ok-block.ensures.1) (block-unused c.args.reset c.args.registers.now c.args.file.now))

pub returns-in_err-attach-clause-kept : goal.returns-in_err-attach-clause-kept
returns-in_err-attach-clause-kept c =
    keeps-unused _ _ (rw (c.in_err-attach.ensures, c.in_ok-event.ensures.built.1, c.in_ok-block.ensures.1) (edge-unused c.args.file.now _ c.args.clk.now (block-unused c.args.reset c.args.registers.now c.args.file.now)))

pub returns-in_err-block-clause-unseen : goal.returns-in_err-block-clause-unseen
returns-in_err-block-clause-unseen c = unseen-refused _ _ c.from_residual-in_err-block.result c.records_are_sound.ensures c.in_err-block.ensures

pub returns-in_err-event-clause-unseen : goal.returns-in_err-event-clause-unseen
returns-in_err-event-clause-unseen c =
    unseen-refused _ _ c.from_residual-in_err-event.result c.records_are_sound.ensures (rw (c.in_err-event.ensures.built, c.in_ok-block.ensures.1) (block-unused c.args.reset c.args.registers.now c.args.file.now))

pub returns-in_err-attach-clause-unseen : goal.returns-in_err-attach-clause-unseen
returns-in_err-attach-clause-unseen c =
    unseen-refused _ _ c.from_residual-in_err-attach.result c.records_are_sound.ensures
    (rw (c.in_err-attach.ensures, c.in_ok-event.ensures.built.1, c.in_ok-block.ensures.1) (edge-unused c.args.file.now _ c.args.clk.now (block-unused c.args.reset c.args.registers.now c.args.file.now)))

pub returns-then-is_empty-clause-values : goal.returns-then-is_empty-clause-values
returns-then-is_empty-clause-values c =
    let none : length c.args.registers.now ≡ 0 = search rules in
    none-take c.args.file.now _ c.args.registers.now none

pub returns-clause-values : goal.returns-clause-values
returns-clause-values c = registers-take-their-values _ _ c.in_ok-check_reset.ensures
