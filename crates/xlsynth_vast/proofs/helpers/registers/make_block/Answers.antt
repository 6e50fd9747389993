-- proofs/helpers/registers/make_block/Answers.antt
use Rattle.std.proofs.Common.{sym}
use Rattle.xlsynth_vast.proofs.RegisterParts.{wider_owned, registers-owned, unused-none}
use Rattle.xlsynth_vast.proofs.RegisterMembers.{detached-owned, detached-registers, filled-wider, filled-owned}
use Rattle.xlsynth_vast.proofs.RegisterSteps.{block-refused, start-unused, filled-unused, filled-is, block-plain, block-bare, block-branched}
use Rattle.xlsynth_vast.proofs.helpers.registers.make_block.Goals as goal

pub returns-in_err-block : goal.returns-in_err-block
returns-in_err-block c = block-refused _ _ c.from_residual.result c.args.reset c.args.registers.now c.from_residual.ensures.0 (rw c.in_err-block.ensures (unused-none _))

pub assign_all-requires-clause-registers : goal.assign_all-requires-clause-registers
assign_all-requires-clause-registers c = rw c.in_ok-block.ensures.1 (detached-registers c.args.file.now c.args.registers.now c.requires.registers)

pub assign_all-requires-clause-block : goal.assign_all-requires-clause-block
assign_all-requires-clause-block c = rw (c.in_ok-block.ensures.0, c.in_ok-block.ensures.1) (detached-owned c.args.file.now)

pub returns-in_err-assign_all : goal.returns-in_err-assign_all
returns-in_err-assign_all c =
    block-refused _ _ c.from_residual-in_err-assign_all.result c.args.reset c.args.registers.now c.from_residual-in_err-assign_all.ensures.0 (start-unused c.args.file.now _ _ c.in_ok-block.block c.in_ok-block.ensures c.in_err-assign_all.ensures)

pub returns-then-not-any_resettable : goal.returns-then-not-any_resettable
returns-then-not-any_resettable c =
    block-plain c.args.file.now _ c.in_ok-block.block c.args.reset c.args.registers.now (sym c.if-not-any_resettable.ensures) c.in_ok-block.ensures.0
    (filled-is c.args.file.now _ _ c.in_ok-block.block c.args.registers.now c.in_ok-block.ensures c.in_ok-assign_all.ensures)

pub branch-reset-requires-clause-reset : goal.branch-reset-requires-clause-reset
branch-reset-requires-clause-reset c =
    rw (filled-is c.args.file.now _ _ c.in_ok-block.block c.args.registers.now c.in_ok-block.ensures c.in_ok-assign_all.ensures)
    (wider_owned c.args.file.now _ (filled-wider c.args.file.now c.args.registers.now) c.in-Some.reset.signal (rw c.in-Some.is at c.requires.reset))

pub branch-reset-requires-clause-registers : goal.branch-reset-requires-clause-registers
branch-reset-requires-clause-registers c =
    rw (filled-is c.args.file.now _ _ c.in_ok-block.block c.args.registers.now c.in_ok-block.ensures c.in_ok-assign_all.ensures)
    (registers-owned c.args.file.now _ (filled-wider c.args.file.now c.args.registers.now) c.args.registers.now c.requires.registers)

pub branch-reset-requires-clause-block : goal.branch-reset-requires-clause-block
branch-reset-requires-clause-block c =
    rw (filled-is c.args.file.now _ _ c.in_ok-block.block c.args.registers.now c.in_ok-block.ensures c.in_ok-assign_all.ensures, c.in_ok-block.ensures.0) (filled-owned c.args.file.now c.args.registers.now)

pub returns-in_err-branch-in-Some : goal.returns-in_err-branch-in-Some
returns-in_err-branch-in-Some c =
    block-refused _ _ c.from_residual-in_err-branch-in-Some.result c.args.reset c.args.registers.now c.from_residual-in_err-branch-in-Some.ensures.0
    (filled-unused c.args.file.now _ _ c.in_ok-block.block c.args.registers.now c.in_ok-block.ensures.0 (filled-is c.args.file.now _ _ c.in_ok-block.block c.args.registers.now c.in_ok-block.ensures c.in_ok-assign_all.ensures) c.in_err-branch-in-Some.ensures)

pub returns-in_ok-branch-in-Some : goal.returns-in_ok-branch-in-Some
returns-in_ok-branch-in-Some c =
    rw c.in-Some.is (block-branched c.args.file.now _ _ c.in_ok-block.block c.in-Some.reset c.args.registers.now (sym c.if-not-any_resettable.ensures) c.in_ok-block.ensures.0
    (filled-is c.args.file.now _ _ c.in_ok-block.block c.args.registers.now c.in_ok-block.ensures c.in_ok-assign_all.ensures) c.in_ok-branch-in-Some.ensures)

pub returns-in-None : goal.returns-in-None
returns-in-None c =
    rw c.in-None.is (block-bare c.args.file.now _ c.in_ok-block.block c.args.registers.now c.in_ok-block.ensures.0
    (filled-is c.args.file.now _ _ c.in_ok-block.block c.args.registers.now c.in_ok-block.ensures c.in_ok-assign_all.ensures))
