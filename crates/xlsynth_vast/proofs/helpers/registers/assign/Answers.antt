-- proofs/helpers/registers/assign/Answers.antt
use Rattle.xlsynth_vast.proofs.RegisterParts.{wider_owned}
use Rattle.xlsynth_vast.proofs.RegisterSteps.{fill-refused, stays-same, stays-then, value-owned, value-still, assigned-value, assigned-none}
use Rattle.xlsynth_vast.proofs.helpers.registers.assign.Goals as goal
use Rattle.std.proofs.Common.{inl, refl}

pub returns-in_err-value : goal.returns-in_err-value
returns-in_err-value c = fill-refused _ _ c.from_residual.result c.args.block _ c.from_residual.ensures.0 (stays-same _ _ c.args.block c.in_err-value.ensures)

pub block_add_nonblocking_assignment-requires-clause-block : goal.block_add_nonblocking_assignment-requires-clause-block
block_add_nonblocking_assignment-requires-clause-block c =
    (value-still c.args.share c.args.register.now c.args.file.now _ c.args.block c.in_ok-value.ensures.1).blocks c.args.block c.requires.block

pub block_add_nonblocking_assignment-requires-clause-lhs : goal.block_add_nonblocking_assignment-requires-clause-lhs
block_add_nonblocking_assignment-requires-clause-lhs c =
    wider_owned c.args.file.now _ (value-still c.args.share c.args.register.now c.args.file.now _ c.args.block c.in_ok-value.ensures.1).wider _ c.requires.register.0

pub block_add_nonblocking_assignment-requires-clause-rhs : goal.block_add_nonblocking_assignment-requires-clause-rhs
block_add_nonblocking_assignment-requires-clause-rhs c = value-owned c.args.share c.args.register.now c.args.file.now _ _ c.in-Some.value c.requires.register c.in_ok-value.ensures c.in-Some.is

pub returns-in_err-block_add_nonblocking_assignment-in-Some : goal.returns-in_err-block_add_nonblocking_assignment-in-Some
returns-in_err-block_add_nonblocking_assignment-in-Some c =
    fill-refused _ _ c.from_residual-in_err-block_add_nonblocking_assignment-in-Some.result c.args.block _ c.from_residual-in_err-block_add_nonblocking_assignment-in-Some.ensures.0
    (stays-then c.args.file.now _ _ c.args.block c.args.block (value-still c.args.share c.args.register.now c.args.file.now _ c.args.block c.in_ok-value.ensures.1) (inl refl) (stays-same _ _ c.args.block c.in_err-block_add_nonblocking_assignment-in-Some.ensures.built))

pub returns-in_ok-block_add_nonblocking_assignment-in-Some : goal.returns-in_ok-block_add_nonblocking_assignment-in-Some
returns-in_ok-block_add_nonblocking_assignment-in-Some c =
    assigned-value c.args.share c.args.block c.args.register.now c.args.file.now _ _ _ c.in-Some.value c.in_ok-value.ensures c.in-Some.is c.in_ok-block_add_nonblocking_assignment-in-Some.ensures.built.1

pub returns-in-None : goal.returns-in-None
returns-in-None c = assigned-none c.args.share c.args.block c.args.register.now c.args.file.now _ _ c.in_ok-value.ensures c.in-None.is
