-- proofs/helpers/registers/assign_all/Answers.antt
use Rattle.std.proofs.Common.{◌≡◌, List, None, get_or, take, inl, refl}
use Rattle.std.proofs.lemmas.List.{get_or_default}
use Rattle.vast_core.specs.declared.handle.Expr.{Expr}
use Rattle.vast_core.specs.declared.handle.VastStatementBlock.{VastStatementBlock}
use Rattle.vast_core.specs.Bench.{Bench}
use Rattle.xlsynth_vast.specs.declared.helpers.registers.RegisterDefinition.{RegisterDefinition}
use Rattle.xlsynth_vast.specs.declared.helpers.registers.Share.{Share}
use Rattle.xlsynth_vast.specs.Registers.{OwnsRegister}
use Rattle.xlsynth_vast.specs.AddedRegisters.{with_all_assigned}
use Rattle.xlsynth_vast.proofs.Reduced.{All-at}
use Rattle.xlsynth_vast.proofs.RegisterParts.{register-owned, Changes}
use Rattle.xlsynth_vast.proofs.RegisterBlocks.{all-assigned-changes, assigning-step}
use Rattle.xlsynth_vast.proofs.RegisterSteps.{fill-refused, stays-then}
use Rattle.xlsynth_vast.proofs.helpers.registers.assign_all.Goals as goal

abbrev no-expr : Expr
no-expr = record { id = record { file_id = 0; index = 0 } }

abbrev none : RegisterDefinition
none = record { reg = no-expr; next = no-expr; reset_value = None; enable = None }

-- So far only the block changed.
so-far : (share : Share) (block : VastStatementBlock) (registers : List RegisterDefinition) (b now : Bench) → now ≡ with_all_assigned share block registers b → Changes block.id.index b now
so-far share block registers b now e = rw e (all-assigned-changes share block registers b)

pub assign-requires-clause-register : goal.assign-requires-clause-register
assign-requires-clause-register c =
    let registers = c.args.registers.now in
    let i = c.loop-register.register-index in
    let r : RegisterDefinition = get_or registers i none in
    register-owned c.args.file.now _ (so-far c.args.share c.args.block (take i registers) c.args.file.now _ c.loop-register.invariant).wider r
    (All-at (OwnsRegister c.args.file.now) registers i r c.requires.registers c.loop-register-test.true (get_or_default registers i none r c.loop-register-test.true))

pub assign-requires-clause-block : goal.assign-requires-clause-block
assign-requires-clause-block c =
    (so-far c.args.share c.args.block (take c.loop-register.register-index c.args.registers.now) c.args.file.now _ c.loop-register.invariant).blocks c.args.block c.requires.block

pub returns-in_err-assign : goal.returns-in_err-assign
returns-in_err-assign c =
    fill-refused _ _ c.from_residual.result c.args.block _ c.from_residual.ensures.0
    (stays-then c.args.file.now _ _ c.args.block c.args.block (so-far c.args.share c.args.block (take c.loop-register.register-index c.args.registers.now) c.args.file.now _ c.loop-register.invariant) (inl refl) c.in_err-assign.ensures)

pub loop-register-preserved : goal.loop-register-preserved
loop-register-preserved c =
    let registers = c.args.registers.now in
    let i = c.loop-register.register-index in
    let r : RegisterDefinition = get_or registers i none in
    assigning-step c.args.share c.args.block registers i r c.args.file.now _ _ c.loop-register-test.true (get_or_default registers i none r c.loop-register-test.true) c.loop-register.invariant c.in_ok-assign.ensures
