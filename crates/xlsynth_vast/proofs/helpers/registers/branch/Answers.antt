-- proofs/helpers/registers/branch/Answers.antt
use Rattle.std.proofs.Common.{inl, inr, refl}
use Rattle.xlsynth_vast.proofs.RegisterParts.{registers-owned, changes-then}
use Rattle.xlsynth_vast.proofs.RegisterSteps.{fill-refused, stays-same, stays-then, conditional-owned, conditional-open, opened-stays, ready, half-changes, half-owned, branch-end, condition-owned, condition-changes, both-behind}
use Rattle.xlsynth_vast.proofs.helpers.registers.branch.Goals as goal

pub returns-in_err-condition : goal.returns-in_err-condition
returns-in_err-condition c = fill-refused _ _ c.from_residual.result c.args.block _ c.from_residual.ensures.0 (stays-same _ _ c.args.block c.in_err-condition.ensures)

pub block_add_cond-requires-clause-block : goal.block_add_cond-requires-clause-block
block_add_cond-requires-clause-block c = (condition-changes c.args.reset c.args.block c.args.file.now _ c.in_ok-condition.ensures.1).blocks c.args.block c.requires.block

pub block_add_cond-requires-clause-condition : goal.block_add_cond-requires-clause-condition
block_add_cond-requires-clause-condition c = condition-owned c.args.reset c.args.file.now _ _ c.requires.reset c.in_ok-condition.ensures

pub returns-in_err-conditional : goal.returns-in_err-conditional
returns-in_err-conditional c =
    fill-refused _ _ c.from_residual-in_err-conditional.result c.args.block _ c.from_residual-in_err-conditional.ensures.0
    (stays-then c.args.file.now _ _ c.args.block c.args.block (condition-changes c.args.reset c.args.block c.args.file.now _ c.in_ok-condition.ensures.1) (inl refl) (stays-same _ _ c.args.block c.in_err-conditional.ensures.built))

pub conditional_then_block-at_reset-requires : goal.conditional_then_block-at_reset-requires
conditional_then_block-at_reset-requires c = conditional-owned _ _ c.in_ok-condition.condition c.args.block c.in_ok-conditional.conditional c.in_ok-conditional.ensures.built

pub conditional_add_else-requires-clause-conditional : goal.conditional_add_else-requires-clause-conditional
conditional_add_else-requires-clause-conditional c = conditional-owned _ _ c.in_ok-condition.condition c.args.block c.in_ok-conditional.conditional c.in_ok-conditional.ensures.built

pub conditional_add_else-requires-clause-no_else : goal.conditional_add_else-requires-clause-no_else
conditional_add_else-requires-clause-no_else c =
    conditional-open _ _ c.in_ok-condition.condition c.args.block c.in_ok-conditional.conditional ((condition-changes c.args.reset c.args.block c.args.file.now _ c.in_ok-condition.ensures.1).blocks c.args.block c.requires.block) c.in_ok-conditional.ensures.built

pub returns-in_err-outside : goal.returns-in_err-outside
returns-in_err-outside c =
    let block = c.args.block in
    let k = changes-then block.id.index block.id.index c.args.file.now _ _ (condition-changes c.args.reset block c.args.file.now _ c.in_ok-condition.ensures.1) (opened-stays _ _ c.in_ok-condition.condition block c.in_ok-conditional.ensures.built.1) (inl refl) in
    fill-refused _ _ c.from_residual-in_err-outside.result block _ c.from_residual-in_err-outside.ensures.0 (stays-then c.args.file.now _ _ block block k (inl refl) (stays-same _ _ block c.in_err-outside.ensures.built))

pub assign_all-requires-clause-registers : goal.assign_all-requires-clause-registers
assign_all-requires-clause-registers c =
    let old = c.args.file.now in
    let k = both-behind old _ _ _ c.args.reset c.in_ok-condition.condition c.args.block c.in_ok-conditional.conditional _ _ c.requires.block c.in_ok-condition.ensures c.in_ok-conditional.ensures.built c.conditional_then_block-at_reset.ensures.block c.in_ok-outside.ensures.built in
    registers-owned old _ (ready old _ c.args.reset c.args.block _ _ c.requires.block k).changes.wider c.args.registers.now c.requires.registers

pub assign_all-requires-clause-block : goal.assign_all-requires-clause-block
assign_all-requires-clause-block c =
    let old = c.args.file.now in
    let k = both-behind old _ _ _ c.args.reset c.in_ok-condition.condition c.args.block c.in_ok-conditional.conditional _ _ c.requires.block c.in_ok-condition.ensures c.in_ok-conditional.ensures.built c.conditional_then_block-at_reset.ensures.block c.in_ok-outside.ensures.built in
    (ready old _ c.args.reset c.args.block _ _ c.requires.block k).first_owned

pub returns-in_err-assign_all : goal.returns-in_err-assign_all
returns-in_err-assign_all c =
    let old = c.args.file.now in
    let k = both-behind old _ _ _ c.args.reset c.in_ok-condition.condition c.args.block c.in_ok-conditional.conditional _ _ c.requires.block c.in_ok-condition.ensures c.in_ok-conditional.ensures.built c.conditional_then_block-at_reset.ensures.block c.in_ok-outside.ensures.built in
    let y = ready old _ c.args.reset c.args.block _ _ c.requires.block k in
    fill-refused _ _ c.from_residual-in_err-assign_all.result c.args.block _ c.from_residual-in_err-assign_all.ensures.0 (stays-then old _ _ c.args.block c.conditional_then_block-at_reset.result y.changes (inr y.first_past) c.in_err-assign_all.ensures)

pub assign_all-requires-2-clause-registers : goal.assign_all-requires-2-clause-registers
assign_all-requires-2-clause-registers c =
    let old = c.args.file.now in
    let k = both-behind old _ _ _ c.args.reset c.in_ok-condition.condition c.args.block c.in_ok-conditional.conditional _ _ c.requires.block c.in_ok-condition.ensures c.in_ok-conditional.ensures.built c.conditional_then_block-at_reset.ensures.block c.in_ok-outside.ensures.built in
    let y = ready old _ c.args.reset c.args.block _ _ c.requires.block k in
    registers-owned old _ (half-changes old _ _ c.args.block _ _ c.args.registers.now y c.in_ok-assign_all.ensures).wider c.args.registers.now c.requires.registers

pub assign_all-requires-2-clause-block : goal.assign_all-requires-2-clause-block
assign_all-requires-2-clause-block c =
    let old = c.args.file.now in
    let k = both-behind old _ _ _ c.args.reset c.in_ok-condition.condition c.args.block c.in_ok-conditional.conditional _ _ c.requires.block c.in_ok-condition.ensures c.in_ok-conditional.ensures.built c.conditional_then_block-at_reset.ensures.block c.in_ok-outside.ensures.built in
    half-owned _ _ _ _ c.args.registers.now (ready old _ c.args.reset c.args.block _ _ c.requires.block k).second_owned c.in_ok-assign_all.ensures

pub returns : goal.returns
returns c =
    let old = c.args.file.now in
    let k = both-behind old _ _ _ c.args.reset c.in_ok-condition.condition c.args.block c.in_ok-conditional.conditional _ _ c.requires.block c.in_ok-condition.ensures c.in_ok-conditional.ensures.built c.conditional_then_block-at_reset.ensures.block c.in_ok-outside.ensures.built in
    branch-end old _ _ _ c.args.reset c.assign_all-2.result c.args.block _ _ c.args.registers.now c.requires.block k c.in_ok-assign_all.ensures c.assign_all-2.ensures
