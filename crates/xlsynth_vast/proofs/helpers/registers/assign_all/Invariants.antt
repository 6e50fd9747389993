use Rattle.std.proofs.Common.{◌≡◌, take}
use Rattle.xlsynth_vast.specs.AddedRegisters.{with_all_assigned}
use Rattle.xlsynth_vast.proofs.helpers.registers.assign_all.Given as goal

abbrev pub invariant-loop-register : goal.invariant-loop-register
invariant-loop-register l = l.file ≡ with_all_assigned l.share l.block (take l.register-index l.registers) l.fn.file
