use Rattle.std.proofs.Common.{All, take}
use Rattle.xlsynth_vast.specs.Registers.{OwnsRegister}
use Rattle.vast_session.specs.Helpers.{NamesRegisters}
use Rattle.vast_session.proofs.helpers.registers.definitions.Given as goal

abbrev pub invariant-loop-register : goal.invariant-loop-register
invariant-loop-register l = record {
  owned : All (OwnsRegister l.file) l.made.items;
  named : NamesRegisters l.file l.answers (take l.register-index l.registers) l.made.items;
}
