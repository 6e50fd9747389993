-- What the steps leave by which the block of registers is made.
use Rattle.std.specs.Prelude.{◌≡◌, ◌<◌, ◌≤◌, List, length, Option, Result, Ok, Err}
use Rattle.std.specs.declared.alloc.AllocError.{AllocError}
use Rattle.vast_core.specs.declared.handle.VastStatementBlock.{VastStatementBlock}
use Rattle.vast_core.specs.Bench.{Bench}
use Rattle.vast_core.specs.Containers.{next_block}
use Rattle.xlsynth_vast.specs.declared.helpers.registers.Reset.{Reset}
use Rattle.xlsynth_vast.specs.declared.helpers.registers.RegisterDefinition.{RegisterDefinition}
use Rattle.xlsynth_vast.specs.declared.helpers.registers.RegisterScope.{RegisterScope}
use Rattle.xlsynth_vast.specs.declared.helpers.registers.RegisterScope.TheVariants.{Module as ModuleScope, GenerateLoop as LoopScope}
use Rattle.xlsynth_vast.specs.Registers.{HasUnused}
use Rattle.xlsynth_vast.specs.AddedRegisters.{with_register_block}

-- What was unused since a file without the block, as the block itself, still is.
abbrev pub StaysUnused : VastStatementBlock → (old new : Bench) → Type 0
StaysUnused block old new = (start : Bench) → HasUnused start old → length start.nests ≤ block.id.index → HasUnused start new

-- The block is filled so, or memory was refused.
abbrev pub MayFill : (old new : Bench) → Result (Unit {0}) AllocError → VastStatementBlock → (after : Bench) → Type 0
MayFill old new (Ok _) block after = new ≡ after
MayFill old new (Err _) block after = StaysUnused block old new

-- The block of the registers was made, or memory was refused and no list names what there is more.
abbrev pub MayMakeBlock : (old new : Bench) → Result VastStatementBlock AllocError → Option Reset → List RegisterDefinition → Type 0
MayMakeBlock old new (Ok block) reset registers = (block ≡ next_block old) × (new ≡ with_register_block reset registers old)
MayMakeBlock old new (Err _) reset registers = HasUnused old new

-- What holds the block is older than it.
abbrev pub IsOlderScope : RegisterScope → VastStatementBlock → Type 0
IsOlderScope (ModuleScope owner) block = Unit {0}
IsOlderScope (LoopScope owner) block = owner.id.index < block.id.index
