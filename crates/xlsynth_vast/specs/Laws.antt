-- Laws of calls and of files.
use Rattle.std.specs.Prelude.{◌≡◌, ◌↔◌, ℕ, List, IfSome, slice_get}
use Rattle.vast_core.specs.declared.handle.VastModule.{VastModule}
use Rattle.vast_core.specs.declared.handle.VastFunction.{VastFunction}
use Rattle.vast_core.specs.Records.{ModuleRecord, IsFree}
use Rattle.vast_core.specs.declared.node.Port.{Port}
use Rattle.vast_core.specs.Nests.{FunctionRecord, declared_names as names_in_function}
use Rattle.vast_core.specs.Bench.{Bench}
use Rattle.vast_core.specs.DeclaredNames.{names_declared}
use Rattle.vast_core.specs.Sound.{AreDistinct}
use Rattle.vast_core.specs.FileTree.{families, family}
use Rattle.vast_core.specs.Hoisting.{with_hoisted}

-- Hoisting twice from one start is hoisting once.
abbrev pub HoistingAgain : Type 0
HoistingAgain = (owner : VastModule) (start : ℕ) (b : Bench) → with_hoisted owner start (with_hoisted owner start b) ≡ with_hoisted owner start b

-- Names that a module declares: those of its ports, its wires, regs, logics and variables, and its functions are pairwise distinct,
-- and they are the names that are taken in it.
pub record ModuleDeclaresDistinctly (ports : List Port) (functions : List FunctionRecord) (m : ModuleRecord) : Type 0 where
  pub distinct : AreDistinct (names_declared ports functions m)
  pub taken : (name : List ℕ) → IsFree name m.names ↔ IsFree name (names_declared ports functions m)

-- The names that the module declares are pairwise distinct, and they are those that are taken in it.
abbrev pub ModuleNamesAreDistinct : Bench → VastModule → Type 0
ModuleNamesAreDistinct b m = IfSome (slice_get b.modules m.id.index) (ModuleDeclaresDistinctly b.ports b.functions)

-- Names that a function declares: those of its result, its inputs and its locals are pairwise distinct, and they are the
-- names that are taken in it.
pub record FunctionDeclaresDistinctly (f : FunctionRecord) : Type 0 where
  pub distinct : AreDistinct (names_in_function f)
  pub taken : (name : List ℕ) → IsFree name f.names ↔ IsFree name (names_in_function f)

-- The names that the function declares are pairwise distinct, and they are those that are taken in it.
abbrev pub FunctionNamesAreDistinct : Bench → VastFunction → Type 0
FunctionNamesAreDistinct b f = IfSome (slice_get b.functions f.id.index) FunctionDeclaresDistinctly

-- A container's tree is made of the trees of what it holds.
abbrev pub ContainersUnfold : Bench → Type 0
ContainersUnfold b = (i : ℕ) → families b i ≡ family b (families b) (slice_get b.nests i)
