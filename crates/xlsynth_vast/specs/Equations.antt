-- The equations of calls whose result depends on more than the arena: what they return, and what they leave.
use Rattle.std.specs.Prelude.{ℕ, ℤ, pos, Bool, false, List, [], Option, Some, None, slice_get, cond, ◌==◌}
use Rattle.vast_literal.specs.Tree.{ScalarTree}
use Rattle.vast_core.specs.declared.handle.VastDataType.{VastDataType}
use Rattle.vast_core.specs.declared.handle.VastModule.{VastModule}
use Rattle.vast_core.specs.Records.{ModuleRecord}
use Rattle.vast_core.specs.Bench.{Bench}
use Rattle.vast_core.specs.Growth.{next_type, next_vector, with_type, with_vector}

abbrev pub is_one : ℤ → Bool
is_one (pos n) = n == 1
is_one _ = false

-- one bit is a scalar, more are a vector after the literal of its width
abbrev pub next_bit_vector : ℤ → Bench → VastDataType
next_bit_vector bits b = cond (is_one bits) (next_type b) (next_vector bits b)

-- A type of so many bits: one bit is a scalar, more are a vector after the literal of its width.
abbrev pub with_bit_vector : ℤ → Bool → Bench → Bench
with_bit_vector bits signed b = cond (is_one bits) (with_type (ScalarTree signed) b) (with_vector bits signed b)

abbrev pub record_name : Option ModuleRecord → List ℕ
record_name None = []
record_name (Some m) = m.name

-- the name of a module
abbrev pub name_of : Bench → VastModule → List ℕ
name_of b m = record_name (slice_get b.modules m.id.index)
