-- What inspections read off a file.
use Rattle.std.specs.Prelude.{ℕ, ℤ, pos, ◌^◌, int_lt, Bool, true, false, List, [], filter, Option, Some, None, option_map, slice_get, if◌then◌else◌}
use Rattle.vast_literal.specs.Tree.{ExprTree, NameTree}
use Rattle.vast_core.specs.declared.handle.VastModule.{VastModule}
use Rattle.vast_core.specs.declared.handle.ModulePort.{ModulePort}
use Rattle.vast_core.specs.declared.handle.VastDataType.{VastDataType}
use Rattle.vast_core.specs.declared.handle.LogicRef.{LogicRef}
use Rattle.vast_core.specs.declared.handle.VastFunction.{VastFunction}
use Rattle.vast_core.specs.declared.handle.VastAlwaysBase.{VastAlwaysBase}
use Rattle.vast_core.specs.declared.handle.VastStatementBlock.{VastStatementBlock}
use Rattle.vast_core.specs.declared.handle.Conditional.{Conditional}
use Rattle.vast_core.specs.declared.handle.GenerateLoop.{GenerateLoop}
use Rattle.vast_literal.specs.declared.kind.ModulePortDirection.{ModulePortDirection}
use Rattle.vast_literal.specs.declared.kind.ModulePortDirection.TheVariants.{Input, Output, InOut}
use Rattle.vast_core.specs.Records.{ModuleRecord}
use Rattle.vast_core.specs.declared.node.Port.{Port}
use Rattle.vast_core.specs.declared.node.Member.{Member}
use Rattle.vast_core.specs.Nests.{NestRecord, ConditionalNestRecord, LoopNestRecord, FunctionRecord, AlwaysRecord}
use Rattle.vast_core.specs.BitCount.{bit_count}
use Rattle.vast_core.specs.Hoisting.{members_of}
use Rattle.vast_core.specs.Bench.{Bench, tree_of, type_of}

-- The members of a module, in order.
abbrev pub members_in : Bench → VastModule → List Member
members_in b m = members_of (slice_get b.modules m.id.index)

-- The ports of a module, in order.
abbrev pub ports_of : Option ModuleRecord → List ModulePort
ports_of None = []
ports_of (Some m) = m.ports

-- The module's ports, in order.
abbrev pub ports_in : Bench → VastModule → List ModulePort
ports_in b m = ports_of (slice_get b.modules m.id.index)

-- What the record of a port holds.
abbrev pub port_at : Bench → ModulePort → Option Port
port_at b p = slice_get b.ports p.id.index

abbrev pub name_at : Bench → ModulePort → Option (List ℕ)
name_at b p = option_map (λ (r : Port). r.name) (port_at b p)

abbrev pub direction_at : Bench → ModulePort → Option ModulePortDirection
direction_at b p = option_map (λ (r : Port). r.direction) (port_at b p)

abbrev pub type_at : Bench → ModulePort → Option VastDataType
type_at b p = option_map (λ (r : Port). r.data_type) (port_at b p)

abbrev pub logic_ref_at : Bench → ModulePort → Option LogicRef
logic_ref_at b p = option_map (λ (r : Port). r.logic_ref) (port_at b p)

-- Whether a port has this direction.
abbrev pub is_direction : ModulePortDirection → Option ModulePortDirection → Bool
is_direction Input (Some Input) = true
is_direction Output (Some Output) = true
is_direction InOut (Some InOut) = true
is_direction _ _ = false

-- The module's ports of this direction, in order.
abbrev pub ports_towards : ModulePortDirection → Bench → VastModule → List ModulePort
ports_towards direction b m = filter (λ p. is_direction direction (direction_at b p)) (ports_in b m)

-- The bits of a type where they are known and a signed number of 64 bits can be them, else 0.
abbrev pub known_bits : Option ℤ → ℤ
known_bits None = pos 0
known_bits (Some n) = if int_lt n (pos (2 ^ 63)) then n else pos 0

-- The bits of the port's type, or 0 where they aren't known or are 2^63 or more.
abbrev pub width_at : Bench → ModulePort → Option ℤ
width_at b p = option_map (λ t. known_bits (bit_count (type_of b t))) (type_at b p)

-- The name that an expression is, where it is one.
abbrev pub named : ExprTree → Option (List ℕ)
named (NameTree name type) = Some name
named _ = None

-- The name that the handle is.
abbrev pub name_of_ref : Bench → LogicRef → Option (List ℕ)
name_of_ref b r = named (tree_of b (record { id = r.id }))

-- The body of a function, and its result's name as an expression.
abbrev pub body_at : Bench → VastFunction → Option VastStatementBlock
body_at b f = option_map (λ (r : FunctionRecord). r.body) (slice_get b.functions f.id.index)

abbrev pub result_at : Bench → VastFunction → Option LogicRef
result_at b f = option_map (λ (r : FunctionRecord). r.result_name) (slice_get b.functions f.id.index)

-- The block of an always block.
abbrev pub block_at : Bench → VastAlwaysBase → Option VastStatementBlock
block_at b a = option_map (λ (r : AlwaysRecord). r.block) (slice_get b.always_blocks a.id.index)

-- The block of a conditional's first arm.
abbrev pub first_block : Option NestRecord → Option VastStatementBlock
first_block (Some (ConditionalNestRecord c)) = Some c.consequent
first_block _ = None

-- The block of the conditional's first arm.
abbrev pub then_block_at : Bench → Conditional → Option VastStatementBlock
then_block_at b c = first_block (slice_get b.nests c.id.index)

-- The variable of a loop, as an expression.
abbrev pub variable_of : Option NestRecord → Option LogicRef
variable_of (Some (LoopNestRecord l)) = Some l.genvar
variable_of _ = None

-- The loop's variable, as an expression.
abbrev pub genvar_at : Bench → GenerateLoop → Option LogicRef
genvar_at b l = variable_of (slice_get b.nests l.id.index)
