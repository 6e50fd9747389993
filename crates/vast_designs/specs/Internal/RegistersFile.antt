-- The file of the registers from part to part, and the handles in it.
use Rattle.std.specs.Prelude.{ℕ, pos, false, Some, None, codes}
use Rattle.vast_literal.specs.Tree.{LiteralTree, ScalarTree}
use Rattle.vast_core.specs.declared.handle.Id.{Id}
use Rattle.vast_core.specs.declared.handle.Expr.{Expr}
use Rattle.vast_core.specs.declared.handle.VastModule.{VastModule}
use Rattle.vast_core.specs.declared.handle.VastDataType.{VastDataType}
use Rattle.vast_core.specs.declared.handle.LogicRef.{LogicRef}
use Rattle.vast_literal.specs.declared.kind.VastFileType.TheVariants.{SystemVerilog}
use Rattle.vast_literal.specs.declared.kind.ModulePortDirection.TheVariants.{Input}
use Rattle.vast_literal.specs.declared.kind.DataKind.TheVariants.{Wire, Logic}
use Rattle.vast_core.specs.Bench.{Bench, start}
use Rattle.vast_core.specs.Growth.{with_module, with_port, with_declaration, with_expr, with_type}
use Rattle.xlsynth_vast.specs.declared.helpers.registers.RegisterDefinition.{RegisterDefinition}
use Rattle.xlsynth_vast.specs.Equations.{with_bit_vector}
use Rattle.vast_designs.specs.declared.clocked.Signals.{Signals}
use Rattle.vast_designs.specs.declared.clocked.State.{State}
use Rattle.vast_designs.specs.declared.clocked.Values.{Values}

-- The handles that the calls return, in a file of id 1.

abbrev id : ℕ → Id
id i = record { file_id = 1; index = i }

abbrev pub the_module : VastModule
the_module = record { id = id 0 }

abbrev pub bit : VastDataType
bit = record { id = id 0 }

abbrev pub clock : LogicRef
clock = record { id = id 1 }

abbrev pub reset : LogicRef
reset = record { id = id 2 }

abbrev pub enable : LogicRef
enable = record { id = id 3 }

abbrev pub the_signals : Signals
the_signals = record { owner = the_module; clock = clock; reset = reset; enable = enable }

abbrev pub byte : VastDataType
byte = record { id = id 5 }

abbrev pub first : LogicRef
first = record { id = id 6 }

abbrev pub first_next : LogicRef
first_next = record { id = id 7 }

abbrev pub second : LogicRef
second = record { id = id 8 }

abbrev pub second_next : LogicRef
second_next = record { id = id 9 }

abbrev pub the_state : State
the_state = record { first = first; first_next = first_next; second = second; second_next = second_next }

abbrev pub first_value : Expr
first_value = record { id = id 10 }

abbrev pub second_value : Expr
second_value = record { id = id 11 }

abbrev pub the_values : Values
the_values = record { first = first_value; second = second_value }

-- The two registers.

-- The register with an enable.
abbrev pub enabled : Signals → State → Values → RegisterDefinition
enabled signals state values = record { reg = record { id = state.first.id }; next = record { id = state.first_next.id }; reset_value = Some values.first; enable = Some (record { id = signals.enable.id }) }

-- The register without one.
abbrev pub plain : State → Values → RegisterDefinition
plain state values = record { reg = record { id = state.second.id }; next = record { id = state.second_next.id }; reset_value = Some values.second; enable = None }

-- The file after each part, before the registers are added.

-- The file of `registers` after its ports were made.
unfoldable pub signals_made : Bench
signals_made =
    with_port the_module Input Wire (codes "en") bit
    (with_port the_module Input Wire (codes "rst") bit
    (with_port the_module Input Wire (codes "clk") bit (with_type (ScalarTree false) (with_module (codes "regs_rst_en") (start SystemVerilog 1)))))

-- The file of `registers` after its variables were made.
unfoldable pub state_made : Bench
state_made =
    with_declaration the_module Logic (codes "r2_next") byte
    (with_declaration the_module Logic (codes "r2") byte
    (with_declaration the_module Logic (codes "r_next") byte (with_declaration the_module Logic (codes "r") byte (with_bit_vector (pos 8) false signals_made))))

-- The file of `registers` after its reset values were made.
unfoldable pub values_made : Bench
values_made = with_expr (LiteralTree (codes "8'h55") (Some (pos 85))) (with_expr (LiteralTree (codes "8'haa") (Some (pos 170))) state_made)
