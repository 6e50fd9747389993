-- What adding registers leaves: the equations of its steps, from value to member.
use Rattle.std.specs.Prelude.{◌≡◌, suc, Bool, true, List, [], ◌∷◌, length, Option, Some, None, Result, Ok, Err, string_bytes, if◌then◌else◌}
use Rattle.std.specs.List.{list_any}
use Rattle.vast_literal.specs.declared.error.VastFault.{VastFault}
use Rattle.vast_literal.specs.declared.error.VastFault.TheVariants.{Refused, Memory}
use Rattle.vast_literal.specs.declared.operator.UnaryOperator.TheVariants.{LogicalNot as LogicalNotOp}
use Rattle.vast_literal.specs.Tree.{PosEdgeTree, TernaryTree}
use Rattle.vast_core.specs.declared.handle.Expr.{Expr}
use Rattle.vast_core.specs.declared.handle.VastStatementBlock.{VastStatementBlock}
use Rattle.vast_literal.specs.declared.kind.AlwaysKind.TheVariants.{AlwaysFF}
use Rattle.vast_core.specs.declared.node.Member.{Member}
use Rattle.vast_core.specs.declared.node.Member.TheVariants.{Always as AlwaysEntry}
use Rattle.vast_core.specs.declared.node.Statement.TheVariants.{Assignment as AssignStatement, Conditional as ConditionalStatement}
use Rattle.vast_core.specs.Bench.{Bench, tree_of}
use Rattle.vast_core.specs.Growth.{next_id, next_expr, with_assignment, with_member, with_expr}
use Rattle.vast_core.specs.Artifacts.{next_statement}
use Rattle.vast_core.specs.Containers.{next_block, next_conditional, with_detached_block, with_statement, with_conditional, with_else}
use Rattle.vast_core.specs.Loops.{next_always, with_loop_member}
use Rattle.vast_core.specs.Unattached.{with_always_over}
use Rattle.vast_core.specs.FileTree.{member_tree}
use Rattle.xlsynth_vast.specs.declared.helpers.registers.Reset.{Reset}
use Rattle.xlsynth_vast.specs.declared.helpers.registers.RegisterDefinition.{RegisterDefinition}
use Rattle.xlsynth_vast.specs.declared.helpers.registers.RegisterScope.{RegisterScope}
use Rattle.xlsynth_vast.specs.declared.helpers.registers.RegisterScope.TheVariants.{Module as ModuleScope, GenerateLoop as LoopScope}
use Rattle.xlsynth_vast.specs.declared.helpers.registers.Share.{Share}
use Rattle.xlsynth_vast.specs.declared.helpers.registers.Share.TheVariants.{Unreset, AtReset, OutsideReset}
use Rattle.xlsynth_vast.specs.Expressions.{with_unary}
use Rattle.xlsynth_vast.specs.Registers.{is_given, unless_unresettable, maybe_reset_tree, register_trees, registers_member, HasUnused}

abbrev pub is_resettable : RegisterDefinition → Bool
is_resettable r = is_given r.reset_value

-- The value of a register outside of reset, and the file that has it: with an enable a choice more.

abbrev pub enabled_expr : Option Expr → (next : Expr) → Bench → Expr
enabled_expr None next b = next
enabled_expr (Some enable) next b = next_expr b

abbrev pub with_enabled : Option Expr → (next target : Expr) → Bench → Bench
with_enabled None next target b = b
with_enabled (Some enable) next target b = with_expr (TernaryTree (tree_of b enable) (tree_of b next) (tree_of b target)) b

abbrev pub running_expr : RegisterDefinition → Bench → Expr
running_expr r b = enabled_expr r.enable r.next b

abbrev pub with_running : RegisterDefinition → Bench → Bench
with_running r b = with_enabled r.enable r.next r.reg b

-- The value of a register in a share, if it has one there, and the file that has it.

abbrev pub value_expr : Share → RegisterDefinition → Bench → Option Expr
value_expr Unreset r b = if is_resettable r then None else Some (running_expr r b)
value_expr AtReset r b = r.reset_value
value_expr OutsideReset r b = if is_resettable r then Some (running_expr r b) else None

abbrev pub with_value : Share → RegisterDefinition → Bench → Bench
with_value Unreset r b = if is_resettable r then b else with_running r b
with_value AtReset r b = b
with_value OutsideReset r b = if is_resettable r then with_running r b else b

-- Nonblocking assignments at the end of a block: of a value, of the value of a register in a share, and of those of all
-- registers in turn.

abbrev pub with_given : VastStatementBlock → (target : Expr) → Option Expr → Bench → Bench
with_given block target None b = b
with_given block target (Some value) b = with_statement block (AssignStatement (next_statement b)) (with_assignment (record { lhs = target; rhs = value; nonblocking = true }) b)

-- An assignment more in the block: what the register takes in this part of it.
unfoldable pub with_assigned : Share → VastStatementBlock → RegisterDefinition → Bench → Bench
with_assigned share block r b = with_given block r.reg (value_expr share r b) (with_value share r b)

abbrev pub with_all_assigned : Share → VastStatementBlock → List RegisterDefinition → Bench → Bench
with_all_assigned share block [] b = b
with_all_assigned share block (r ∷ rs) b = with_all_assigned share block rs (with_assigned share block r b)

-- The condition of a reset, and the file that has it: for active low a `!` more.

abbrev pub active_expr : Reset → Bench → Expr
active_expr reset b = if reset.active_low then next_expr b else reset.signal

abbrev pub with_active : Reset → Bench → Bench
with_active reset b = if reset.active_low then with_unary LogicalNotOp reset.signal b else b

-- A conditional at the end of a block, its first block, and its `else` with the second.

unfoldable pub with_if : Expr → VastStatementBlock → Bench → Bench
with_if condition block b = with_statement block (ConditionalStatement (next_conditional b)) (with_conditional condition b)

abbrev pub first_block : Bench → VastStatementBlock
first_block b = record { id = next_id b (suc (length b.nests)) }

abbrev pub second_block : Expr → VastStatementBlock → Bench → VastStatementBlock
second_block condition block b = next_block (with_if condition block b)

abbrev pub with_if_else : Expr → VastStatementBlock → Bench → Bench
with_if_else condition block b = with_else (next_conditional b) (with_if condition block b)

-- The conditional of a reset: its first block assigns the reset values, its second the values outside of reset.

-- The conditional of a reset with its two blocks: reset values, and values outside of reset.
unfoldable pub with_branches : (condition : Expr) → List RegisterDefinition → VastStatementBlock → Bench → Bench
with_branches condition registers block b =
    with_all_assigned OutsideReset (second_block condition block b) registers (with_all_assigned AtReset (first_block b) registers (with_if_else condition block b))

abbrev pub with_reset : Reset → List RegisterDefinition → VastStatementBlock → Bench → Bench
with_reset reset registers block b = with_branches (active_expr reset b) registers block (with_active reset b)

abbrev pub with_maybe_reset : Option Reset → List RegisterDefinition → VastStatementBlock → Bench → Bench
with_maybe_reset None registers block b = b
with_maybe_reset (Some reset) registers block b = if list_any is_resettable registers then with_reset reset registers block b else b

-- The block of the registers, which is the file's detached one.
unfoldable pub with_register_block : Option Reset → List RegisterDefinition → Bench → Bench
with_register_block reset registers b =
    with_maybe_reset reset registers (next_block b) (with_all_assigned Unreset (next_block b) registers (with_detached_block b))

-- A member more at the end of the scope's members.
abbrev pub with_last_member : RegisterScope → Member → Bench → Bench
with_last_member (ModuleScope owner) entry b = with_member owner entry b
with_last_member (LoopScope owner) entry b = with_loop_member owner entry b

-- An always block of this event over the block, last in its scope.
abbrev pub with_clocked : RegisterScope → (event : Expr) → VastStatementBlock → Bench → Bench
with_clocked scope event block b = with_last_member scope (AlwaysEntry (next_always b)) (with_always_over AlwaysFF (event ∷ []) block b)

-- The same at the rising edge of the clock.
abbrev pub with_clocked_at : (clk : Expr) → RegisterScope → VastStatementBlock → Bench → Bench
with_clocked_at clk scope block b = with_clocked scope (next_expr b) block (with_expr (PosEdgeTree (tree_of b clk)) b)

-- The file with the always block of these registers.
unfoldable pub with_registers : (clk : Expr) → Option Reset → List RegisterDefinition → RegisterScope → Bench → Bench
with_registers clk reset registers scope b = with_clocked_at clk scope (next_block b) (with_register_block reset registers b)

-- All else is as before: the file has an always block more, last in its scope, and what no list names.
pub record AddsOneAlways (old new : Bench) (scope : RegisterScope) : Type 0 where
  pub between : Bench
  pub unused : HasUnused old between
  pub event : Expr
  pub block : VastStatementBlock
  pub after : new ≡ with_clocked scope event block between

-- The file has one always block more, whose tree is this.
pub record AddsRegisters (old new : Bench) (clk : Expr) (reset : Option Reset) (registers : List RegisterDefinition) (scope : RegisterScope) : Type 0 where
  pub allowed : unless_unresettable (maybe_reset_tree old reset) (register_trees old registers) ≡ Ok tt
  pub after : new ≡ with_registers clk reset registers scope old
  pub frame : AddsOneAlways old new scope
  pub tree : member_tree new (AlwaysEntry (next_always old)) ≡ registers_member (tree_of old clk) (maybe_reset_tree old reset) (register_trees old registers)

-- No registers change nothing. Others add their member, or are refused as the rule says, and nothing changed, or want memory.
abbrev pub MayAddRegisters : (old new : Bench) → Result (Unit {0}) VastFault → (clk : Expr) → Option Reset → List RegisterDefinition → RegisterScope → Type 0
MayAddRegisters old new (Ok _) clk reset [] scope = new ≡ old
MayAddRegisters old new (Ok _) clk reset (r ∷ rs) scope = AddsRegisters old new clk reset (r ∷ rs) scope
MayAddRegisters old new (Err (Refused e)) clk reset registers scope = (unless_unresettable (maybe_reset_tree old reset) (register_trees old registers) ≡ Err (string_bytes e.0)) × (new ≡ old)
MayAddRegisters old new (Err (Memory e)) clk reset registers scope = HasUnused old new
