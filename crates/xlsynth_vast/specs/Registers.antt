-- Registers: the always block that a call makes of them, and the values that they take by it.
use Rattle.std.specs.Prelude.{◌≡◌, ℕ, Bool, true, false, IsTrue, not, nat_eq, List, [], ◌∷◌, ◌++◌, map, Option, Some, None, option_map, slice_get, Result, Ok, Err, codes, if◌then◌else◌, IfSome}
use Rattle.std.specs.List.{flat_map, list_any}
use Rattle.std.specs.Cmp.Lexicographic.{pointwise}
use Rattle.vast_literal.specs.Tree.{ExprTree, NameTree, UnaryTree, TernaryTree, PosEdgeTree, MoreExprs, NoExprs, StatementTree, AssignTree, ConditionalTree, Statements, NoStatements, MoreStatements, Alternates, NoElse, ElseIf, Else, MemberTree, AlwaysMember}
use Rattle.vast_literal.specs.declared.operator.UnaryOperator.TheVariants.{LogicalNot as LogicalNotOp}
use Rattle.vast_literal.specs.declared.kind.AssignmentForm.TheVariants.{Nonblocking}
use Rattle.vast_literal.specs.declared.kind.AlwaysKind.TheVariants.{AlwaysFF as AlwaysFFWord}
use Rattle.vast_core.specs.declared.handle.VastStatementBlock.{VastStatementBlock}
use Rattle.vast_core.specs.declared.node.Assignment.{Assignment}
use Rattle.vast_core.specs.Nodes.{Root, is_name}
use Rattle.vast_core.specs.Nests.{NestRecord}
use Rattle.vast_core.specs.Bench.{Bench, OwnsExpr, OwnsModule, OwnsLoop, tree_of}
use Rattle.vast_core.specs.Sound.{AreDistinct}
use Rattle.xlsynth_vast.specs.declared.helpers.registers.Reset.{Reset}
use Rattle.xlsynth_vast.specs.declared.helpers.registers.RegisterDefinition.{RegisterDefinition}
use Rattle.xlsynth_vast.specs.declared.helpers.registers.RegisterScope.{RegisterScope}
use Rattle.xlsynth_vast.specs.declared.helpers.registers.RegisterScope.TheVariants.{Module as ModuleScope, GenerateLoop as LoopScope}

-- A register: what is assigned to, its next value, its reset value where it has one, and its enable where it has one.
pub record RegisterTree : Type 0 where
  pub target : ExprTree
  pub next : ExprTree
  pub reset_value : Option ExprTree
  pub enable : Option ExprTree

-- The signal of a reset, which is active where the signal holds, or, for active low, where it doesn't.
pub record ResetTree : Type 0 where
  pub signal : ExprTree
  pub active_low : Bool

abbrev pub register_tree : Bench → RegisterDefinition → RegisterTree
register_tree b r = record { target = tree_of b r.reg; next = tree_of b r.next; reset_value = option_map (tree_of b) r.reset_value; enable = option_map (tree_of b) r.enable }

abbrev pub register_trees : Bench → List RegisterDefinition → List RegisterTree
register_trees b registers = map (register_tree b) registers

abbrev pub reset_tree : Bench → Reset → ResetTree
reset_tree b r = record { signal = tree_of b r.signal; active_low = r.active_low }

abbrev pub maybe_reset_tree : Bench → Option Reset → Option ResetTree
maybe_reset_tree b reset = option_map (reset_tree b) reset

-- The statements.

abbrev pub is_given : {A : Type 0} → Option A → Bool
is_given None = false
is_given (Some x) = true

abbrev pub has_reset_value : RegisterTree → Bool
has_reset_value r = is_given r.reset_value

-- A reset value asks for a reset.
abbrev pub unless_unresettable : Option ResetTree → List RegisterTree → Result (Unit {0}) (List ℕ)
unless_unresettable (Some reset) registers = Ok tt
unless_unresettable None registers = if list_any has_reset_value registers then Err (codes "reset signal is required when a register has a reset value") else Ok tt

-- The value outside of reset: the next value, or where the enable doesn't hold the register itself.
abbrev pub enabled_value : Option ExprTree → (next target : ExprTree) → ExprTree
enabled_value None next target = next
enabled_value (Some enable) next target = TernaryTree enable next target

abbrev pub running_value : RegisterTree → ExprTree
running_value r = enabled_value r.enable r.next r.target

-- Which value a list of assignments gives to a register, if any: one to the registers without reset values, and to the others
-- one at reset and one outside of it.

abbrev pub unreset_value : RegisterTree → Option ExprTree
unreset_value r = if has_reset_value r then None else Some (running_value r)

abbrev pub value_at_reset : RegisterTree → Option ExprTree
value_at_reset r = r.reset_value

abbrev pub value_outside_reset : RegisterTree → Option ExprTree
value_outside_reset r = if has_reset_value r then Some (running_value r) else None

abbrev pub given : ExprTree → Option ExprTree → List StatementTree
given target None = []
given target (Some value) = AssignTree Nonblocking target value ∷ []

-- The assignments of these values, in the order of the registers.
abbrev pub assigned_all : (RegisterTree → Option ExprTree) → List RegisterTree → List StatementTree
assigned_all value registers = flat_map (λ r. given r.target (value r)) registers

abbrev pub block_of : List StatementTree → Statements
block_of [] = NoStatements
block_of (s ∷ ss) = MoreStatements s (block_of ss)

abbrev pub active_tree : ResetTree → ExprTree
active_tree reset = if reset.active_low then UnaryTree LogicalNotOp reset.signal else reset.signal

-- What stands after the assignments of the registers without reset values: `if (signal) .. else ..`, where a register has
-- one.
abbrev pub by_reset : Option ResetTree → List RegisterTree → List StatementTree
by_reset None registers = []
by_reset (Some reset) registers =
    if list_any has_reset_value registers then
    ConditionalTree (active_tree reset) (block_of (assigned_all value_at_reset registers)) (Else (block_of (assigned_all value_outside_reset registers))) ∷ []
    else []

-- The block of these registers, and the member whose block it is.
abbrev pub register_block : Option ResetTree → List RegisterTree → Statements
register_block reset registers = block_of (assigned_all unreset_value registers ++ by_reset reset registers)

-- The always block of the registers, at the rising edge of the clock.
abbrev pub registers_member : (clk : ExprTree) → Option ResetTree → List RegisterTree → MemberTree
registers_member clk reset registers = AlwaysMember AlwaysFFWord (MoreExprs (PosEdgeTree clk) NoExprs) (register_block reset registers)

-- What the statements mean. A set of trees says which of them hold: it is given by its test.

-- Whether a tree holds, by the set of those that do.
abbrev pub is_true : (ExprTree → Bool) → ExprTree → Bool
is_true v (UnaryTree LogicalNotOp operand) = not (is_true v operand)
is_true v (TernaryTree condition consequent alternate) = if is_true v condition then is_true v consequent else is_true v alternate
is_true v e = v e

-- A ternary is settled by its condition; any other tree is settled.
abbrev pub settle : (ExprTree → Bool) → ExprTree → ExprTree
settle v (TernaryTree condition consequent alternate) = if is_true v condition then settle v consequent else settle v alternate
settle v e = e

abbrev pub is_named : List ℕ → ExprTree → Bool
is_named name (NameTree other type) = pointwise nat_eq name other
is_named name _ = false

-- The settled right side of the last assignment to the name on the path through a block that the set takes; before the
-- block it was this. Which arm of a case statement is taken isn't said.
abbrev mutual
  pub assigned_in : (ExprTree → Bool) → (name : List ℕ) → Statements → (before : Option ExprTree) → Option ExprTree
  assigned_in v name NoStatements before = before
  assigned_in v name (MoreStatements s ss) before = assigned_in v name ss (assigned_by v name s before)

  pub assigned_by : (ExprTree → Bool) → (name : List ℕ) → StatementTree → (before : Option ExprTree) → Option ExprTree
  assigned_by v name (AssignTree form left right) before = if is_named name left then Some (settle v right) else before
  assigned_by v name (ConditionalTree condition consequent alternates) before = if is_true v condition then assigned_in v name consequent before else assigned_else v name alternates before
  assigned_by v name _ before = before

  pub assigned_else : (ExprTree → Bool) → (name : List ℕ) → Alternates → (before : Option ExprTree) → Option ExprTree
  assigned_else v name NoElse before = before
  assigned_else v name (ElseIf condition block alternates) before = if is_true v condition then assigned_in v name block before else assigned_else v name alternates before
  assigned_else v name (Else block) before = assigned_in v name block before

-- The last value that the block assigns to the name, by the set of trees that hold.
abbrev pub assigned : (ExprTree → Bool) → Statements → (name : List ℕ) → Option ExprTree
assigned v block name = assigned_in v name block None

-- What a register takes: its reset value where reset is active and it has one, else its next value where it has no enable or
-- the enable holds, else itself.

abbrev pub is_active : (ExprTree → Bool) → Option ResetTree → Bool
is_active v None = false
is_active v (Some reset) = if reset.active_low then not (is_true v reset.signal) else is_true v reset.signal

abbrev pub is_enabled : (ExprTree → Bool) → Option ExprTree → Bool
is_enabled v None = true
is_enabled v (Some enable) = is_true v enable

abbrev pub next_value_outside : (ExprTree → Bool) → RegisterTree → ExprTree
next_value_outside v r = if is_enabled v r.enable then settle v r.next else r.target

abbrev pub next_value_with : (ExprTree → Bool) → Option ExprTree → (active : Bool) → RegisterTree → ExprTree
next_value_with v (Some value) true r = settle v value
next_value_with v (Some value) false r = next_value_outside v r
next_value_with v None active r = next_value_outside v r

-- The value that the register is to take.
abbrev pub next_value : (ExprTree → Bool) → Option ResetTree → RegisterTree → ExprTree
next_value v reset r = next_value_with v r.reset_value (is_active v reset) r

abbrev pub name_in : ExprTree → List ℕ
name_in (NameTree name type) = name
name_in _ = []

-- Registers are told apart by their names.
pub record AreDistinctRegisters (registers : List RegisterTree) : Type 0 where
  pub named : (i : ℕ) (r : RegisterTree) → slice_get registers i ≡ Some r → IsTrue (is_name r.target)
  pub distinct : AreDistinct (map (λ r. name_in r.target) registers)

-- Whatever holds, each of the registers takes its value by their block.
abbrev pub TakeTheirValues : Option ResetTree → List RegisterTree → Type 0
TakeTheirValues reset registers =
    AreDistinctRegisters registers → (v : ExprTree → Bool) (i : ℕ) (r : RegisterTree) → slice_get registers i ≡ Some r →
    assigned v (register_block reset registers) (name_in r.target) ≡ Some (next_value v reset r)

-- Registers of distinct names take their values by their block, whatever holds.
abbrev pub RegistersTakeTheirValues : Type 0
RegistersTakeTheirValues = (reset : Option ResetTree) (registers : List RegisterTree) → unless_unresettable reset registers ≡ Ok tt → TakeTheirValues reset registers

-- What a call leaves.

abbrev pub OwnsRegister : Bench → RegisterDefinition → Type 0
OwnsRegister b r = OwnsExpr b r.reg × OwnsExpr b r.next × IfSome r.reset_value (OwnsExpr b) × IfSome r.enable (OwnsExpr b)

abbrev pub OwnsReset : Bench → Reset → Type 0
OwnsReset b reset = OwnsExpr b reset.signal

abbrev pub OwnsScope : Bench → RegisterScope → Type 0
OwnsScope b (ModuleScope owner) = OwnsModule b owner
OwnsScope b (LoopScope owner) = OwnsLoop b owner

-- The file has these expressions, assignments and containers more, which no list names, and perhaps another detached block. All
-- else is as it was.
abbrev pub with_unused : List Root → List Assignment → List NestRecord → Option VastStatementBlock → Bench → Bench
with_unused roots assignments containers detached b =
    record b {
      nodes = record { id = b.nodes.id; roots = b.nodes.roots ++ roots };
      assignments = b.assignments ++ assignments;
      nests = b.nests ++ containers;
      detached = detached;
    }

-- The file has nodes and containers more that no list names, and perhaps another detached block.
pub record HasUnused (old new : Bench) : Type 0 where
  pub roots : List Root
  pub assignments : List Assignment
  pub containers : List NestRecord
  pub detached : Option VastStatementBlock
  pub after : new ≡ with_unused roots assignments containers detached old
