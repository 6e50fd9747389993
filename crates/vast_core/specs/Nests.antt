-- Containers, functions and always blocks in contracts: the records of their nodes. A statement is the node itself.
use Rattle.std.specs.Prelude.{ℕ, Bool, true, false, List, ◌∷◌, ◌++◌, map, Option, Some, None, string_bytes, String}
use Rattle.std.specs.declared.alloc.Global.{Global}
use Rattle.vast_core.specs.Handles.{Expr, LogicRef, VastDataType, VastStatementBlock}
use Rattle.vast_literal.specs.declared.kind.AlwaysKind.{AlwaysKind}
use Rattle.vast_literal.specs.declared.kind.CaseKind.{CaseKind}
-- A statement of a block names an assignment, a call or a container, which stays where it is; a loop has its parts in it.
pub use Rattle.vast_core.specs.declared.node.Statement.{Statement}
pub use Rattle.vast_core.specs.declared.node.Statement.TheVariants.{Assignment as AssignStatement, Continuous as ContinuousStatement, Task as TaskStatement, Conditional as ConditionalStatement, Case as CasesStatement, For as ForStatement, BlankLine as BlankStatement, Comment as CommentStatement, Inline as InlineStatement}
pub use Rattle.vast_core.specs.declared.node.ElseIf.{ElseIf}
pub use Rattle.vast_core.specs.declared.node.CaseArm.{CaseArm}
pub use Rattle.vast_core.specs.declared.node.ForParts.{ForParts}
use Rattle.vast_core.specs.declared.node.ConditionalNode.{ConditionalNode}
use Rattle.vast_core.specs.declared.node.CaseNode.{CaseNode}
use Rattle.vast_core.specs.declared.node.LoopNode.{LoopNode}
use Rattle.vast_core.specs.declared.node.Nest.{Nest}
use Rattle.vast_core.specs.declared.node.Nest.TheVariants.{Block as BlockNode, Conditional as ConditionalNest, Case as CaseNest, Loop as LoopNest}
-- A name that a function declares, an input or a local, is the node itself.
pub use Rattle.vast_core.specs.declared.node.FunctionVariable.{FunctionVariable}
use Rattle.vast_core.specs.declared.node.Function.{Function}
use Rattle.vast_core.specs.declared.node.AlwaysBlock.{AlwaysBlock}
use Rattle.vast_core.specs.Records.{Member, in_byte_order}

-- A conditional: its first arm, its arms `else if`, and its `else` where it has one.
pub record ConditionalRecord : Type 0 where
  pub condition : Expr
  pub consequent : VastStatementBlock
  pub else_ifs : List ElseIf
  pub otherwise : Option VastStatementBlock

-- A case statement: its word, whether it is unique, and its arms.
pub record CaseRecord : Type 0 where
  pub kind : CaseKind
  pub unique : Bool
  pub selector : Expr
  pub arms : List CaseArm

-- A generate loop; its variable runs from a start on while it is below an end.
pub record LoopRecord : Type 0 where
  pub genvar : LogicRef
  pub name : List ℕ
  pub start : Expr
  pub end : Expr
  pub label : Option (List ℕ)
  pub members : List Member

-- A container.
pub data NestRecord : Type 0 where
  BlockRecord : List Statement → NestRecord
  ConditionalNestRecord : ConditionalRecord → NestRecord
  CaseNestRecord : CaseRecord → NestRecord
  LoopNestRecord : LoopRecord → NestRecord

-- A function; the names of its result, inputs and locals are in byte order, each once.
pub record FunctionRecord : Type 0 where
  pub name : List ℕ
  pub result_type : VastDataType
  pub result_name : LogicRef
  pub inputs : List FunctionVariable
  pub locals : List FunctionVariable
  pub body : VastStatementBlock
  pub names : List (List ℕ)

abbrev pub variable_names : List FunctionVariable → List (List ℕ)
variable_names variables = map (λ v. v.name) variables

-- The names of the function's result, inputs and locals.
abbrev pub declared_names : FunctionRecord → List (List ℕ)
declared_names f = f.name ∷ (variable_names f.inputs ++ variable_names f.locals)

-- An always block: its kind, its events and its block.
pub record AlwaysRecord : Type 0 where
  pub kind : AlwaysKind
  pub events : List Expr
  pub block : VastStatementBlock

-- The records of nodes.

abbrev pub conditional_record : ConditionalNode → ConditionalRecord
conditional_record c = record { condition = c.condition; consequent = c.consequent; else_ifs = c.else_ifs.items; otherwise = c.otherwise }

abbrev pub case_record : CaseNode → CaseRecord
case_record c = record { kind = c.kind; unique = c.unique; selector = c.selector; arms = c.arms.items }

abbrev pub label_bytes : Option (String Global) → Option (List ℕ)
label_bytes None = None
label_bytes (Some text) = Some (string_bytes text)

abbrev pub loop_record : LoopNode → LoopRecord
loop_record l = record { genvar = l.genvar; name = string_bytes l.name; start = l.start; end = l.end; label = label_bytes l.label; members = l.members.items }

abbrev pub nest_record : Nest → NestRecord
nest_record (BlockNode statements) = BlockRecord statements.items
nest_record (ConditionalNest c) = ConditionalNestRecord (conditional_record c)
nest_record (CaseNest c) = CaseNestRecord (case_record c)
nest_record (LoopNest l) = LoopNestRecord (loop_record l.value)

abbrev pub function_record : Function → FunctionRecord
function_record f = record { name = string_bytes f.name; result_type = f.result_type; result_name = f.result; inputs = f.inputs.items; locals = f.locals.items; body = f.body; names = in_byte_order f.names }

abbrev pub always_record : AlwaysBlock → AlwaysRecord
always_record a = record { kind = a.kind; events = a.events.items; block = a.block }

-- Which kind of container a record is.
pub data NestKind : Type 0 where
  BlockKind ConditionalKind CaseStatementKind LoopKind NoKind : NestKind

abbrev pub nest_kind : Option NestRecord → NestKind
nest_kind None = NoKind
nest_kind (Some (BlockRecord statements)) = BlockKind
nest_kind (Some (ConditionalNestRecord c)) = ConditionalKind
nest_kind (Some (CaseNestRecord c)) = CaseStatementKind
nest_kind (Some (LoopNestRecord l)) = LoopKind

abbrev pub is_kind : (wanted : NestKind) → NestKind → Bool
is_kind BlockKind BlockKind = true
is_kind ConditionalKind ConditionalKind = true
is_kind CaseStatementKind CaseStatementKind = true
is_kind LoopKind LoopKind = true
is_kind _ _ = false
