-- In how many places each container, function and always block of a file stands: in one at most.
use Rattle.std.specs.Prelude.{ℕ, ◌≤◌, Bool, false, List, [], ◌∷◌, ◌++◌, length, flat_map, count_by, nat_eq, nat_lt, cond, Option, Some, None}
use Rattle.vast_core.specs.Handles.{VastStatementBlock}
use Rattle.vast_core.specs.Records.{Member, FunctionEntry, AlwaysEntry, ConditionalEntry, LoopEntry, ModuleRecord}
use Rattle.vast_core.specs.Nests.{CaseArm, ElseIf, Statement, ConditionalStatement, CasesStatement, ForStatement, ConditionalRecord, NestRecord, BlockRecord, ConditionalNestRecord, CaseNestRecord, LoopNestRecord, FunctionRecord, AlwaysRecord}
use Rattle.vast_core.specs.Bench.{Bench}

-- What stands in a place of the file: a container, a function or an always block, by its number among its like.
pub data Part : Type 0 where
  ContainerPart : ℕ → Part
  FunctionPart : ℕ → Part
  AlwaysPart : ℕ → Part

abbrev pub is_same : Part → Part → Bool
is_same (ContainerPart i) (ContainerPart j) = nat_eq i j
is_same (FunctionPart i) (FunctionPart j) = nat_eq i j
is_same (AlwaysPart i) (AlwaysPart j) = nat_eq i j
is_same _ _ = false

-- The parts that each holds directly: a statement, a member, an arm, a container, a function, an always block, a module.

abbrev pub held_by_statement : Statement → List Part
held_by_statement (ConditionalStatement c) = ContainerPart c.id.index ∷ []
held_by_statement (CasesStatement c) = ContainerPart c.id.index ∷ []
held_by_statement (ForStatement l) = ContainerPart l.block.id.index ∷ []
held_by_statement _ = []

abbrev pub held_by_member : Member → List Part
held_by_member (FunctionEntry f) = FunctionPart f.id.index ∷ []
held_by_member (AlwaysEntry a) = AlwaysPart a.id.index ∷ []
held_by_member (ConditionalEntry c) = ContainerPart c.id.index ∷ []
held_by_member (LoopEntry l) = ContainerPart l.id.index ∷ []
held_by_member _ = []

abbrev pub held_by_else_if : ElseIf → List Part
held_by_else_if a = ContainerPart a.block.id.index ∷ []

abbrev pub held_by_block : Option VastStatementBlock → List Part
held_by_block None = []
held_by_block (Some c) = ContainerPart c.id.index ∷ []

abbrev pub held_by_case_arm : CaseArm → List Part
held_by_case_arm a = ContainerPart a.block.id.index ∷ []

abbrev pub held_by_conditional : ConditionalRecord → List Part
held_by_conditional c = ContainerPart c.consequent.id.index ∷ (flat_map held_by_else_if c.else_ifs ++ held_by_block c.otherwise)

abbrev pub held_by_container : NestRecord → List Part
held_by_container (BlockRecord statements) = flat_map held_by_statement statements
held_by_container (ConditionalNestRecord c) = held_by_conditional c
held_by_container (CaseNestRecord c) = flat_map held_by_case_arm c.arms
held_by_container (LoopNestRecord l) = flat_map held_by_member l.members

abbrev pub held_by_function : FunctionRecord → List Part
held_by_function f = ContainerPart f.body.id.index ∷ []

abbrev pub held_by_always : AlwaysRecord → List Part
held_by_always a = ContainerPart a.block.id.index ∷ []

abbrev pub held_by_module : ModuleRecord → List Part
held_by_module m = flat_map held_by_member m.members

-- The parts that stand anywhere in the file; its detached block stands in a place of its own.
abbrev pub held : Bench → List Part
held b = flat_map held_by_container b.nests ++ (flat_map held_by_function b.functions ++ (flat_map held_by_always b.always_blocks ++ (flat_map held_by_module b.modules ++ held_by_block b.detached)))

-- In how many places a part stands.
abbrev pub places : Part → List Part → ℕ
places p parts = count_by (is_same p) parts

-- 1 for a part that the file has, 0 for another.
abbrev pub present : Bench → Part → ℕ
present b (ContainerPart i) = cond (nat_lt i (length b.nests)) 1 0
present b (FunctionPart i) = cond (nat_lt i (length b.functions)) 1 0
present b (AlwaysPart i) = cond (nat_lt i (length b.always_blocks)) 1 0

-- Each part of the file stands in at most one place, and nothing holds what the file does not have.
pub record HasOneParent (b : Bench) : Type 0 where
  pub once : (p : Part) → places p (held b) ≤ present b p
