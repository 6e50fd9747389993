-- What a file holds after a call that adds to a container, or to a module what holds containers.
use Rattle.std.specs.Prelude.{ℕ, suc, Bool, true, false, List, [], ◌∷◌, ◌++◌, length, Option, Some, None}
use Rattle.vast_core.specs.Handles.{Expr, VastStatementBlock, Conditional, CaseStatement}
use Rattle.vast_literal.specs.declared.kind.CaseKind.{CaseKind}
use Rattle.vast_core.specs.Records.{Member, changed_at}
use Rattle.vast_core.specs.Nests.{CaseArm, ElseIf, Statement, ForStatement, NestRecord, BlockRecord, ConditionalNestRecord, CaseNestRecord, LoopNestRecord}
use Rattle.vast_core.specs.Bench.{Bench}
use Rattle.vast_core.specs.Growth.{next_id}

-- A new entry of a container.
pub data NestedEntry : Type 0 where
  StatementEnters : Statement → NestedEntry
  ElseIfEnters : ElseIf → NestedEntry
  ElseEnters : VastStatementBlock → NestedEntry
  CaseArmEnters : CaseArm → NestedEntry
  MemberEnters : Member → NestedEntry

-- The container with the entry at its end; one that holds no such entries stays.
abbrev pub with_entry : NestedEntry → NestRecord → NestRecord
with_entry (StatementEnters s) (BlockRecord statements) = BlockRecord (statements ++ s ∷ [])
with_entry (ElseIfEnters a) (ConditionalNestRecord c) = ConditionalNestRecord (record c { else_ifs = c.else_ifs ++ a ∷ [] })
with_entry (ElseEnters b) (ConditionalNestRecord c) = ConditionalNestRecord (record c { otherwise = Some b })
with_entry (CaseArmEnters a) (CaseNestRecord c) = CaseNestRecord (record c { arms = c.arms ++ a ∷ [] })
with_entry (MemberEnters m) (LoopNestRecord l) = LoopNestRecord (record l { members = l.members ++ m ∷ [] })
with_entry entry nest = nest

abbrev pub next_block : Bench → VastStatementBlock
next_block b = record { id = next_id b (length b.nests) }

abbrev pub next_conditional : Bench → Conditional
next_conditional b = record { id = next_id b (length b.nests) }

abbrev pub next_case : Bench → CaseStatement
next_case b = record { id = next_id b (length b.nests) }

abbrev pub with_nest : NestRecord → Bench → Bench
with_nest n b = record b { nests = b.nests ++ n ∷ [] }

-- An empty block, which nothing holds yet.
abbrev pub with_block : Bench → Bench
with_block b = with_nest (BlockRecord []) b

-- An empty block, which is the file's detached one.
abbrev pub with_detached_block : Bench → Bench
with_detached_block b = record (with_block b) { detached = Some (next_block b) }

-- A conditional and its first arm, an empty block.
abbrev pub new_conditional : Bench → Expr → NestRecord
new_conditional b condition = ConditionalNestRecord (record { condition = condition; consequent = record { id = next_id b (suc (length b.nests)) }; else_ifs = []; otherwise = None })

-- A conditional more, whose first arm has an empty block.
abbrev pub with_conditional : Expr → Bench → Bench
with_conditional condition b = with_block (with_nest (new_conditional b condition) b)

-- A case statement without arms.
abbrev pub new_case : CaseKind → Expr → NestRecord
new_case kind selector = CaseNestRecord (record { kind = kind; unique = false; selector = selector; arms = [] })

-- A case statement more, without arms.
abbrev pub with_case : CaseKind → Expr → Bench → Bench
with_case kind selector b = with_nest (new_case kind selector) b

-- A container with an entry more.
abbrev pub with_nest_entry : ℕ → NestedEntry → Bench → Bench
with_nest_entry place entry b = record b { nests = changed_at place (with_entry entry) b.nests }

-- A statement more, at the end of the block.
abbrev pub with_statement : VastStatementBlock → Statement → Bench → Bench
with_statement owner s b = with_nest_entry owner.id.index (StatementEnters s) b

-- An arm more, with an empty block.
abbrev pub with_else_if : Conditional → Expr → Bench → Bench
with_else_if owner condition b = with_nest_entry owner.id.index (ElseIfEnters (record { condition = condition; block = next_block b })) (with_block b)

-- The conditional's `else`, with an empty block.
abbrev pub with_else : Conditional → Bench → Bench
with_else owner b = with_nest_entry owner.id.index (ElseEnters (next_block b)) (with_block b)

-- An arm more of the case statement, with an empty block; without a label it is `default`.
abbrev pub with_case_arm : CaseStatement → Option Expr → Bench → Bench
with_case_arm owner label b = with_nest_entry owner.id.index (CaseArmEnters (record { label = label; block = next_block b })) (with_block b)

-- A loop more at the end of the block, with an empty block.
abbrev pub with_for : VastStatementBlock → (index : List ℕ) (start end : Expr) → Bench → Bench
with_for owner index start end b = with_statement owner (ForStatement (record { index = index; start = start; end = end; block = next_block b })) (with_block b)

-- The conditional has an `else`.
abbrev pub has_else : Option NestRecord → Bool
has_else (Some (ConditionalNestRecord c)) = elim c.otherwise [ Some block ↦ true | None ↦ false ]
has_else _ = false

-- The case statement, `unique` or not.
abbrev pub with_unique : Bool → NestRecord → NestRecord
with_unique unique (CaseNestRecord c) = CaseNestRecord (record c { unique = unique })
with_unique unique nest = nest

-- The case statement is `unique`, or not.
abbrev pub with_case_unique : CaseStatement → Bool → Bench → Bench
with_case_unique c unique b = record b { nests = changed_at c.id.index (with_unique unique) b.nests }
