-- Where a conditional or an assignment goes: among the members of a scope, or into a block.
use Rattle.std.specs.Prelude.{Bool, true, false}
use Rattle.vast_core.specs.Handles.{Expr, VastStatement}
use Rattle.vast_core.specs.declared.ast.insertion_point.InsertionPoint.{InsertionPoint}
use Rattle.vast_core.specs.declared.ast.insertion_point.InsertionPoint.TheVariants.{Scope as ScopePoint, Block as BlockPoint}
use Rattle.vast_literal.specs.declared.kind.AssignmentForm.{AssignmentForm}
use Rattle.vast_literal.specs.declared.kind.AssignmentForm.TheVariants.{Blocking, Nonblocking, Continuous}
use Rattle.vast_core.specs.Records.{Assignment, AssignmentEntry, ConditionalEntry}
use Rattle.vast_core.specs.Nests.{Statement, AssignStatement, ContinuousStatement, ConditionalStatement}
use Rattle.vast_core.specs.Bench.{Bench, OwnsBlock}
use Rattle.vast_core.specs.Growth.{next_continuous, with_assignment}
use Rattle.vast_core.specs.Artifacts.{next_statement}
use Rattle.vast_core.specs.Containers.{next_conditional, with_conditional, with_statement}
use Rattle.vast_core.specs.Scopes.{OwnsScope, with_scope_member}

-- The scope or the block is the file's.
abbrev pub OwnsPoint : Bench → InsertionPoint → Type 0
OwnsPoint b (ScopePoint scope) = OwnsScope b scope
OwnsPoint b (BlockPoint block) = OwnsBlock b block

-- A scope has continuous assignments alone.
abbrev pub IsWrittenIn : InsertionPoint → AssignmentForm → Type 0
IsWrittenIn (ScopePoint scope) Continuous = Unit {0}
IsWrittenIn (ScopePoint scope) Blocking = ⊥
IsWrittenIn (ScopePoint scope) Nonblocking = ⊥
IsWrittenIn (BlockPoint block) form = Unit {0}

abbrev pub is_nonblocking : AssignmentForm → Bool
is_nonblocking Nonblocking = true
is_nonblocking Blocking = false
is_nonblocking Continuous = false

abbrev pub assigned : AssignmentForm → Expr → Expr → Assignment
assigned form lhs rhs = record { lhs = lhs; rhs = rhs; nonblocking = is_nonblocking form }

-- The statement of a block that is written so.
abbrev pub statement_of : AssignmentForm → VastStatement → Statement
statement_of Continuous a = ContinuousStatement a
statement_of Blocking a = AssignStatement a
statement_of Nonblocking a = AssignStatement a

-- An assignment more, at the end of the scope's members or of the block's statements.
abbrev pub with_assignment_at : InsertionPoint → AssignmentForm → Expr → Expr → Bench → Bench
with_assignment_at (ScopePoint scope) form lhs rhs b = with_scope_member scope (AssignmentEntry (next_continuous b)) (with_assignment (assigned form lhs rhs) b)
with_assignment_at (BlockPoint block) form lhs rhs b = with_statement block (statement_of form (next_statement b)) (with_assignment (assigned form lhs rhs) b)

-- A conditional more, with an empty block as its first arm.
abbrev pub with_conditional_at : InsertionPoint → Expr → Bench → Bench
with_conditional_at (ScopePoint scope) condition b = with_scope_member scope (ConditionalEntry (next_conditional b)) (with_conditional condition b)
with_conditional_at (BlockPoint block) condition b = with_statement block (ConditionalStatement (next_conditional b)) (with_conditional condition b)
