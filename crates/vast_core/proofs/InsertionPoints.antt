-- What calls know that add a conditional or an assignment to a scope or a block.
use Rattle.std.proofs.Common.{◌≡◌, refl, true}
use Rattle.vast_core.specs.Handles.{Expr}
use Rattle.vast_core.specs.declared.ast.scope.Scope.TheVariants.{Module as ScopeModule, Loop as ScopeLoop}
use Rattle.vast_core.specs.declared.ast.insertion_point.InsertionPoint.{InsertionPoint}
use Rattle.vast_core.specs.declared.ast.insertion_point.InsertionPoint.TheVariants.{Scope as ScopePoint, Block as BlockPoint}
use Rattle.vast_literal.specs.declared.kind.AssignmentForm.{AssignmentForm}
use Rattle.vast_literal.specs.declared.kind.AssignmentForm.TheVariants.{Blocking, Nonblocking, Continuous}
use Rattle.vast_core.specs.Bench.{Bench, OwnsExpr}
use Rattle.vast_core.specs.Artifacts.{next_statement}
use Rattle.vast_core.specs.Containers.{next_conditional, new_conditional}
use Rattle.vast_core.specs.Internal.Containers.{GrowthSound, after_growth, fresh_assignment}
use Rattle.vast_core.proofs.Containers.{fresh_container}
use Rattle.vast_core.specs.InsertionPoints.{OwnsPoint, IsWrittenIn, assigned, with_assignment_at, with_conditional_at}
use Rattle.vast_core.specs.Internal.InsertionPoints.{assignment_at, conditional_at}
use Rattle.vast_core.proofs.Enters.{assignment-enters as statement-enters, continuous-enters, conditional-enters as nested-enters}
use Rattle.vast_core.proofs.EntersScopes.{assignment-enters as member-enters, conditional-enters as member-conditional-enters}

pub assignment-enters :
    (b : Bench) (point : InsertionPoint) (form : AssignmentForm) (lhs rhs : Expr) → OwnsPoint b point → IsWrittenIn point form → OwnsExpr b lhs → OwnsExpr b rhs →
    GrowthSound b (assignment_at point form (next_statement b)) (fresh_assignment (assigned form lhs rhs))
assignment-enters b (ScopePoint scope) Continuous lhs rhs o w h k = member-enters b scope lhs rhs o h k
assignment-enters b (ScopePoint scope) Blocking lhs rhs o w h k = absurd w
assignment-enters b (ScopePoint scope) Nonblocking lhs rhs o w h k = absurd w
assignment-enters b (BlockPoint block) Continuous lhs rhs o w h k = continuous-enters b block (assigned Continuous lhs rhs) o (h, k)
assignment-enters b (BlockPoint block) Blocking lhs rhs o w h k = statement-enters b block (assigned Blocking lhs rhs) o (h, k)
assignment-enters b (BlockPoint block) Nonblocking lhs rhs o w h k = statement-enters b block (assigned Nonblocking lhs rhs) o (h, k)

pub conditional-enters :
    (b : Bench) (point : InsertionPoint) (condition : Expr) → OwnsPoint b point → OwnsExpr b condition →
    GrowthSound b (conditional_at point (next_conditional b)) (fresh_container (new_conditional b condition) true)
conditional-enters b (ScopePoint scope) condition o h = member-conditional-enters b scope condition o h
conditional-enters b (BlockPoint block) condition o h = nested-enters b block condition o h

-- What the file is after these growths.

pub assignment-grown :
    (b : Bench) (point : InsertionPoint) (form : AssignmentForm) (lhs rhs : Expr) →
    after_growth (assignment_at point form (next_statement b)) (fresh_assignment (assigned form lhs rhs)) b ≡ with_assignment_at point form lhs rhs b
assignment-grown b (ScopePoint (ScopeModule owner)) form lhs rhs = refl
assignment-grown b (ScopePoint (ScopeLoop owner)) form lhs rhs = refl
assignment-grown b (BlockPoint block) form lhs rhs = refl

pub conditional-grown :
    (b : Bench) (point : InsertionPoint) (condition : Expr) →
    after_growth (conditional_at point (next_conditional b)) (fresh_container (new_conditional b condition) true) b ≡ with_conditional_at point condition b
conditional-grown b (ScopePoint (ScopeModule owner)) condition = refl
conditional-grown b (ScopePoint (ScopeLoop owner)) condition = refl
conditional-grown b (BlockPoint block) condition = refl
