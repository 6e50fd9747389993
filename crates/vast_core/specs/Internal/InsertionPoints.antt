-- Beside `specs/InsertionPoints.antt`: what private contracts and proofs say, and no public one.
use Rattle.vast_core.specs.Handles.{Conditional, VastStatement}
use Rattle.vast_core.specs.declared.ast.insertion_point.InsertionPoint.{InsertionPoint}
use Rattle.vast_core.specs.declared.ast.insertion_point.InsertionPoint.TheVariants.{Scope as ScopePoint, Block as BlockPoint}
use Rattle.vast_literal.specs.declared.kind.AssignmentForm.{AssignmentForm}
use Rattle.vast_core.specs.Records.{AssignmentEntry, ConditionalEntry}
use Rattle.vast_core.specs.Nests.{ConditionalStatement}
use Rattle.vast_core.specs.Containers.{StatementEnters}
use Rattle.vast_core.specs.Internal.Containers.{Listing, InNest}
use Rattle.vast_core.specs.Internal.Scopes.{listing_in}
use Rattle.vast_core.specs.InsertionPoints.{statement_of}

-- The entry at the end of the point's list.
abbrev pub assignment_at : InsertionPoint → AssignmentForm → VastStatement → Listing
assignment_at (ScopePoint scope) form a = listing_in scope (AssignmentEntry (record { id = a.id }))
assignment_at (BlockPoint block) form a = InNest block.id.index (StatementEnters (statement_of form a))

abbrev pub conditional_at : InsertionPoint → Conditional → Listing
conditional_at (ScopePoint scope) c = listing_in scope (ConditionalEntry c)
conditional_at (BlockPoint block) c = InNest block.id.index (StatementEnters (ConditionalStatement c))
