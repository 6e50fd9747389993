-- What calls that grow a container know: what comes, and the entry that names it, are the file's.
use Rattle.std.proofs.Common.{◌≡◌, ℕ, suc, ◌<◌, true, false, List, [], ◌∷◌, ◌++◌, length, Option, Some, None, slice_get, refl, arith, length-append}
use Rattle.std.specs.Prelude.{IfSome}
use Rattle.vast_core.specs.Handles.{Expr, VastStatementBlock, Conditional, CaseStatement, GenerateLoop}
use Rattle.vast_literal.specs.declared.kind.CaseKind.{CaseKind}
use Rattle.vast_core.specs.declared.node.Assignment.{Assignment}
use Rattle.vast_core.specs.Nests.{Statement, AssignStatement, ContinuousStatement, ConditionalStatement, CasesStatement, ForStatement, BlockRecord, is_kind, BlockKind, ConditionalKind, CaseStatementKind, LoopKind}
use Rattle.vast_core.specs.Bench.{Bench, OwnsExpr, OwnsBlock, OwnsConditional, OwnsCase, OwnsLoop, OwnsStatement}
use Rattle.vast_core.specs.Growth.{with_assignment, next_id}
use Rattle.vast_core.specs.Artifacts.{next_statement}
use Rattle.vast_core.specs.Parents.{held_by_statement}
use Rattle.vast_core.specs.Sound.{AssignmentSound, StatementSound}
use Rattle.vast_core.specs.Containers.{StatementEnters, ElseIfEnters, ElseEnters, CaseArmEnters, next_block, next_conditional, next_case, new_conditional, new_case, with_block, with_conditional, with_case}
use Rattle.vast_core.specs.Internal.Containers.{InNest, GrowthSound, FreshSound, no_fresh, fresh_assignment, fresh_block}
use Rattle.vast_core.proofs.Containers.{fresh_container}
use Rattle.vast_core.proofs.Lists.{slice_get-seam}
use Rattle.vast_core.proofs.Nests.{kind-there}
use Rattle.vast_core.proofs.Sound.{never}
use Rattle.vast_core.proofs.Terms.{last-test}

pub nothing-comes : (b c : Bench) → FreshSound b c no_fresh
nothing-comes b c = record { terms = tt; port = tt; fresh_module = tt; definition = tt; artifact = tt; instance = tt; assignment = tt; container = tt; function = tt; always_block = tt }

pub a-block-comes : (b c : Bench) → FreshSound b c fresh_block
a-block-comes b c = record { terms = tt; port = tt; fresh_module = tt; definition = tt; artifact = tt; instance = tt; assignment = tt; container = tt; function = tt; always_block = tt }

pub block-place : (b : Bench) (x : VastStatementBlock) → OwnsBlock b x → x.id.index < length b.nests
block-place b x h = kind-there (is_kind BlockKind) b.nests x.id.index never h.of_kind

pub conditional-place : (b : Bench) (x : Conditional) → OwnsConditional b x → x.id.index < length b.nests
conditional-place b x h = kind-there (is_kind ConditionalKind) b.nests x.id.index never h.of_kind

pub case-place : (b : Bench) (x : CaseStatement) → OwnsCase b x → x.id.index < length b.nests
case-place b x h = kind-there (is_kind CaseStatementKind) b.nests x.id.index never h.of_kind

pub loop-place : (b : Bench) (x : GenerateLoop) → OwnsLoop b x → x.id.index < length b.nests
loop-place b x h = kind-there (is_kind LoopKind) b.nests x.id.index never h.of_kind

-- The element after the last one but one.
second-seam : {A : Type 0} (xs : List A) (x y : A) → slice_get ((xs ++ x ∷ []) ++ y ∷ []) (suc (length xs)) ≡ Some y
second-seam [] x y = refl
second-seam (z ∷ xs) x y = second-seam xs x y

first-seam : {A : Type 0} (xs : List A) (x y : A) → slice_get ((xs ++ x ∷ []) ++ y ∷ []) (length xs) ≡ Some x
first-seam [] x y = refl
first-seam (z ∷ xs) x y = first-seam xs x y

pub next_block_owned : (b : Bench) → OwnsBlock (with_block b) (next_block b)
next_block_owned b = record { of_file = refl; of_kind = rw (slice_get-seam b.nests (BlockRecord [])) refl }

pub next_conditional_owned : (b : Bench) (condition : Expr) → OwnsConditional (with_conditional condition b) (next_conditional b)
next_conditional_owned b condition = record { of_file = refl; of_kind = rw (first-seam b.nests (new_conditional b condition) (BlockRecord [])) refl }

pub next_case_owned : (b : Bench) (kind : CaseKind) (selector : Expr) → OwnsCase (with_case kind selector b) (next_case b)
next_case_owned b kind selector = record { of_file = refl; of_kind = rw (slice_get-seam b.nests (new_case kind selector)) refl }

consequent_owned : (b : Bench) (condition : Expr) → OwnsBlock (with_conditional condition b) (record { id = next_id b (suc (length b.nests)) })
consequent_owned b condition = record { of_file = refl; of_kind = rw (second-seam b.nests (new_conditional b condition) (BlockRecord [])) refl }

pub conditional-comes : (b : Bench) (condition : Expr) → OwnsExpr b condition → FreshSound b (with_conditional condition b) (fresh_container (new_conditional b condition) true)
conditional-comes b condition h =
    record {
      terms = tt;
      port = tt;
      fresh_module = tt;
      definition = tt;
      artifact = tt;
      instance = tt;
      assignment = tt;
      container = record { condition = h; consequent = (consequent_owned b condition, omega arith); else_ifs = tt; otherwise = tt };
      function = tt;
      always_block = tt;
    }

case-comes : (b : Bench) (kind : CaseKind) (selector : Expr) → OwnsExpr b selector → FreshSound b (with_case kind selector b) (fresh_container (new_case kind selector) false)
case-comes b kind selector h = record { terms = tt; port = tt; fresh_module = tt; definition = tt; artifact = tt; instance = tt; assignment = tt; container = record { selector = h; arms = tt }; function = tt; always_block = tt }

-- Statements of blocks.

pub statement-enters : (b : Bench) (owner : VastStatementBlock) (s : Statement) → OwnsBlock b owner → StatementSound b owner.id.index s → held_by_statement s ≡ [] → GrowthSound b (InNest owner.id.index (StatementEnters s)) no_fresh
statement-enters b owner s h k none = record { fresh = nothing-comes b b; listing = (block-place b owner h, k); placed = rw none refl }

assignment-comes : (b : Bench) (a : Assignment) → AssignmentSound b a → FreshSound b (with_assignment a b) (fresh_assignment a)
assignment-comes b a h = record { terms = tt; port = tt; fresh_module = tt; definition = tt; artifact = tt; instance = tt; assignment = h; container = tt; function = tt; always_block = tt }

next_statement_owned : (b : Bench) (a : Assignment) → OwnsStatement (with_assignment a b) (next_statement b)
next_statement_owned b a = record { of_file = refl; of_kind = rw (length-append b.assignments (a ∷ [])) (last-test (length b.assignments)) }

pub assignment-enters :
    (b : Bench) (owner : VastStatementBlock) (a : Assignment) → OwnsBlock b owner → AssignmentSound b a →
    GrowthSound b (InNest owner.id.index (StatementEnters (AssignStatement (next_statement b)))) (fresh_assignment a)
assignment-enters b owner a h k = record { fresh = assignment-comes b a k; listing = (block-place b owner h, next_statement_owned b a); placed = refl }

pub continuous-enters :
    (b : Bench) (owner : VastStatementBlock) (a : Assignment) → OwnsBlock b owner → AssignmentSound b a →
    GrowthSound b (InNest owner.id.index (StatementEnters (ContinuousStatement (next_statement b)))) (fresh_assignment a)
continuous-enters b owner a h k = record { fresh = assignment-comes b a k; listing = (block-place b owner h, next_statement_owned b a); placed = refl }

pub conditional-enters :
    (b : Bench) (owner : VastStatementBlock) (condition : Expr) → OwnsBlock b owner → OwnsExpr b condition →
    GrowthSound b (InNest owner.id.index (StatementEnters (ConditionalStatement (next_conditional b)))) (fresh_container (new_conditional b condition) true)
conditional-enters b owner condition h k = record { fresh = conditional-comes b condition k; listing = (block-place b owner h, (next_conditional_owned b condition, block-place b owner h)); placed = refl }

pub case-enters :
    (b : Bench) (owner : VastStatementBlock) (kind : CaseKind) (selector : Expr) → OwnsBlock b owner → OwnsExpr b selector →
    GrowthSound b (InNest owner.id.index (StatementEnters (CasesStatement (next_case b)))) (fresh_container (new_case kind selector) false)
case-enters b owner kind selector h k = record { fresh = case-comes b kind selector k; listing = (block-place b owner h, (next_case_owned b kind selector, block-place b owner h)); placed = refl }

-- Arms.

pub else_if-enters :
    (b : Bench) (owner : Conditional) (condition : Expr) → OwnsConditional b owner → OwnsExpr b condition →
    GrowthSound b (InNest owner.id.index (ElseIfEnters (record { condition = condition; block = next_block b }))) fresh_block
else_if-enters b owner condition h k = record { fresh = a-block-comes b (with_block b); listing = (conditional-place b owner h, (k, (next_block_owned b, conditional-place b owner h))); placed = refl }

pub else-enters : (b : Bench) (owner : Conditional) → OwnsConditional b owner → GrowthSound b (InNest owner.id.index (ElseEnters (next_block b))) fresh_block
else-enters b owner h = record { fresh = a-block-comes b (with_block b); listing = (conditional-place b owner h, (next_block_owned b, conditional-place b owner h)); placed = refl }

maybe-same : (b : Bench) (label : Option Expr) → IfSome label (OwnsExpr b) → IfSome label (OwnsExpr (with_block b))
maybe-same b None h = tt
maybe-same b (Some e) h = h

pub case_arm-enters :
    (b : Bench) (owner : CaseStatement) (label : Option Expr) → OwnsCase b owner → IfSome label (OwnsExpr b) →
    GrowthSound b (InNest owner.id.index (CaseArmEnters (record { label = label; block = next_block b }))) fresh_block
case_arm-enters b owner label h k = record { fresh = a-block-comes b (with_block b); listing = (case-place b owner h, (maybe-same b label k, (next_block_owned b, case-place b owner h))); placed = refl }

pub for-enters :
    (b : Bench) (owner : VastStatementBlock) (index : List ℕ) (start end : Expr) → OwnsBlock b owner → OwnsExpr b start → OwnsExpr b end →
    GrowthSound b (InNest owner.id.index (StatementEnters (ForStatement (record { index = index; start = start; end = end; block = next_block b })))) fresh_block
for-enters b owner index start end h k l = record { fresh = a-block-comes b (with_block b); listing = (block-place b owner h, ((k, l), (next_block_owned b, block-place b owner h))); placed = refl }

pub ruleset enters = (statement-enters, case-enters, else_if-enters, else-enters, case_arm-enters, for-enters)
