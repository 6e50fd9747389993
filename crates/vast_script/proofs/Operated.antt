-- What becomes of a call of an operator whose operands were looked up, and whose expression was made.
use Rattle.std.proofs.Common.{◌≡◌, ℕ, List, Option, Some, None, Result, Ok, Err, refl, sym, subst}
use Rattle.std.specs.declared.alloc.AllocError.{AllocError}
use Rattle.vast_core.specs.declared.handle.Expr.{Expr as ExprHandle}
use Rattle.vast_core.specs.Bench.{Bench}
use Rattle.vast_core.specs.Growth.{Builds, next_expr}
use Rattle.vast_script.specs.declared.answer.Answer.{Answer}
use Rattle.vast_script.specs.declared.answer.Answer.TheVariants.{Expr}
use Rattle.vast_script.specs.declared.fault.StepFault.{StepFault}
use Rattle.vast_script.specs.declared.operators.Operands.TheVariants.{One, Two}
use Rattle.xlsynth_vast.specs.Expressions.{with_unary, with_binary}
use Rattle.vast_script.specs.Arguments.{IsCause, one, two}
use Rattle.vast_script.specs.Internal.Operators.{MakesBefore, MakesBetween, TakesOne, TakesTwo, operands_of}
use Rattle.vast_script.specs.Internal.Outcome.{Wraps}
use Rattle.vast_script.specs.Kinds.{an_expr}
use Rattle.vast_script.specs.Operators.{operation_call}
use Rattle.vast_steps.specs.Operators.{Operation, Before, Between}
use Rattle.vast_script.specs.Outcome.{AtFault, Becomes, Cause, FaultOf, Outcome, Replays, cause_of, given, makes}

-- An expression that was made, or not, is what becomes of the call.
made_expression :
    (old new : Bench) (after : Bench → Bench) (made : Result ExprHandle AllocError) (result : Result Answer StepFault) → Builds old new made next_expr after → Wraps made result (λ x. Expr x) →
    Becomes old new result (makes Expr next_expr after old)
made_expression old new after (Ok e) result built wraps = subst (λ (r : Result Answer StepFault). Becomes old new r (makes Expr next_expr after old)) (sym wraps) (rw (built.0, built.1) refl)
made_expression old new after (Err e) result built wraps = subst (λ (r : Result Answer StepFault). Becomes old new r (makes Expr next_expr after old)) (sym wraps) (tt, built)

-- What was looked up, and not found.
stopped : {A : Type 0} (cause : Option Cause) (looked : Result A Cause) (next : A → Outcome) → IsCause cause looked → FaultOf cause (given looked next)
stopped None looked next h = tt
stopped {A = A} (Some cause) looked next h = subst (λ (l : Result A Cause). given l next ≡ AtFault cause) (sym h) refl

-- One operand.

pub is_before : (o : Operation) (n : ℕ) → One n ≡ operands_of o → TakesOne o
is_before (Before operator m) n same = tt
is_before (Between operator l r) n same = absurd (cc same)

pub made_before :
    (o : Operation) (n : ℕ) (old new : Bench) (answers : List Answer) (x : ExprHandle) (made : Result ExprHandle AllocError) (result : Result Answer StepFault) → One n ≡ operands_of o →
    one an_expr old answers n ≡ Ok x → MakesBefore o old new x made → Wraps made result (λ x. Expr x) → Replays old new answers result (operation_call o)
made_before (Before operator m) n old new answers x made result same found built wraps =
    let at : n ≡ m = cc same in
    let next : ExprHandle → Outcome = λ x. makes Expr next_expr (with_unary operator x) old in
    let there : one an_expr old answers m ≡ Ok x = subst (λ (k : ℕ). one an_expr old answers k ≡ Ok x) at found in
    subst (λ (looked : Result ExprHandle Cause). Becomes old new result (given looked next)) (sym there) (made_expression old new (with_unary operator x) made result built wraps)
made_before (Between operator l r) n old new answers x made result same found built wraps = absurd (cc same)

pub not_found_before :
    (o : Operation) (n : ℕ) (b : Bench) (answers : List Answer) (fault : StepFault) → One n ≡ operands_of o → IsCause (cause_of fault) (one an_expr b answers n) → Replays b b answers (Err fault) (operation_call o)
not_found_before (Before operator m) n b answers fault same looked =
    let at : n ≡ m = cc same in
    let there : IsCause (cause_of fault) (one an_expr b answers m) = subst (λ (k : ℕ). IsCause (cause_of fault) (one an_expr b answers k)) at looked in
    (stopped (cause_of fault) (one an_expr b answers m) (λ x. makes Expr next_expr (with_unary operator x) b) there, refl)
not_found_before (Between operator l r) n b answers fault same looked = absurd (cc same)

-- Two operands.

pub is_between : (o : Operation) (n m : ℕ) → Two n m ≡ operands_of o → TakesTwo o
is_between (Before operator k) n m same = absurd (cc same)
is_between (Between operator l r) n m same = tt

pub made_between :
    (o : Operation) (n m : ℕ) (old new : Bench) (answers : List Answer) (x y : ExprHandle) (made : Result ExprHandle AllocError) (result : Result Answer StepFault) → Two n m ≡ operands_of o →
    two an_expr an_expr old answers n m ≡ Ok (x, y) → MakesBetween o old new x y made → Wraps made result (λ x. Expr x) → Replays old new answers result (operation_call o)
made_between (Before operator k) n m old new answers x y made result same found built wraps = absurd (cc same)
made_between (Between operator l r) n m old new answers x y made result same found built wraps =
    let left : n ≡ l = cc same in
    let right : m ≡ r = cc same in
    let next : ExprHandle × ExprHandle → Outcome = λ (x, y). makes Expr next_expr (with_binary operator x y) old in
    let there : two an_expr an_expr old answers l r ≡ Ok (x, y) = subst (λ (k : ℕ). two an_expr an_expr old answers k r ≡ Ok (x, y)) left (subst (λ (k : ℕ). two an_expr an_expr old answers n k ≡ Ok (x, y)) right found) in
    subst (λ (looked : Result (ExprHandle × ExprHandle) Cause). Becomes old new result (given looked next)) (sym there) (made_expression old new (with_binary operator x y) made result built wraps)

pub not_found_between :
    (o : Operation) (n m : ℕ) (b : Bench) (answers : List Answer) (fault : StepFault) → Two n m ≡ operands_of o → IsCause (cause_of fault) (two an_expr an_expr b answers n m) →
    Replays b b answers (Err fault) (operation_call o)
not_found_between (Before operator k) n m b answers fault same looked = absurd (cc same)
not_found_between (Between operator l r) n m b answers fault same looked =
    let left : n ≡ l = cc same in
    let right : m ≡ r = cc same in
    let there : IsCause (cause_of fault) (two an_expr an_expr b answers l r) =
    subst (λ (k : ℕ). IsCause (cause_of fault) (two an_expr an_expr b answers k r)) left (subst (λ (k : ℕ). IsCause (cause_of fault) (two an_expr an_expr b answers n k)) right looked) in
    (stopped (cause_of fault) (two an_expr an_expr b answers l r) (λ (x, y). makes Expr next_expr (with_binary operator x y) b) there, refl)

pub ruleset operated = (is_before, is_between, made_before, not_found_before, made_between, not_found_between)
