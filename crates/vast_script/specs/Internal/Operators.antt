-- Beside `specs/Operators.antt`: what private contracts and proofs say, and no public one.
use Rattle.std.specs.Prelude.{Result, ⊤}
use Rattle.std.specs.declared.alloc.AllocError.{AllocError}
use Rattle.vast_core.specs.declared.handle.Expr.{Expr}
use Rattle.vast_core.specs.Bench.{Bench}
use Rattle.vast_core.specs.Growth.{Builds, next_expr}
use Rattle.xlsynth_vast.specs.Expressions.{with_unary, with_binary}
use Rattle.vast_script.specs.declared.operators.Operands.{Operands}
use Rattle.vast_script.specs.declared.operators.Operands.TheVariants.{One, Two}
use Rattle.vast_steps.specs.Operators.{Operation, Before, Between}

abbrev pub operands_of : Operation → Operands
operands_of (Before operator operand) = One operand
operands_of (Between operator left right) = Two left right

-- Of an operation of one operand: it is made over this one.
abbrev pub MakesBefore : Operation → (old new : Bench) → (operand : Expr) → Result Expr AllocError → Type 0
MakesBefore (Before operator _) old new operand result = Builds old new result next_expr (with_unary operator operand)
MakesBefore (Between _ _ _) old new operand result = ⊤

-- Of an operation of two operands: it is made over these.
abbrev pub MakesBetween : Operation → (old new : Bench) → (left right : Expr) → Result Expr AllocError → Type 0
MakesBetween (Before _ _) old new left right result = ⊤
MakesBetween (Between operator _ _) old new left right result = Builds old new result next_expr (with_binary operator left right)

abbrev pub TakesOne : Operation → Type 0
TakesOne (Before _ _) = ⊤
TakesOne (Between _ _ _) = ⊥

abbrev pub TakesTwo : Operation → Type 0
TakesTwo (Before _ _) = ⊥
TakesTwo (Between _ _ _) = ⊤
