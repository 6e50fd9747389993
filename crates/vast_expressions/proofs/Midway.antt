-- The loop in its middle.
use Rattle.std.specs.Prelude.{◌≡◌, ℕ, ◌+◌, ◌*◌, length, List, [], ◌∷◌, ◌++◌}
use Rattle.vast_literal.specs.Tokens.{Token}
use Rattle.vast_expressions.specs.Events.{Event}
use Rattle.vast_expressions.specs.Hearing.{HearsAll}
use Rattle.vast_expressions.specs.Rows.{Item, Take, Emit, Expression, Target, Rest, Right, Operand, Selects, SelectEnd, MemberName, Primary, MaybeCast, TypeName, Arguments, More, Braces, BraceNext, Runs}

-- From `ts`, where `a` hears what is told, the items have come to this stack, with these tokens left and that heard. What
-- the stack runs completes a run of the items, and each of their runs comes by here.
pub record Midway {A : Type 0} (hears : A → Event → A → Type 0) (is : List Item) (ts : List Token) (a : A) (stack : List Item) (left : List Token) (b : A) : Type 0 where
  pub heard : List Event
  pub told : HearsAll hears a heard b
  pub to : (es fs : List Event) (us : List Token) → Runs stack left es us fs → Runs is ts (heard ++ es) us fs
  pub from : (es fs : List Event) (us : List Token) → Runs is ts es us fs → (ds : List Event) × (es ≡ heard ++ ds) × Runs stack left ds us fs

-- How much work is left: a token pays for 16.
abbrev pub weight : Item → ℕ
weight (Take q) = 1
weight (Emit t) = 1
weight Expression = 5
weight Target = 3
weight Rest = 1
weight (Right p) = 1
weight Operand = 3
weight Selects = 1
weight SelectEnd = 1
weight MemberName = 1
weight Primary = 1
weight MaybeCast = 1
weight TypeName = 1
weight (Arguments q) = 8
weight (More q) = 1
weight Braces = 10
weight BraceNext = 4

unfoldable pub load : List Item → ℕ
load [] = 0
load (i ∷ is) = weight i + load is

unfoldable pub work : List Item → List Token → ℕ
work is ts = load is + 16 * length ts
