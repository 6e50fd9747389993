-- The name that an expression is, and what a name is less than.
use Rattle.std.specs.Prelude.{ℕ, List, Bool, false, ◌&&◌, bytes_eq, codes, cond, Option, Some, None}
use Rattle.vast_literal.specs.NormalExpr.{NormalExpr, Name, Binary}
use Rattle.vast_literal.specs.declared.token.Sign.TheVariants.{Less}

abbrev pub is_name_of : List ℕ → NormalExpr → Bool
is_name_of n (Name w) = bytes_eq n w
is_name_of n _ = false

-- Whether the sign is `<` and the left side is the name.
unfoldable pub is_bounded : (name sign : List ℕ) → (left : NormalExpr) → Bool
is_bounded n w l = bytes_eq w (codes "<") && is_name_of n l

-- What the name is less than, where the expression says so of it.
unfoldable pub bound_of : List ℕ → NormalExpr → Option NormalExpr
bound_of i (Binary Less (Name j) e) = cond (bytes_eq i j) (Some e) None
bound_of i _ = None
