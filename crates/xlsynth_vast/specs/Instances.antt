-- What an instantiation gives to parameters and ports, and the entries of an enumeration.
use Rattle.std.specs.Prelude.{ℕ, List, [], ◌∷◌, Option}
use Rattle.vast_core.specs.declared.handle.Expr.{Expr}
use Rattle.vast_core.specs.declared.node.Connection.{Connection}

-- Each name with the expression at its place; the lists are of one length.
abbrev pub connected : List (List ℕ) → List (Option Expr) → List Connection
connected (name ∷ names) (value ∷ values) = record { name = name; value = value } ∷ connected names values
connected _ _ = []
