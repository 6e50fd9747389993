-- Conditions of calls as tests.
use Rattle.std.specs.Prelude.{ℕ, ℤ, pos, int_le, Bool, true, false, not, ◌&&◌, List, Option, Some, None}
use Rattle.vast_literal.specs.Tree.{ExprTree, Exprs, NoExprs, MoreExprs}
use Rattle.vast_literal.specs.Keyword.{is_among}
use Rattle.vast_core.specs.declared.handle.VastModule.{VastModule}
use Rattle.vast_literal.specs.Shape.{literal_value}
use Rattle.vast_core.specs.Bench.{Bench}
use Rattle.xlsynth_vast.specs.Declarations.{names_in}

-- No port, wire, variable or function of the module has the name.
unfoldable pub is_free : Bench → VastModule → List ℕ → Bool
is_free b owner name = not (is_among (names_in b owner) name)

-- Not a literal with a value below 1.
abbrev pub is_usable_value : Option ℤ → Bool
is_usable_value None = true
is_usable_value (Some value) = int_le (pos 1) value

-- The width is no literal with a value below 1.
abbrev pub is_usable_width : ExprTree → Bool
is_usable_width width = is_usable_value (literal_value width)

-- There is a dimension, and each is such a width.
abbrev pub each_usable : Exprs → Bool
each_usable NoExprs = true
each_usable (MoreExprs size sizes) = is_usable_width size && each_usable sizes

unfoldable pub are_usable_dimensions : Exprs → Bool
are_usable_dimensions NoExprs = false
are_usable_dimensions (MoreExprs size sizes) = each_usable (MoreExprs size sizes)
