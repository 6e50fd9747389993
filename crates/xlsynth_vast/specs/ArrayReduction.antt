-- The reduction of an array: the checks that refuse it, and its elements in order.
use Rattle.std.specs.Prelude.{ℕ, ℤ, pos, ◌^◌, int_lt, List, [], ◌∷◌, ◌++◌, map, drop, codes, Option, Some, None, option_map, Result, Ok, Err, if◌then◌else◌}
use Rattle.std.specs.List.{flat_map, join_by, list_all, range_with_len}
use Rattle.std.specs.Int.{is_positive}
use Rattle.std.specs.Ordering.{int_eq}
use Rattle.std.specs.Cmp.Lexicographic.{pointwise}
use Rattle.std.specs.Fmt.{signed_decimal}
use Rattle.vast_literal.specs.Tree.{ExprTree, NameTree, IndexTree, TypeCastTree, TypeTree, PackedTree, MaybeType, Untyped, Typed, MaybeExpr, NoExpr, SomeExpr}
use Rattle.vast_core.specs.BitCount.{product, size_values, unknown_dimension}
use Rattle.vast_core.specs.Growth.{known_literal}
use Rattle.vast_literal.specs.Literal.{and_then}
use Rattle.xlsynth_vast.specs.Literals.{selector_text}
use Rattle.xlsynth_vast.specs.Reductions.{bitwise_reduction}

-- What is known of an array's dimensions.

-- The dimensions of packed arrays within one another, from the outermost. Any other type has none.
abbrev pub packed_dimensions : TypeTree → List ℤ
packed_dimensions (PackedTree element dimensions) = size_values dimensions ++ packed_dimensions element
packed_dimensions _ = []

abbrev pub unless_unknown : MaybeExpr → List ℤ → Option (List ℤ)
unless_unknown NoExpr dimensions = Some dimensions
unless_unknown (SomeExpr size) dimensions = None

-- The same where each dimension of the type has a value; else they aren't known.
abbrev pub type_dimensions : TypeTree → Option (List ℤ)
type_dimensions type = unless_unknown (unknown_dimension type) (packed_dimensions type)

abbrev pub declared_dimensions : MaybeType → Option (List ℤ)
declared_dimensions Untyped = None
declared_dimensions (Typed type) = type_dimensions type

-- Those of a name's type or of the type of a cast; after an index they are without the first. Of other expressions
-- nothing is known.
abbrev pub known_dimensions : ExprTree → Option (List ℤ)
known_dimensions (NameTree name type) = declared_dimensions type
known_dimensions (TypeCastTree type operand) = type_dimensions type
known_dimensions (IndexTree subject index) = option_map (drop 1) (known_dimensions subject)
known_dimensions _ = None

-- The checks, and the words of each.

abbrev pub listed : List ℤ → List ℕ
listed dimensions = codes "[" ++ (join_by signed_decimal (codes ", ") dimensions ++ codes "]")

unfoldable pub mismatch : (known given : List ℤ) → List ℕ
mismatch known given = codes "packed-array dimensions do not match expression type: expected " ++ (listed known ++ (codes ", got " ++ listed given))

abbrev pub any_dimension : List ℤ → Result (Unit {0}) (List ℕ)
any_dimension [] = Err (codes "packed-array reduction requires at least one dimension")
any_dimension (d ∷ ds) = Ok tt

abbrev pub each_positive : List ℤ → Result (Unit {0}) (List ℕ)
each_positive given = if list_all is_positive given then Ok tt else Err (codes "packed-array dimensions must be greater than zero")

abbrev pub as_known : Option (List ℤ) → (given : List ℤ) → Result (Unit {0}) (List ℕ)
as_known None given = Ok tt
as_known (Some known) given = if pointwise int_eq known given then Ok tt else Err (mismatch known given)

abbrev pub countable : List ℤ → Result (Unit {0}) (List ℕ)
countable given = if int_lt (product given) (pos (2 ^ 64)) then Ok tt else Err (codes "packed-array element count exceeds usize")

-- The checks of an array reduction, in their order.
unfoldable pub reducible : ExprTree → List ℤ → Result (Unit {0}) (List ℕ)
reducible array given = and_then (any_dimension given) (λ _. and_then (each_positive given) (λ _. and_then (as_known (known_dimensions array) given) (λ _. countable given)))

-- The elements.

-- What an array holds at a number.
abbrev pub element_at : ExprTree → ℕ → ExprTree
element_at array i = IndexTree array (known_literal (selector_text (pos i)) (pos i))

-- What an array of this dimension holds, in order.
unfoldable pub slots : ℤ → ExprTree → List ExprTree
slots (pos n) array = map (element_at array) (range_with_len 0 n)
slots _ array = []

-- All elements of an array, those of its first slot first.
unfoldable pub elements : List ℤ → ExprTree → List ExprTree
elements [] array = array ∷ []
elements (d ∷ ds) array = flat_map (elements ds) (slots d array)

-- All elements joined, or the first refusal.
abbrev pub array_reduction : List ℤ → ExprTree → Result ExprTree (List ℕ)
array_reduction given array = unless_refused (reducible array given)
  where
    unless_refused : Result (Unit {0}) (List ℕ) → Result ExprTree (List ℕ)
    unless_refused (Ok _) = Ok (bitwise_reduction (elements given array))
    unless_refused (Err words) = Err words
