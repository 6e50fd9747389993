-- The widths and bit counts that calls return: a number, or the words of a refusal.
use Rattle.std.specs.Prelude.{ℕ, ℤ, pos, ◌^◌, int_lt, List, [], ◌++◌, codes, Option, Some, None, Result, Ok, Err, if◌then◌else◌}
use Rattle.std.specs.Option.{ok_or}
use Rattle.vast_literal.specs.Tree.{TypeTree, VectorTree, ExternalTree, PackageTree, MaybeExpr, NoExpr, SomeExpr}
use Rattle.vast_literal.specs.Shape.{base_of}
use Rattle.vast_core.specs.BitCount.{base_bits, unknown_dimension, width_value, bit_count}
use Rattle.vast_print.specs.declared.refusal.Refusal.{Refusal}
use Rattle.vast_print.specs.Printed.{Printed, refusal_text}
use Rattle.vast_print.specs.Text.{expr_text}

-- The refusal of a width without a value: that of its printing, or else one with its text.
unfoldable pub unless_refused : Option Refusal → List ℕ → List ℕ
unless_refused None words = words
unless_refused (Some r) words = refusal_text r

unfoldable pub no_literal : Printed → List ℕ
no_literal p = unless_refused p.fault (codes "Width is not a literal: " ++ p.text)

-- The refusal of a type that is declared elsewhere.
unfoldable pub no_known_width : List ℕ → List ℕ
no_known_width name = codes "external type `" ++ name ++ codes "` has no known bit width"

-- Why a type that is no array declares no width.
unfoldable pub undeclared : TypeTree → List ℕ
undeclared (VectorTree width value signed) = no_literal (expr_text width)
undeclared _ = codes "data type does not have a declared bit-vector width"

-- Why the bits of a type that is no array aren't known.
unfoldable pub uncounted : TypeTree → List ℕ
uncounted (VectorTree width value signed) = no_literal (expr_text width)
uncounted (ExternalTree name) = no_known_width name
uncounted (PackageTree package_name name) = no_known_width (package_name ++ codes "::" ++ name)
uncounted _ = []

-- A count that a signed number of 64 bits can be.
abbrev pub limited : Result ℤ (List ℕ) → Result ℤ (List ℕ)
limited (Ok n) = if int_lt n (pos (2 ^ 63)) then Ok n else Err (codes "array bit count exceeds i64")
limited (Err words) = Err words

-- The declared width of the type within the arrays.
abbrev pub declared_width : TypeTree → Result ℤ (List ℕ)
declared_width t = ok_or (width_value t) (undeclared (base_of t))

-- Why the bits of a type aren't known: the bits of the type within its arrays, or else a dimension.
unfoldable pub unknown_bits : (bits : Option ℤ) (base : TypeTree) (dimension : MaybeExpr) → List ℕ
unknown_bits None base dimension = uncounted base
unknown_bits (Some bits) base NoExpr = []
unknown_bits (Some bits) base (SomeExpr size) = no_literal (expr_text size)

-- The bits of a type: those of the type within its arrays, times all dimensions, if all of these are known.
abbrev pub flat_bits : TypeTree → Result ℤ (List ℕ)
flat_bits t = limited (ok_or (bit_count t) (unknown_bits (base_bits (base_of t)) (base_of t) (unknown_dimension t)))
