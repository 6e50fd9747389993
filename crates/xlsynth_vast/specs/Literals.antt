-- Literals as expressions: their texts, and their values where these are known.
use Rattle.std.specs.Prelude.{ℕ, ℤ, pos, ◌^◌, List, nat_lt, nat_le, Option, Some, None, Result, Ok, if◌then◌else◌}
use Rattle.std.specs.Fmt.{signed_decimal, decimal}
use Rattle.vast_literal.specs.declared.literal.LiteralFormat.{LiteralFormat}
use Rattle.vast_literal.specs.declared.literal.LiteralFormat.TheVariants.{Hex}
use Rattle.vast_literal.specs.Tree.{ExprTree, LiteralTree, StringTree}
use Rattle.vast_literal.specs.Literal.{Bits, and_then, literal_of}
use Rattle.vast_literal.specs.Quoted.{quoted}
use Rattle.vast_literal.specs.LiteralText.{format_takes, format_text}

-- A value that tools know is one that a signed number of 64 bits can be.
abbrev pub known_value : ℕ → Option ℤ
known_value v = if nat_lt v (2 ^ 63) then Some (pos v) else None

-- A number of a width, written in a format.
abbrev pub formatted : LiteralFormat → Bits → ExprTree
formatted format bits = LiteralTree (format_text format bits.width bits.value) (known_value bits.value)

-- The literal that a text denotes, written in a format; or the refusal of the text, and then that of the format.
abbrev pub literal_in : LiteralFormat → List ℕ → Result ExprTree (List ℕ)
literal_in format text = and_then (literal_of text) (λ bits. and_then (format_takes format bits.value) (λ _. Ok (formatted format bits)))

-- A pattern, whose value isn't known.
abbrev pub pattern_literal : List ℕ → ExprTree
pattern_literal text = LiteralTree text None

-- A string of this content.
abbrev pub string_literal : List ℕ → ExprTree
string_literal content = StringTree (quoted content)

-- A number that selects: in decimal while every tool reads it so, above that in base 16 with a width of 64 bits.
abbrev pub selector_text : ℤ → List ℕ
selector_text (pos n) = if nat_le n 2147483647 then decimal n else format_text Hex 64 n
selector_text n = signed_decimal n
