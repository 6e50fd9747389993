-- What the text of a literal denotes, as a relation on the text.
use Rattle.std.specs.Prelude.{◌≡◌, ℕ, ◌+◌, ◌%◌, ◌^◌, ◌<◌, ◌≤◌, List, [], ◌++◌, Bool, true, false, codes, IsTrue}
use Rattle.std.specs.Bool.{MatchBool}
use Rattle.vast_literal.specs.Digits.{is_numeral, number_in, weighted}
use Rattle.vast_literal.specs.Literal.{Bits, is_decimal}

-- A sign, and whether it is a minus.
pub data IsSign : List ℕ → Bool → Type 0 where
  NoSign : IsSign [] false
  PlusSign : IsSign (codes "+") false
  MinusSign : IsSign (codes "-") true

-- A mark before digits, and the radix that it stands for.
pub data IsRadixMark : List ℕ → ℕ → Type 0 where
  NoMark : IsRadixMark [] 10
  LowerHexMark : IsRadixMark (codes "0x") 16
  UpperHexMark : IsRadixMark (codes "0X") 16
  LowerBinaryMark : IsRadixMark (codes "0b") 2
  UpperBinaryMark : IsRadixMark (codes "0B") 2
  LowerOctalMark : IsRadixMark (codes "0o") 8
  UpperOctalMark : IsRadixMark (codes "0O") 8

-- v is m modulo 2^n, or with a minus the opposite of m.
pub record IsModulo (n : ℕ) (negative : Bool) (m v : ℕ) : Type 0 where
  pub below : v < 2 ^ n
  pub same : MatchBool negative ((v + m) % 2 ^ n ≡ 0) (v ≡ m % 2 ^ n)

-- `bits[`, a width in decimal, `]:`, a sign, a radix mark and digits denote a number of that width: it is what the digits
-- write modulo 2 to the power of the width. The width is 1 to 1,048,576. What the digits write is below 2^128 and below 2
-- to the power of the width, or at most that with a minus. The number is below 2^128.
pub record Denotes (text : List ℕ) (bits : Bits) : Type 0 where
  pub width_text : List ℕ
  pub sign : List ℕ
  pub mark : List ℕ
  pub digits : List ℕ
  pub negative : Bool
  pub radix : ℕ
  pub parts : text ≡ codes "bits[" ++ (width_text ++ (codes "]:" ++ (sign ++ (mark ++ digits))))
  pub decimal_width : IsTrue (is_decimal width_text)
  pub width : bits.width ≡ weighted 10 width_text
  pub positive : 1 ≤ bits.width
  pub narrow : bits.width ≤ 1048576
  pub is_sign : IsSign sign negative
  pub is_mark : IsRadixMark mark radix
  pub numeral : IsTrue (is_numeral radix digits)
  pub small_magnitude : number_in radix digits < 2 ^ 128
  pub fits : MatchBool negative (number_in radix digits ≤ 2 ^ bits.width) (number_in radix digits < 2 ^ bits.width)
  pub value : IsModulo bits.width negative (number_in radix digits) bits.value
  pub small : bits.value < 2 ^ 128
