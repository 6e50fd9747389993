-- Which texts are one literal token or one string token.
use Rattle.std.specs.Prelude.{ℕ, List, [], ◌∷◌, Bool, true, false, cond, not, ◌&&◌, ◌||◌, eqb}
use Rattle.vast_literal.specs.Scan.{is_digit, is_radix, is_based_digit, is_filler}

-- Each element passes the test.
abbrev pub every : {A : Type 0} → (A → Bool) → List A → Bool
every passes [] = true
every passes (x ∷ xs) = passes x && every passes xs

-- One or more digits.
abbrev pub is_number : List ℕ → Bool
is_number [] = false
is_number (c ∷ cs) = is_digit c && every is_digit cs

-- One or more digits of a based literal.
abbrev pub is_based_number : List ℕ → Bool
is_based_number [] = false
is_based_number (c ∷ cs) = is_based_digit c && every is_based_digit cs

-- A radix and digits.
abbrev pub is_radix_tail : List ℕ → Bool
is_radix_tail [] = false
is_radix_tail (c ∷ cs) = is_radix c && is_based_number cs

-- What stands after the apostrophe: a radix, or `s` and a radix, and digits.
abbrev pub is_based_tail : List ℕ → Bool
is_based_tail [] = false
is_based_tail (c ∷ cs) = cond (eqb c 115) (is_radix_tail cs) (is_radix_tail (c ∷ cs))

-- A size or none, an apostrophe, and what stands after it.
abbrev pub is_based : List ℕ → Bool
is_based [] = false
is_based (c ∷ cs) = cond (eqb c 39) (is_based_tail cs) (is_digit c && is_based cs)

-- An apostrophe and a byte that fills all bits.
abbrev pub is_filled : List ℕ → Bool
is_filled (a ∷ c ∷ []) = eqb a 39 && is_filler c
is_filled _ = false

-- One literal token.
abbrev pub is_bare_literal : List ℕ → Bool
is_bare_literal text = is_number text || (is_based text || is_filled text)

-- An optional minus and one literal token: the text of a literal.
abbrev pub is_literal_text : List ℕ → Bool
is_literal_text [] = false
is_literal_text (c ∷ cs) = cond (eqb c 45) (is_bare_literal cs) (is_bare_literal (c ∷ cs))

-- No bytes.
abbrev pub is_done : List ℕ → Bool
is_done [] = true
is_done _ = false

-- After the opening quote stand bytes other than quote, backslash and line break, or a backslash with any but a line
-- break, up to the quote that ends the text; `escaped` says that a backslash stands before.
abbrev pub is_string_rest : (escaped : Bool) → List ℕ → Bool
is_string_rest escaped [] = false
is_string_rest true (c ∷ cs) = not (eqb c 10) && is_string_rest false cs
is_string_rest false (c ∷ cs) = cond (eqb c 34) (is_done cs) (not (eqb c 10) && is_string_rest (eqb c 92) cs)

-- One string token, with its quotes: the text of a string.
abbrev pub is_string_text : List ℕ → Bool
is_string_text [] = false
is_string_text (c ∷ cs) = eqb c 34 && is_string_rest false cs
