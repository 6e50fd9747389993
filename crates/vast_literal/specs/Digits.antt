-- Digits: the numbers that they write, read and written.
use Rattle.std.specs.Prelude.{ℕ, zero, suc, ◌+◌, ◌*◌, ◌/◌, ◌%◌, ◌^◌, max, List, [], ◌∷◌, ◌++◌, length, Bool, not, nat_lt, ◌&&◌, ◌||◌, ◌==◌, filter, if◌then◌else◌}
use Rattle.std.specs.List.{list_all, list_any}
use Rattle.std.specs.Char.{digit_value, digit_char, is_digit}
use Rattle.std.specs.Int.Digits.{digits_of}

-- An underscore.
abbrev pub is_gap : ℕ → Bool
is_gap c = c == 95

-- What may stand among the digits of a radix: a digit, its letter in either case, or an underscore.
abbrev pub is_digit_or_gap : ℕ → ℕ → Bool
is_digit_or_gap radix c = is_gap c || is_digit c radix

-- Digits of a radix and underscores, with one digit at least.
unfoldable pub is_numeral : ℕ → List ℕ → Bool
is_numeral radix text = list_all (is_digit_or_gap radix) text && list_any (λ c. not (is_gap c)) text

-- The digits without their underscores.
unfoldable pub digits_in : List ℕ → List ℕ
digits_in text = filter (λ c. not (is_gap c)) text

-- The sum of digits times powers of the radix, the highest first.
abbrev pub weighted : ℕ → List ℕ → ℕ
weighted radix [] = 0
weighted radix (c ∷ cs) = digit_value c * radix ^ length cs + weighted radix cs

-- The number that digits and underscores write.
unfoldable pub number_in : ℕ → List ℕ → ℕ
number_in radix text = weighted radix (digits_in text)

-- The digits of a number in a radix, so many from the lowest, written with the highest first.
unfoldable pub lowest_digits : ℕ → ℕ → ℕ → List ℕ
lowest_digits radix zero n = []
lowest_digits radix (suc count) n = (n / radix ^ count % radix) ∷ lowest_digits radix count n

-- How many digits a number has in a radix, one at least.
unfoldable pub digit_count : ℕ → ℕ → ℕ
digit_count radix n = max 1 (length (digits_of radix n))

-- The characters of digits.
abbrev pub characters : List ℕ → List ℕ
characters [] = []
characters (d ∷ ds) = digit_char d ∷ characters ds

-- What separates a digit with so many digits after it from the next: an underscore between groups of four.
unfoldable pub separator : ℕ → List ℕ
separator count = if nat_lt 0 count && (count % 4 == 0) then 95 ∷ [] else []

-- The characters of digits, with an underscore between groups of four digits from the right.
abbrev pub grouped : List ℕ → List ℕ
grouped [] = []
grouped (d ∷ ds) = digit_char d ∷ (separator (length ds) ++ grouped ds)
