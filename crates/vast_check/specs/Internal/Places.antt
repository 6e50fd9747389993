-- Places of a text as compilers tell them.
use Rattle.std.specs.Prelude.{ℕ, ◌+◌, ◌-◌, List, length, take, drop, Bool, not, eqb}
use Rattle.std.specs.List.{count_by, suffix_len}
use Rattle.std.specs.Fmt.{is_char_start}

abbrev pub is_break : ℕ → Bool
is_break byte = eqb byte 10

abbrev pub is_no_break : ℕ → Bool
is_no_break byte = not (eqb byte 10)

-- what stands after the last line break
abbrev pub last_line : List ℕ → List ℕ
last_line bytes = drop (length bytes - suffix_len is_no_break bytes) bytes

-- the line of a place: one more than there are line breaks before it
abbrev pub line_at : List ℕ → ℕ → ℕ
line_at bytes place = count_by is_break (take place bytes) + 1

-- its column: one more than characters begin before it in its line
abbrev pub column_at : List ℕ → ℕ → ℕ
column_at bytes place = count_by is_char_start (last_line (take place bytes)) + 1
