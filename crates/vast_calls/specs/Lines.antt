-- How the lines of a list are told apart: by their front, up to the call's name. A text is a list of bytes.
use Rattle.std.specs.Prelude.{◌≡◌, ℕ, ◌==◌, ◌||◌, ◌-◌, Bool, true, false, List, [], ◌∷◌, ◌++◌, length, map, take, drop, filter, codes, slice_index, Option, Some, None, if◌then◌else◌, cond, eqb}
use Rattle.std.specs.List.{All, before_first, after_first, ends_with, starts_with, position_or_len}
use Rattle.std.specs.Str.{IsUtf8}
use Rattle.std.specs.Borrow.{Bor}
use Rattle.vast_literal.specs.declared.kind.VastFileType.{VastFileType}
use Rattle.vast_literal.specs.declared.kind.VastFileType.TheVariants.{Verilog, SystemVerilog}

-- What a line is: blank or a comment, a question, a helper's call or a step.
pub data LineKind : Type 0 where
  Passed : LineKind
  Asked : LineKind
  Helped : LineKind
  Stepped : LineKind

-- The line without the `CR` at its end.
abbrev pub without_return : List ℕ → List ℕ
without_return line = if ends_with (λ b c. b == c) line (13 ∷ []) then take (length line - 1) line else line

-- A space or a tab.
abbrev pub is_blank : ℕ → Bool
is_blank byte = (byte == 32) || (byte == 9)

-- A space or a tab stands at the front.
abbrev pub begins_blank : List ℕ → Bool
begins_blank [] = false
begins_blank (byte ∷ bytes) = is_blank byte

-- What stands after the blanks at the front.
abbrev pub behind_blanks : List ℕ → List ℕ
behind_blanks [] = []
behind_blanks (byte ∷ bytes) = if is_blank byte then behind_blanks bytes else byte ∷ bytes

-- Nothing, or what begins with `#`.
abbrev pub is_remark : List ℕ → Bool
is_remark [] = true
is_remark (byte ∷ bytes) = byte == 35

-- The text is blank or a comment.
abbrev pub is_passed : List ℕ → Bool
is_passed text = is_remark (behind_blanks text)

-- The first word, which goes to the first space, and what stands after that space.

abbrev pub first_word : List ℕ → List ℕ
first_word text = before_first (λ byte. byte == 32) text

abbrev pub behind_word : List ℕ → List ℕ
behind_word text = after_first (λ byte. byte == 32) text

abbrev pub is_equals_front : List ℕ → Bool
is_equals_front text = starts_with (λ b c. b == c) text (codes "= ")

-- Whether the first word is the name of the line's answer: ` = ` stands after it.
abbrev pub is_named : List ℕ → Bool
is_named text = is_equals_front (behind_word text)

-- The call's name, its sign included: the first word, or the first after the name of the line's answer.
abbrev pub call_word : List ℕ → List ℕ
call_word text = if is_named text then first_word (drop 2 (behind_word text)) else first_word text

-- The name of the line's answer, if it has one.
abbrev pub text_name : List ℕ → Option (List ℕ)
text_name text = if is_named text then Some (first_word text) else None

-- What stands after the call's name, its space included.

abbrev pub behind_first : List ℕ → List ℕ
behind_first text = drop (length (first_word text)) text

abbrev pub behind_call : List ℕ → List ℕ
behind_call text = if is_named text then behind_first (drop 2 (behind_word text)) else behind_first text

-- Questions begin with `?`, helpers with `!`.
abbrev pub word_kind : List ℕ → LineKind
word_kind word = if slice_index word 0 == 63 then Asked else (if slice_index word 0 == 33 then Helped else Stepped)

abbrev pub text_kind : List ℕ → LineKind
text_kind text = if is_passed text then Passed else word_kind (call_word text)

-- What a line is, by its bytes: blank or a comment, a question, a helper or a step.
abbrev pub line_kind : List ℕ → LineKind
line_kind line = text_kind (without_return line)

-- The line is UTF-8 and of this kind.
abbrev pub HasKind : List ℕ → LineKind → Type 0
HasKind line kind = IsUtf8 (without_return line) × (line_kind line ≡ kind)

-- The call's name in the line, its sign included.
abbrev pub line_word : List ℕ → List ℕ
line_word line = call_word (without_return line)

-- The name of its answer, if it has one.
abbrev pub line_name : List ℕ → Option (List ℕ)
line_name line = text_name (without_return line)

-- What stands after the call's name: the arguments, with a space before each.
abbrev pub line_arguments : List ℕ → List ℕ
line_arguments line = behind_call (without_return line)

-- A step or a helper's call.
abbrev pub is_call : LineKind → Bool
is_call Passed = false
is_call Asked = false
is_call Helped = true
is_call Stepped = true

abbrev pub is_call_line : List ℕ → Bool
is_call_line line = is_call (line_kind line)

-- The names of the calls that the lines are, in order.
abbrev pub call_words : (lines : List (List ℕ)) → List (List ℕ)
call_words lines = map line_word (filter is_call_line lines)

-- Lines without their numbers.
abbrev pub line_texts : List (ℕ × Bor (List ℕ)) → List (List ℕ)
line_texts lines = map (λ (line : ℕ × Bor (List ℕ)). line.1.now) lines

-- The word of a dialect.
abbrev pub dialect_word : VastFileType → List ℕ
dialect_word Verilog = codes "verilog"
dialect_word SystemVerilog = codes "systemverilog"

-- The line is the word of a dialect.
abbrev pub NamesDialect : List ℕ → Type 0
NamesDialect line = (dialect : VastFileType) × (without_return line ≡ dialect_word dialect)

-- The first line that is neither blank nor a comment names the dialect, and these stand after it.
abbrev pub BeginsWithDialect : (lines : List (List ℕ)) → VastFileType → (behind : List (List ℕ)) → Type 0
BeginsWithDialect lines dialect behind =
    (passed : List (List ℕ)) × (line : List ℕ) × All (λ l. line_kind l ≡ Passed) passed × (without_return line ≡ dialect_word dialect) × (lines ≡ passed ++ line ∷ behind)

-- The byte is a line feed.
abbrev pub is_line_feed : ℕ → Bool
is_line_feed byte = eqb byte 10

-- The first line is one byte longer.
abbrev pub longer : ℕ → List (List ℕ) → List (List ℕ)
longer byte [] = (byte ∷ []) ∷ []
longer byte (line ∷ lines) = (byte ∷ line) ∷ lines

-- Each line of a text is ended by a line feed, which the last one may lack; after the last line feed no line begins.
abbrev pub lines_of : List ℕ → List (List ℕ)
lines_of [] = []
lines_of (byte ∷ bytes) = cond (is_line_feed byte) ([] ∷ lines_of bytes) (longer byte (lines_of bytes))

-- None of the bytes is a line feed.
abbrev pub HasNoFeed : List ℕ → Type 0
HasNoFeed bytes = position_or_len is_line_feed bytes ≡ length bytes

-- The first line feed of the bytes ends the line.
abbrev pub IsEnded : (bytes line behind : List ℕ) → Type 0
IsEnded bytes line behind = HasNoFeed line × (bytes ≡ line ++ 10 ∷ behind)

-- What is left of a line after a word, with the space before it.
abbrev pub left : Option (Bor (List ℕ)) → List ℕ
left None = []
left (Some rest) = 32 ∷ rest.now
