-- Kinds of tokens, and sets of them as the bits of a number.
use Rattle.std.specs.Prelude.{ℕ, ◌+◌, Bool, cond, codes, nat_eq}
use Rattle.std.specs.Int.{bit_at}
use Rattle.std.specs.Str.{bytes_eq}
use Rattle.vast_literal.specs.Tokens.{Token}
use Rattle.vast_literal.specs.Tokens as tokens
use Rattle.vast_rows.specs.Numbers.{mark_number, sign_number, key_number}
use Rattle.vast_rows.specs.declared.kind.Kind.{Kind}
use Rattle.vast_rows.specs.declared.kind.Kind.TheVariants.{End, Word, Keyword, SystemWord, MacroWord, IncludeWord, Number, Based, Quoted, Mark, Operator, Reserved}

abbrev pub kind_of : Token → Kind
kind_of (tokens.Word w) = Word
kind_of (tokens.Keyword w) = Keyword
kind_of (tokens.SystemWord w) = SystemWord
kind_of (tokens.MacroWord w) = cond (bytes_eq w (codes "include")) IncludeWord MacroWord
kind_of (tokens.Number w) = Number
kind_of (tokens.Based w) = Based
kind_of (tokens.Quoted w) = Quoted
kind_of (tokens.Mark m) = Mark m
kind_of (tokens.Operator op) = Operator op
kind_of (tokens.Reserved k) = Reserved k

-- The number of a kind.
abbrev pub number : Kind → ℕ
number End = 0
number Word = 1
number Keyword = 2
number SystemWord = 3
number MacroWord = 4
number IncludeWord = 5
number Number = 6
number Based = 7
number Quoted = 8
number (Mark m) = 9 + mark_number m
number (Operator op) = 26 + sign_number op
number (Reserved k) = 50 + key_number k

-- The kind of a token as a number.
abbrev pub token_kind : Token → ℕ
token_kind t = number (kind_of t)

-- Whether the kind is in the set.
abbrev pub has : (set kind : ℕ) → Bool
has set kind = nat_eq (bit_at set kind) 1
