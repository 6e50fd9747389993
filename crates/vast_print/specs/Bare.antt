-- Texts that stand bare before the apostrophe of a cast.
use Rattle.std.specs.Prelude.{ℕ, Bool, false, ◌&&◌, ◌||◌, ◌==◌, List, [], ◌∷◌}
use Rattle.std.specs.Char.{is_ascii_alphabetic, is_ascii_alphanumeric}
use Rattle.std.specs.List.{list_all}
use Rattle.vast_literal.specs.Literal.{is_decimal}

-- a letter or an underscore
abbrev pub begins_word : ℕ → Bool
begins_word c = is_ascii_alphabetic c || c == 95

-- a letter, a digit, an underscore or a dollar sign
abbrev pub continues_word : ℕ → Bool
continues_word c = is_ascii_alphanumeric c || (c == 95 || c == 36)

abbrev pub is_word : List ℕ → Bool
is_word [] = false
is_word (c ∷ w) = begins_word c && list_all continues_word w

unfoldable pub is_bare : List ℕ → Bool
is_bare w = is_decimal w || is_word w
