-- The text of a word, wherever it lies.
use Rattle.std.specs.Prelude.{ℕ, List, string_bytes}
use Rattle.vast_names.specs.declared.word.Kept.{Kept}
use Rattle.vast_names.specs.declared.word.Kept.TheVariants.{Short, Long}

-- A word's text, in the word itself or apart.
abbrev pub kept_text : Kept → List ℕ
kept_text (Short text) = text
kept_text (Long text) = string_bytes text.value
