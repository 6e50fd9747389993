-- What is written for words.
use Rattle.std.specs.Prelude.{ℕ, ◌+◌, List, Option}
use Rattle.std.specs.Io.KnownBytes.{Appends}
use Rattle.vast_print.specs.Layout.{IsFileText}

-- known bytes grow by a file's text
abbrev pub ShowsFile : (before after : Option (List ℕ)) → Type 0
ShowsFile before after = (text : List ℕ) × IsFileText text × Appends before after text

-- Known bytes grow by the texts of so many files, one after the other.
pub data ShowsFiles (before : Option (List ℕ)) : (count : ℕ) → (after : Option (List ℕ)) → Type 0 where
  none_shown : ShowsFiles before 0 before
  one_more : (count : ℕ) (between after : Option (List ℕ)) → ShowsFiles before count between → ShowsFile between after → ShowsFiles before (count + 1) after
