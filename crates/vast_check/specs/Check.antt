-- What is read and found, and what is written of it.
use Rattle.std.specs.Prelude.{ℕ, List, ◌++◌, codes, Option, IsUtf8}
use Rattle.std.specs.Io.KnownBytes.{Appends}
use Rattle.vast_shell.specs.Input.{GivesAll}
use Rattle.vast_literal.specs.NormalFile.{NormalFile}
use Rattle.vast_literal.specs.FileGrammar.{DerivesFile}

-- the bytes are the UTF-8 of a text that the grammar derives
abbrev pub IsDerived : List ℕ → Type 0
IsDerived bytes = IsUtf8 bytes × ((t : NormalFile) × DerivesFile bytes t)

-- the line that tells so of the source of this name
abbrev pub derived_line : (name : List ℕ) → List ℕ
derived_line name = name ++ codes ": derived\n"

-- All that the reader gives is derived, and that is written, and nothing else.
abbrev pub TellsDerived : (name : List ℕ) → (before after old new : Option (List ℕ)) → Type 0
TellsDerived name before after old new = (bytes : List ℕ) × GivesAll before after bytes × IsDerived bytes × Appends old new (derived_line name)

-- All that the reader gives isn't derived.
abbrev pub TellsUnderived : (before after : Option (List ℕ)) → Type 0
TellsUnderived before after = (bytes : List ℕ) × GivesAll before after bytes × (IsDerived bytes → ⊥)

-- Both are the UTF-8 of texts, and the grammar derives one file from both.
abbrev pub AreSame : (old new : List ℕ) → Type 0
AreSame old new = IsUtf8 old × IsUtf8 new × ((t : NormalFile) × DerivesFile old t × DerivesFile new t)
