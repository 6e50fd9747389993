-- What is made of files as what it stands for: trees.
use Rattle.std.specs.Prelude.{◌≡◌, ℕ, List, [], Option, Some, None}
use Rattle.vast_literal.specs.FileGrammar.{IsFile}
use Rattle.vast_literal.specs.NormalFile as normal
use Rattle.vast_literal.specs.Scan.{Gap}
use Rattle.vast_read.specs.Lexed.{lex}
use Rattle.vast_read.specs.Internal.Made.{events_heard}
use Rattle.vast_read.specs.declared.made.heard.Heard.{Heard}
use Rattle.vast_rows.specs.Trace.{trace}
use Rattle.vast_read.specs.FileView.{file_view}
use Rattle.vast_read.specs.declared.tree.file.NormalFile.{NormalFile}

-- What was read of a text: the file that its tokens spell, or none, where they spell none.
abbrev pub IsFileOf : List ℕ → Option NormalFile → Type 0
IsFileOf text (Some x) = IsFile (lex Gap text) (file_view x)
IsFileOf text None = (t : normal.NormalFile) → IsFile (lex Gap text) t → ⊥

-- What was heard of the file that the tokens of a text spell, or nothing, where they spell none.
abbrev pub IsHeardOf : List ℕ → Option Heard → Type 0
IsHeardOf text (Some h) = (t : normal.NormalFile) × IsFile (lex Gap text) t × (events_heard h.events ≡ trace t [])
IsHeardOf text None = (t : normal.NormalFile) → IsFile (lex Gap text) t → ⊥
