-- What texts tell of their files.
use Rattle.std.specs.Prelude.{◌≡◌, ℕ, List, [], Bool, Option, Some, None}
use Rattle.vast_literal.specs.FileGrammar.{IsFile}
use Rattle.vast_literal.specs.NormalFile.{NormalFile}
use Rattle.vast_literal.specs.Scan.{Gap}
use Rattle.vast_rows.specs.Trace.{trace}
use Rattle.vast_read.specs.Lexed.{lex}
use Rattle.vast_read.specs.Internal.Comparison.{Tells}
use Rattle.vast_read.specs.Internal.Transcripts.{written, written_in, entries}
use Rattle.vast_read.specs.declared.transcript.Transcript.{Transcript}

-- The tokens of a text spell no file.
abbrev pub IsFileless : List ℕ → Type 0
IsFileless text = (t : NormalFile) → IsFile (lex Gap text) t → ⊥

-- What is told of the file that the tokens of a text spell, or nothing, where they spell none.
abbrev pub IsToldOf : List ℕ → Option Transcript → Type 0
IsToldOf text None = IsFileless text
IsToldOf text (Some told) = (t : NormalFile) × IsFile (lex Gap text) t × (written_in told ≡ written (entries (trace t [])))

-- Whether a transcript is that of the file that the tokens of a text spell.
abbrev pub IsFollowed : List ℕ → Transcript → Option Bool → Type 0
IsFollowed text told None = IsFileless text
IsFollowed text told (Some b) = (t : NormalFile) × IsFile (lex Gap text) t × Tells b (written_in told) (written (entries (trace t [])))
