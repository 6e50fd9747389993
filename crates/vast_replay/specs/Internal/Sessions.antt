-- Beside `specs/Sessions.antt`: what private contracts and proofs say, and no public one.
use Rattle.std.specs.Prelude.{◌≡◌, ◌≢◌, ◌⊎◌, ℕ, List, [], ◌∷◌, ◌++◌, Option, Some, None, Vec}
use Rattle.std.specs.declared.alloc.Global.{Global}
use Rattle.std.specs.Io.KnownBytes.{Appends}
use Rattle.vast_calls.specs.Lines.{lines_of}
use Rattle.vast_replay.specs.Sessions.{RepliesToEach}
use Rattle.vast_talk.specs.declared.repl.Repl.{Repl}

-- A line without the line feed at its end, if it has one.
abbrev pub IsWithoutFeed : (piece line : List ℕ) → Type 0
IsWithoutFeed piece line = (piece ≡ line ++ 10 ∷ []) ⊎ ((line ≡ piece) × ((front : List ℕ) → piece ≢ front ++ 10 ∷ []))

-- Of these bytes the first line was read, and these are after it; or there are none.
abbrev pub ReadsLine : (bytes : List ℕ) → (behind : Option (List ℕ)) → Option (Vec ℕ Global) → Type 0
ReadsLine bytes behind None = bytes ≡ []
ReadsLine bytes behind (Some line) = (rest : List ℕ) × (behind ≡ Some rest) × (lines_of bytes ≡ line.items ∷ lines_of rest)

-- The replies to all lines of the bytes were written.
abbrev pub HasRepliedAll : (bytes : List ℕ) → (old new : Repl) → (before behind : Option (List ℕ)) → Type 0
HasRepliedAll bytes old new before behind = (text : List ℕ) × RepliesToEach old new (lines_of bytes) text × Appends before behind text
