-- What is written of a session: a reply to each line. A text is a list of bytes.
use Rattle.std.specs.Prelude.{◌≡◌, ℕ, ◌+◌, ◌-◌, ◌^◌, List, [], ◌∷◌, ◌++◌, Bool, Option, None, min}
use Rattle.std.specs.Io.KnownBytes.{Appends}
use Rattle.vast_talk.specs.Linted.{HasItsLint}
use Rattle.vast_talk.specs.Replies.{IsReply}
use Rattle.vast_talk.specs.declared.repl.Repl.{Repl}

-- Before the first line.
pub record IsBegun (lint : Bool) (repl : Repl) : Type 0 where
  pub has_lint : repl.has_lint ≡ lint
  pub session : repl.session ≡ None
  pub number : repl.number ≡ 0
  pub beside : HasItsLint repl

-- The line was counted, and this is the reply to it.
pub record RepliesOnce (old new : Repl) (line reply : List ℕ) : Type 0 where
  pub told : IsReply old new line reply
  pub counted : new.number ≡ min (old.number + 1) (2 ^ 64 - 1)
  pub lint : new.has_lint ≡ old.has_lint

-- The text is the replies to the lines, one after another.
abbrev pub RepliesToEach : (old new : Repl) → (lines : List (List ℕ)) → (text : List ℕ) → Type 0
RepliesToEach old new [] text = (new ≡ old) × (text ≡ [])
RepliesToEach old new (line ∷ lines) text =
    (between : Repl) × (reply : List ℕ) × (more : List ℕ) × RepliesOnce old between line reply × RepliesToEach between new lines more × (text ≡ reply ++ more)

-- The replies to the lines were written, from the first line of a session on.
abbrev pub WritesReplies : (lint : Bool) → (lines : List (List ℕ)) → (old new : Option (List ℕ)) → Type 0
WritesReplies lint lines old new = (first : Repl) × (last : Repl) × (text : List ℕ) × IsBegun lint first × RepliesToEach first last lines text × Appends old new text
