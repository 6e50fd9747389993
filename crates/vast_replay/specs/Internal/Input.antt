-- Beside `specs/Input.antt`: what private contracts and proofs say, and no public one.
use Rattle.std.specs.Prelude.{◌≡◌, ℕ, List, ◌++◌, Option, IfSome, false}
use Rattle.std.specs.Io.KnownBytes.{Consumes}
use Rattle.vast_list.specs.Built.{IsListText}
use Rattle.vast_calls.specs.Lines.{HasNoFeed, lines_of}
use Rattle.vast_list.specs.Untitled.{HasTaken}
use Rattle.vast_list.specs.declared.output.ListOutput.{ListOutput}
use Rattle.vast_replay.specs.declared.input.InputLines.{InputLines}

-- The bytes so far are lines that were taken, and what is left, whatever comes after them.
pub record HasRead (lines : InputLines) (bytes : List ℕ) : Type 0 where
  pub none : HasNoFeed lines.left.items
  pub taken : (taken : List (List ℕ)) × HasTaken taken lines.list × ((more : List ℕ) → lines_of (bytes ++ more) ≡ taken ++ lines_of (lines.left.items ++ more))

-- Whatever the bytes before were, these are more.
abbrev pub ReadsOn : (old new : InputLines) → (more : List ℕ) → Type 0
ReadsOn old new more = (bytes : List ℕ) → HasRead old bytes → HasRead new (bytes ++ more)

abbrev pub ReadsInput : (old new : InputLines) → (before behind : Option (List ℕ)) → Type 0
ReadsInput old new before behind = (input : List ℕ) × Consumes before behind input × ReadsOn old new input

-- What is printed is the text that the lines of the bytes build.
abbrev pub GivesTextOf : InputLines → ListOutput → Type 0
GivesTextOf lines made = (bytes : List ℕ) → HasRead lines bytes → IfSome made.output (λ text. IsListText false (lines_of bytes) text.items)
