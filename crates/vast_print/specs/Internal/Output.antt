-- Beside `specs/Output.antt`: what private contracts and proofs say, and no public one.
use Rattle.std.specs.Prelude.{◌≡◌, Result, Ok, Err}
use Rattle.vast_print.specs.declared.refusal.PrintFault.{PrintFault}
use Rattle.vast_print.specs.declared.refusal.PrintFault.TheVariants.{Refused, Memory}
use Rattle.vast_print.specs.Printed.{Printed}
use Rattle.vast_print.specs.Page.{Page, written}
use Rattle.vast_print.specs.Draft.{Writing}
use Rattle.vast_print.specs.Output.{Output, Unstopped, Stopped, indented, inline}

-- what a call that is to leave this output does: the draft is the output and the margin what it was, or the answer is the output's
-- refusal, or memory ends
abbrev pub Writes : (old new : Writing) → Result (Unit {0}) PrintFault → Output → Type 0
Writes old new (Ok _) output = (output ≡ Unstopped new.draft) × (new.margin ≡ old.margin)
Writes old new (Err (Refused r)) output = output ≡ Stopped r
Writes old new (Err (Memory error)) output = Unit {0}

-- a page on lines of its own
abbrev pub WritesLines : (old new : Writing) → Result (Unit {0}) PrintFault → Page → Type 0
WritesLines old new result p = Writes old new result (indented old.margin (Unstopped old.draft) p)

-- a page after the last line
abbrev pub WritesBehind : (old new : Writing) → Result (Unit {0}) PrintFault → Page → Type 0
WritesBehind old new result p = Writes old new result (inline old.margin (Unstopped old.draft) p)

-- a text after the last line
abbrev pub WritesText : (old new : Writing) → Result (Unit {0}) PrintFault → Printed → Type 0
WritesText old new result p = WritesBehind old new result (written p)
