-- What is printed of a list.
use Rattle.std.specs.Prelude.{◌≡◌, ℕ, Bool, true, false, List, ◌++◌, codes, Option, Some, None, IsTrue, is_some}
use Rattle.std.specs.Borrow.{Bor}
use Rattle.vast_list.specs.declared.answering.ListRun.{ListRun}
use Rattle.vast_list.specs.declared.output.ListOutput.{ListOutput}
use Rattle.vast_list.specs.declared.output.Verdict.{Verdict}
use Rattle.vast_list.specs.declared.output.Verdict.TheVariants.{Made, Refused, NotInForm}
use Rattle.vast_list.specs.declared.tries.Tries.{Tries}
use Rattle.vast_list.specs.declared.tries.Tries.TheVariants.{Once, Again}
use Rattle.vast_list.specs.Built.{IsListText}

-- the line before a list
abbrev pub header_line : (title : List ℕ) → List ℕ
header_line title = codes "== " ++ title ++ codes "\n"

-- lines that are refused memory are taken again
abbrev pub is_again : Tries → Bool
is_again Once = false
is_again Again = true

-- nothing of the list was at fault
abbrev pub is_made : Verdict → Bool
is_made Made = true
is_made Refused = false
is_made NotInForm = false

-- where a call was refused, the list is at fault
abbrev pub StopsAtFault : ListRun → Type 0
StopsAtFault answering = IsTrue answering.is_stopped → is_made answering.told.verdict ≡ false

-- the text that the list's lines build stands at the end
abbrev pub EndsWithList : Tries → (lines : List (List ℕ)) → (output : List ℕ) → Type 0
EndsWithList tries lines output = (front : List ℕ) × (text : List ℕ) × IsListText (is_again tries) lines text × (output ≡ front ++ text)

-- the output is the line before the list and what stands after that; where nothing was at fault, the text that the list's
-- lines build stands at the end of it
abbrev pub IsTitled : Tries → (title : List ℕ) → (lines : List (List ℕ)) → Verdict → (output : List ℕ) → Type 0
IsTitled tries title lines verdict output =
    (behind : List ℕ) × (output ≡ header_line title ++ behind) × (IsTrue (is_made verdict) → EndsWithList tries lines behind)

-- what is printed of a list with a title; of one without it is the text that the list's lines build, and nothing else
abbrev pub IsOutput : Tries → Option (Bor (List ℕ)) → (lines : List (List ℕ)) → Verdict → (output : List ℕ) → Type 0
IsOutput tries (Some title) lines verdict output = IsTitled tries title.now lines verdict output
IsOutput tries None lines verdict output = IsListText (is_again tries) lines output

-- where nothing of the list was at fault, something is printed of it
abbrev pub IsPrinted : ListOutput → Type 0
IsPrinted made = IsTrue (is_made made.verdict) → IsTrue (is_some made.output)
