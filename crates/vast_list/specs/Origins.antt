-- Which calls the lines of a text come from: each line has the number of the line of the list whose call wrote it.
use Rattle.std.specs.Prelude.{◌≡◌, ℕ, false, List, ◌∷◌, ◌++◌, Option, IfSome, IsTrue, is_some}
use Rattle.std.specs.Fmt.{decimal}
use Rattle.std.specs.List.{flat_map}
use Rattle.vast_print.specs.Layout.{IsFileText}
use Rattle.vast_list.specs.declared.origins.Origins.{Origins}
use Rattle.vast_list.specs.declared.origins.TextLine.{TextLine}
use Rattle.vast_list.specs.declared.output.Verdict.{Verdict}
use Rattle.vast_list.specs.Built.{IsListText}
use Rattle.vast_list.specs.Output.{is_made}

-- The text of the lines.
abbrev pub text_of : List TextLine → List ℕ
text_of lines = flat_map (λ (line : TextLine). line.bytes.items) lines

-- The lines, each after the number of the line of the list whose call wrote it, and a tab.
abbrev pub numbered : List TextLine → List ℕ
numbered lines = flat_map (λ (line : TextLine). decimal line.origin ++ 9 ∷ line.bytes.items) lines

-- Where an output ends with the lines, the numbers stand before these, and all before them is as it was.
abbrev pub EndsNumbered : List TextLine → (output mapped : List ℕ) → Type 0
EndsNumbered lines output mapped = (before : List ℕ) → output ≡ before ++ text_of lines → mapped ≡ before ++ numbered lines

-- The lines are those of a file's text; where nothing of the list was at fault, of the text that the list's lines build.
pub record IsMapOf (lines : List (List ℕ)) (verdict : Verdict) (origins : Origins) : Type 0 where
  pub file : IsFileText (text_of origins.lines.items)
  pub list : IsTrue (is_made verdict) → IsListText false lines (text_of origins.lines.items)

-- Where nothing of the list was at fault, its text has lines.
abbrev pub IsMapped : (lines : List (List ℕ)) → Option Origins → Verdict → Type 0
IsMapped lines found verdict = IfSome found (IsMapOf lines verdict) × (IsTrue (is_made verdict) → IsTrue (is_some found))
