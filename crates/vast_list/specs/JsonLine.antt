-- What a list gives as a line of JSON: how the line ends.
use Rattle.std.specs.Prelude.{◌≡◌, ℕ, false, List, ◌++◌, codes}
use Rattle.vast_list.specs.declared.output.Verdict.{Verdict}
use Rattle.vast_list.specs.declared.output.Verdict.TheVariants.{Made, Refused, NotInForm}
use Rattle.vast_list.specs.Built.{IsListText}
use Rattle.vast_calls.specs.Json.{json_text}

-- The line ends with this value under the name `text`.
abbrev pub EndsWithText : (value line : List ℕ) → Type 0
EndsWithText value line = (front : List ℕ) × (line ≡ front ++ codes ",\"text\":" ++ value ++ codes "}\n")

-- Where nothing was at fault, that is the text that the list's lines build; else there is none.
abbrev pub IsListJson : Verdict → (lines : List (List ℕ)) → (line : List ℕ) → Type 0
IsListJson Made lines line = (text : List ℕ) × IsListText false lines text × EndsWithText (json_text text) line
IsListJson Refused lines line = EndsWithText (codes "null") line
IsListJson NotInForm lines line = EndsWithText (codes "null") line
