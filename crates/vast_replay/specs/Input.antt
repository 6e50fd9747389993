-- What is printed of an input that is one list. A text is a list of bytes.
use Rattle.std.specs.Prelude.{◌≡◌, ◌==◌, ◌⊎◌, ℕ, Bool, true, false, List, ◌∷◌, [], Option, IfSome, IsTrue, cond, codes, drop, is_some, ⊤}
use Rattle.std.specs.Io.KnownBytes.{Appends, Consumes}
use Rattle.std.specs.List.{starts_with}
use Rattle.vast_list.specs.Built.{IsListText}
use Rattle.vast_calls.specs.Lines.{lines_of}
use Rattle.vast_list.specs.Output.{IsPrinted}
use Rattle.vast_list.specs.PackedLists.{IsPackedText}
use Rattle.vast_list.specs.declared.output.ListOutput.{ListOutput}
use Rattle.vast_list.specs.declared.tries.Tries.TheVariants.{Once}
use Rattle.vast_replay.specs.declared.input.ReadInput.{ReadInput}
use Rattle.vast_replay.specs.declared.input.ReadInput.TheVariants.{Bytes, List as OneList}
use Rattle.vast_replay.specs.declared.program.Manner.{Manner}
use Rattle.vast_replay.specs.declared.words.Form.TheVariants.{Text}
use Rattle.vast_replay.specs.declared.words.Linting.TheVariants.{Off}

-- The text begins so.
abbrev pub begins_with : (front text : List ℕ) → Bool
begins_with front text = starts_with (λ b c. b == c) text front

-- The input after its byte order mark, if it begins with one.
abbrev pub unmarked : (input : List ℕ) → List ℕ
unmarked input = cond (begins_with (239 ∷ 187 ∷ 191 ∷ []) input) (drop 3 input) input

-- The first line is a header.
abbrev pub has_header : (input : List ℕ) → Bool
has_header input = begins_with (codes "== ") (unmarked input)

-- The text is the printed layout of the tree that the input's lines build; or its calls, where it is a packed list.
abbrev pub IsTextOfInput : (input text : List ℕ) → Type 0
IsTextOfInput input text = IsListText false (lines_of (unmarked input)) text ⊎ IsPackedText input text

-- Texts alone are printed, and each line is taken once.
pub record PrintsTexts (manner : Manner) : Type 0 where
  pub form : manner.form ≡ Text
  pub map : manner.map ≡ false
  pub lint : manner.lint ≡ Off
  pub tries : manner.tries ≡ Once

-- A reader that has this before and that after gave an input, which begins with a header, or whose text was printed.
abbrev pub PrintsInput : (before behind : Option (List ℕ)) → (old new : Option (List ℕ)) → Type 0
PrintsInput before behind old new =
    (input : List ℕ) × Consumes before behind input × (has_header input ≡ false → (text : List ℕ) × Appends old new text × IsTextOfInput input text)

-- What was taken of the input: all of it, where it begins with a header; else what its one list gave.
abbrev pub IsTakenOf : (input : List ℕ) → ReadInput → Type 0
IsTakenOf input (Bytes bytes) = has_header input ≡ true
IsTakenOf input (OneList made) = IsPrinted made × IfSome made.output (λ text. IsTextOfInput input text.items)

-- A reader that had this before and has that after gave an input, of which this was taken.
abbrev pub GivesTaken : (before behind : Option (List ℕ)) → ReadInput → Type 0
GivesTaken before behind taken = (input : List ℕ) × Consumes before behind input × IsTakenOf input taken

-- Where something is printed of a list that is not at fault, it was written.
abbrev pub WritesMade : ListOutput → (old new : Option (List ℕ)) → Type 0
WritesMade made old new = IsPrinted made → IsTrue (is_some made.output) × IfSome made.output (λ text. Appends old new text.items)

abbrev pub WritesTaken : ReadInput → (old new : Option (List ℕ)) → Type 0
WritesTaken (Bytes bytes) old new = ⊤
WritesTaken (OneList made) old new = WritesMade made old new
