-- The words with which the program is called.
use Rattle.std.specs.Prelude.{ℕ, Bool, false, List, [], ◌∷◌, Option, Some, None, codes, if◌then◌else◌}
use Rattle.std.specs.Str.{bytes_eq}
use Rattle.std.specs.Borrow.{Bor}
use Rattle.vast_designs.specs.DesignTexts.{passthrough_text, cases_text, registers_text}

-- the text of the design of this name
abbrev pub text_of : (name : List ℕ) → Option (List ℕ)
text_of name =
    if bytes_eq name (codes "passthrough") then Some passthrough_text
    else if bytes_eq name (codes "cases") then Some cases_text
    else if bytes_eq name (codes "registers") then Some registers_text
    else None

-- the text of the design that the words name: there is one word, and it is the design's name
abbrev pub design_text : List (Bor (List ℕ)) → Option (List ℕ)
design_text (word ∷ []) = text_of word.now
design_text _ = None

-- there is one word, and it is `check`
abbrev pub is_check : List (Bor (List ℕ)) → Bool
is_check (word ∷ []) = bytes_eq word.now (codes "check")
is_check _ = false
