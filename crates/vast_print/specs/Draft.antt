-- The text that a writer holds.
use Rattle.std.specs.Prelude.{ℕ, List, [], ◌∷◌, ◌++◌, Bool, true, false, cond}

-- the text without its last line break, the depth of its last line, whether that line is empty, and whether there is a line
pub record Draft : Type 0 where
  pub text : List ℕ
  pub depth : ℕ
  pub fresh : Bool
  pub begun : Bool

-- what a writer holds: its text, and the margin, which is the depth at which lines begin
pub record Writing : Type 0 where
  pub draft : Draft
  pub margin : ℕ

abbrev pub unwritten : Draft
unwritten = record { text = []; depth = 0; fresh = true; begun = false }

-- nothing is written, and no margin
abbrev pub blank : Writing
blank = record { draft = unwritten; margin = 0 }

-- the whole text: a line break ends the last line
unfoldable pub whole : Draft → List ℕ
whole k = cond k.begun (k.text ++ 10 ∷ []) k.text
