-- Beside `specs/Untitled.antt`: what private contracts and proofs say, and no public one.
use Rattle.std.specs.Prelude.{◌≡◌, ℕ, List, [], ◌∷◌, ◌++◌, All}
use Rattle.vast_list.specs.declared.untitled.Stage.{Stage}
use Rattle.vast_calls.specs.Lines.{Passed, line_kind}
use Rattle.vast_list.specs.Untitled.{HaveLedTo}

-- After blank lines and comments, the line leads to this.
abbrev pub LeadsTo : (line : List ℕ) → Stage → Type 0
LeadsTo line stage =
    (lines : List (List ℕ)) → All (λ l. line_kind l ≡ Passed) lines → HaveLedTo (lines ++ line ∷ []) stage
