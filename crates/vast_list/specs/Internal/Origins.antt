-- Beside `specs/Origins.antt`: what private contracts and proofs say, and no public one.
use Rattle.std.specs.Prelude.{◌≡◌, ℕ, false, List, ◌++◌, ◌⊎◌, All, Option, Some, None}
use Rattle.std.specs.List.{Any}
use Rattle.vast_core.specs.FileTree.{tree}
use Rattle.vast_list.specs.declared.answering.ListRun.{ListRun}
use Rattle.vast_list.specs.declared.origins.Origins.{Origins}
use Rattle.vast_list.specs.declared.origins.TextLine.{TextLine}
use Rattle.vast_list.specs.declared.output.Verdict.{Verdict}
use Rattle.vast_list.specs.Origins.{text_of}
use Rattle.vast_list.specs.Output.{is_made}
use Rattle.vast_session.specs.Session.{IsTextOf}

-- One of the lines has this origin.
abbrev pub IsOriginIn : (lines : List TextLine) → (origin : ℕ) → Type 0
IsOriginIn lines origin = Any (λ (line : TextLine). line.origin ≡ origin) lines

-- The line comes from the call, or goes on from one of these.
abbrev pub ComesFrom : (call : ℕ) (kept : List TextLine) → TextLine → Type 0
ComesFrom call kept line = (line.origin ≡ call) ⊎ IsOriginIn kept line.origin

-- What two texts share at their beginnings and at their ends keeps its origins. Each line between comes from the call, or
-- goes on from a line that stood there.
abbrev pub Follows : (call : ℕ) (old new : List TextLine) → Type 0
Follows call old new =
    (begin kept made end : List TextLine) × (old ≡ begin ++ (kept ++ end)) × (new ≡ begin ++ (made ++ end)) × All (ComesFrom call kept) made

-- The lines are those of the text of the list's file; where it has none, the list is at fault.
abbrev pub IsMapOfFile : ListRun → Option Origins → Verdict → Type 0
IsMapOfFile answering None verdict = is_made verdict ≡ false
IsMapOfFile answering (Some origins) verdict = IsTextOf (tree answering.session.file) (text_of origins.lines.items) × (verdict ≡ answering.told.verdict)
