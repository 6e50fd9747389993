use Rattle.std.proofs.Common.{◌≡◌, ◌++◌, All, length}
use Rattle.vast_list.specs.Origins.{text_of}
use Rattle.vast_list.specs.Internal.Origins.{ComesFrom}
use Rattle.vast_list.proofs.origins.made_lines.Given as goal

-- The lines so far are the text but for its rest.
abbrev pub invariant-loop-rest : goal.invariant-loop-rest
invariant-loop-rest l = (l.text ≡ text_of l.made.items ++ l.rest) × All (ComesFrom l.call l.kept) l.made.items

abbrev pub decreases-loop-rest : goal.decreases-loop-rest
decreases-loop-rest l = length l.rest
