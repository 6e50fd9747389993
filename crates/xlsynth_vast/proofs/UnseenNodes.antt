-- Nodes that nothing else uses are not in a file's tree.
use Rattle.std.proofs.Common.{◌≡◌, ℕ, List, [], Result, Ok, Err, refl, ap, ◌∙◌, append-nil}
use Rattle.vast_literal.specs.declared.error.VastFault.{VastFault}
use Rattle.vast_literal.specs.declared.error.VastFault.TheVariants.{Refused, Memory}
use Rattle.vast_literal.specs.Tree.{ExprTree}
use Rattle.vast_core.specs.declared.handle.Expr.{Expr}
use Rattle.vast_core.specs.Bench.{Bench}
use Rattle.vast_core.specs.Sound.{RecordsSound}
use Rattle.vast_core.specs.FileTree.{tree}
use Rattle.xlsynth_vast.specs.Reductions.{HasMoreNodes, MakesTree}
use Rattle.xlsynth_vast.specs.Registers.{HasUnused}
use Rattle.xlsynth_vast.proofs.Unseen.{tree-unseen}

pub nodes-unused : (b c : Bench) → HasMoreNodes b c → HasUnused b c
nodes-unused b c h =
    record { roots = h.more; assignments = []; containers = []; detached = b.detached; after = h.after ∙ rw (append-nil b.assignments, append-nil b.nests) refl }

pub tree-made : (old new : Bench) (r : Result Expr VastFault) (rule : Result ExprTree (List ℕ)) → RecordsSound old → MakesTree old new r rule → tree new ≡ tree old
tree-made old new (Ok e) rule s h = tree-unseen old new s (nodes-unused old new h.1)
tree-made old new (Err (Refused e)) rule s h = ap tree h.1
tree-made old new (Err (Memory e)) rule s h = tree-unseen old new s (nodes-unused old new h)

pub ruleset unseen = (tree-made)
