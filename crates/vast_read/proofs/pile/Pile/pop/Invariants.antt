use Rattle.std.proofs.Common.{◌≡◌, ◌++◌, List, length}
use Rattle.std.specs.List.{flat_map}
use Rattle.vast_read.proofs.pile.Pile.pop.Given as goal

abbrev pub invariant-blocks-2 : goal.invariant-blocks-2
invariant-blocks-2 g l = l.self-inside.top ++ flat_map (λ (block : List _). block) l.self-inside.below ≡ l.fn.self

abbrev pub decreases-blocks-2 : goal.decreases-blocks-2
decreases-blocks-2 g l = length l.self-inside.below
