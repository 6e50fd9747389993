use Rattle.std.proofs.Common.{◌≤◌, length}
use Rattle.vast_names.proofs.index.Index.is_full.Given as goal

abbrev pub invariant-loop : goal.invariant-loop
invariant-loop l = l.cursor ≤ length l.self.links.items
