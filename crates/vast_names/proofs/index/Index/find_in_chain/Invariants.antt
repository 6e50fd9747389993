use Rattle.std.proofs.Common.{◌≡◌, ◌<◌, ◌≤◌, ℕ, [], length, slice_index, slice_index_or}
use Rattle.vast_names.specs.Internal.Hash.{slot_among}
use Rattle.vast_names.specs.Internal.Texts.{texts_of}
use Rattle.vast_names.specs.Internal.Index.{Reaches}
use Rattle.vast_names.proofs.index.Index.find_in_chain.Given as goal

-- a name of the chain that is this name is still ahead
abbrev pub invariant-loop-cursor : goal.invariant-loop-cursor
invariant-loop-cursor l = record {
  within : l.cursor ≤ length l.self.links.items;
  ahead : (k : ℕ) → Reaches l.self.links.items (slice_index l.self.heads.items (slot_among (length l.self.heads.items) l.name)) k → k < length (texts_of l.texts) → slice_index_or (texts_of l.texts) k [] ≡ l.name → Reaches l.self.links.items l.cursor k;
}

abbrev pub decreases-loop-cursor : goal.decreases-loop-cursor
decreases-loop-cursor l = l.cursor
