-- What callers cite after a call that grows a container: older blocks and conditionals stay the file's.
use Rattle.std.proofs.Common.{ℕ, false}
use Rattle.vast_core.specs.Handles.{VastStatementBlock, Conditional}
use Rattle.vast_core.specs.Nests.{NestRecord, is_kind, BlockKind, ConditionalKind}
use Rattle.vast_core.specs.Bench.{Bench, OwnsBlock, OwnsConditional}
use Rattle.vast_core.specs.Containers.{NestedEntry, with_nest_entry, with_nest}
use Rattle.vast_core.specs.Internal.Containers.{InNest}
use Rattle.vast_core.proofs.Containers.{fresh_container}
use Rattle.vast_core.proofs.Growing.{Grows-fresh, Grows-listing}
use Rattle.vast_core.proofs.Sound.{nest-kept, never}

-- An entry more in a container.

pub entered_block_owned : (b : Bench) (place : ℕ) (e : NestedEntry) (x : VastStatementBlock) → OwnsBlock b x → OwnsBlock (with_nest_entry place e b) x
entered_block_owned b place e x h = nest-kept (is_kind BlockKind) b (with_nest_entry place e b) x.id (Grows-listing b (InNest place e)) never h

pub entered_conditional_owned : (b : Bench) (place : ℕ) (e : NestedEntry) (x : Conditional) → OwnsConditional b x → OwnsConditional (with_nest_entry place e b) x
entered_conditional_owned b place e x h = nest-kept (is_kind ConditionalKind) b (with_nest_entry place e b) x.id (Grows-listing b (InNest place e)) never h

-- A container more.

pub old_block_owned : (b : Bench) (n : NestRecord) (x : VastStatementBlock) → OwnsBlock b x → OwnsBlock (with_nest n b) x
old_block_owned b n x h = nest-kept (is_kind BlockKind) b (with_nest n b) x.id (Grows-fresh b (fresh_container n false)) never h
