-- What calls know that make a block which nothing holds, and that put an always block over it.
use Rattle.std.proofs.Common.{true, ◌≡◌, List, [], ◌∷◌, length, Option, Some, All, refl, length-append, subst}
use Rattle.std.specs.Prelude.{IfSome}
use Rattle.vast_core.specs.Handles.{Expr, VastStatementBlock}
use Rattle.vast_literal.specs.declared.kind.AlwaysKind.{AlwaysKind}
use Rattle.vast_core.specs.ArenaState.{ArenaState}
use Rattle.vast_core.specs.Nests.{AlwaysRecord}
use Rattle.vast_core.specs.Bench.{Bench, OwnsAlways, OwnsBlock}
use Rattle.vast_core.specs.View.{bench}
use Rattle.vast_core.specs.Sound.{EventSound, FileSound}
use Rattle.vast_core.specs.Internal.Sound.{IsSound}
use Rattle.vast_core.specs.Containers.{with_block, next_block}
use Rattle.vast_core.specs.Internal.Containers.{AsDetached, GrowthSound, Fresh, FreshSound, no_fresh, fresh_block}
use Rattle.vast_core.specs.Loops.{next_always}
use Rattle.vast_core.specs.Unattached.{always_over, with_always_over}
use Rattle.vast_core.proofs.Lists.{Each-own}
use Rattle.vast_core.proofs.Terms.{last-test}
use Rattle.vast_core.proofs.Enters.{a-block-comes, next_block_owned}

pub detached-comes : (b : Bench) → GrowthSound b (AsDetached (next_block b)) fresh_block
detached-comes b = record { fresh = a-block-comes b (with_block b); listing = next_block_owned b; placed = refl }

pub file-sound : (a b : ArenaState) → b ≡ a → IsSound b → FileSound (bench a)
file-sound a b e s = let P : ArenaState → Type 0 = λ y. FileSound (bench y) in subst P e s.file

-- An always block over a block.

abbrev pub fresh_over : AlwaysRecord → Fresh
fresh_over a = record no_fresh { always_block = Some a; takes_detached = true }

pub over-comes :
    (b : Bench) (kind : AlwaysKind) (events : List Expr) (block : VastStatementBlock) → All (EventSound b) events → OwnsBlock b block →
    FreshSound b (with_always_over kind events block b) (fresh_over (always_over kind events block))
over-comes b kind events block h k =
    record { terms = tt; port = tt; fresh_module = tt; definition = tt; artifact = tt; instance = tt; assignment = tt; container = tt; function = tt; always_block = record { events = Each-own (EventSound b) events h; block = k } }

pub next_over_owned : (b : Bench) (kind : AlwaysKind) (events : List Expr) (block : VastStatementBlock) → OwnsAlways (with_always_over kind events block b) (next_always b)
next_over_owned b kind events block = record { of_file = refl; of_kind = rw (length-append b.always_blocks (always_over kind events block ∷ [])) (last-test (length b.always_blocks)) }

detached-there : (b : Bench) (o : Option VastStatementBlock) (x : VastStatementBlock) → o ≡ Some x → IfSome o (OwnsBlock b) → OwnsBlock b x
detached-there b o x e h = rw e at h

-- The detached block is the file's.
pub detached-owned : (b : Bench) (x : VastStatementBlock) → FileSound b → b.detached ≡ Some x → OwnsBlock b x
detached-owned b x s e = detached-there b b.detached x e s.detached

pub ruleset enters_over = (detached-comes, detached-owned)
