-- What the steps return by which the block of registers is made: each leaves what its equation says, or leaves unused what was.
use Rattle.std.proofs.Common.{◌≡◌, ℕ, ◌≤◌, ◌⊎◌, true, false, List, length, Option, Some, None, slice_get, Result, Ok, Err, IsErr, refl, sym, ◌∙◌, inl, inr, arith}
use Rattle.std.specs.List.{list_any}
use Rattle.std.specs.declared.alloc.AllocError.{AllocError}
use Rattle.vast_literal.specs.Tree.{PosEdgeTree}
use Rattle.vast_core.specs.declared.handle.Expr.{Expr}
use Rattle.vast_core.specs.declared.handle.Conditional.{Conditional}
use Rattle.vast_core.specs.declared.handle.VastStatementBlock.{VastStatementBlock}
use Rattle.vast_core.specs.declared.node.Statement.TheVariants.{Assignment as AssignStatement, Conditional as ConditionalStatement}
use Rattle.vast_core.specs.Bench.{Bench, OwnsExpr, OwnsBlock, OwnsConditional, tree_of}
use Rattle.vast_core.specs.Sound.{EventSound}
use Rattle.vast_core.specs.Growth.{next_expr, with_assignment, with_expr}
use Rattle.vast_core.specs.Artifacts.{next_statement}
use Rattle.vast_core.specs.Containers.{with_statement, with_conditional, with_else, next_conditional, next_block, with_detached_block, has_else}
use Rattle.xlsynth_vast.specs.declared.helpers.registers.Reset.{Reset}
use Rattle.xlsynth_vast.specs.declared.helpers.registers.RegisterDefinition.{RegisterDefinition}
use Rattle.xlsynth_vast.specs.declared.helpers.registers.Share.{Share}
use Rattle.xlsynth_vast.specs.declared.helpers.registers.Share.TheVariants.{Unreset, AtReset, OutsideReset}
use Rattle.xlsynth_vast.specs.declared.helpers.registers.RegisterScope.{RegisterScope}
use Rattle.xlsynth_vast.specs.Inspections.{then_block_at}
use Rattle.xlsynth_vast.specs.Registers.{OwnsRegister, OwnsReset, HasUnused}
use Rattle.xlsynth_vast.specs.AddedRegisters.{is_resettable, value_expr, with_value, with_assigned, with_all_assigned, active_expr, with_active, with_if, with_if_else, first_block, second_block, with_branches, with_reset, with_register_block, with_clocked, with_registers}
use Rattle.xlsynth_vast.specs.Internal.RegisterSteps.{StaysUnused, MayFill, MayMakeBlock}
use Rattle.xlsynth_vast.proofs.RegisterParts.{unused-none, unused-block, unused-count, Changes, changes-then}
use Rattle.xlsynth_vast.proofs.RegisterBlocks.{value-changes, value-made, all-assigned-changes}
use Rattle.xlsynth_vast.proofs.RegisterBranches.{active-changes, active-made, opened-changes, opened-owned, opened-then, opened-else, both-changes, first-owned, second-owned, second-place}
use Rattle.xlsynth_vast.proofs.RegisterMembers.{filled, edge-sound}

-- Where memory was refused.

pub fill-refused : (old new : Bench) (r : Result (Unit {0}) AllocError) (block : VastStatementBlock) (after : Bench) → IsErr r → StaysUnused block old new → MayFill old new r block after
fill-refused old new (Ok x) block after e h = absurd cc
fill-refused old new (Err x) block after e h = h

pub stays-same : (old new : Bench) (block : VastStatementBlock) → new ≡ old → StaysUnused block old new
stays-same old new block e = λ start u past. rw e u

-- After changes of the block, this block or one that is newer than the file was filled.
pub stays-then : (old now new : Bench) (block x : VastStatementBlock) → Changes block.id.index old now → (x.id.index ≡ block.id.index) ⊎ (length old.nests ≤ x.id.index) → StaysUnused x now new → StaysUnused block old new
stays-then old now new block x k (inl same) h = λ start u past. h start (k.unused start u past) (omega (arith, same, past))
stays-then old now new block x k (inr behind) h = λ start u past. let count = unused-count start old u in h start (k.unused start u past) (omega (arith, behind, count))

-- One assignment.

pub value-owned : (share : Share) (r : RegisterDefinition) (old now : Bench) (o : Option Expr) (value : Expr) → OwnsRegister old r → (o ≡ value_expr share r old) × (now ≡ with_value share r old) → o ≡ Some value → OwnsExpr now value
value-owned share r old now o value h e is =
    let k : value_expr share r old ≡ Some value = sym e.0 ∙ is in rw e.1 ((rw k at (value-made share r old h)).0)

pub value-still : (share : Share) (r : RegisterDefinition) (old now : Bench) (block : VastStatementBlock) → now ≡ with_value share r old → Changes block.id.index old now
value-still share r old now block e = rw e (value-changes block.id.index share r old)

pub assigned-value :
    (share : Share) (block : VastStatementBlock) (r : RegisterDefinition) (old now new : Bench) (o : Option Expr) (value : Expr) → (o ≡ value_expr share r old) × (now ≡ with_value share r old) → o ≡ Some value →
    new ≡ with_statement block (AssignStatement (next_statement now)) (with_assignment (record { lhs = r.reg; rhs = value; nonblocking = true }) now) → new ≡ with_assigned share block r old
unfolding with_assigned
assigned-value share block r old now new o value e is after =
    let k : value_expr share r old ≡ Some value = sym e.0 ∙ is in rw (k, ← e.1) after

pub assigned-none : (share : Share) (block : VastStatementBlock) (r : RegisterDefinition) (old now : Bench) (o : Option Expr) → (o ≡ value_expr share r old) × (now ≡ with_value share r old) → o ≡ None → now ≡ with_assigned share block r old
unfolding with_assigned
assigned-none share block r old now o e is =
    let k : value_expr share r old ≡ None = sym e.0 ∙ is in rw k e.1

-- The conditional.

pub conditional-owned :
    (b c : Bench) (condition : Expr) (block : VastStatementBlock) (x : Conditional) → (x ≡ next_conditional b) × (c ≡ with_statement block (ConditionalStatement (next_conditional b)) (with_conditional condition b)) → OwnsConditional c x
unfolding with_if
conditional-owned b c condition block x e = rw (e.0, e.1) (opened-owned condition block b)

pub conditional-open :
    (b c : Bench) (condition : Expr) (block : VastStatementBlock) (x : Conditional) → OwnsBlock b block → (x ≡ next_conditional b) × (c ≡ with_statement block (ConditionalStatement (next_conditional b)) (with_conditional condition b)) →
    has_else (slice_get c.nests x.id.index) ≡ false
unfolding with_if
conditional-open b c condition block x own e = rw (e.0, e.1) (opened-else condition block b own)

pub opened-stays :
    (b c : Bench) (condition : Expr) (block : VastStatementBlock) → c ≡ with_statement block (ConditionalStatement (next_conditional b)) (with_conditional condition b) → Changes block.id.index b c
unfolding with_if
opened-stays b c condition block e = rw e (opened-changes condition block b)

-- The conditional with both blocks.
pub record Both (b d : Bench) (condition : Expr) (block first second : VastStatementBlock) : Type 0 where
  pub after : d ≡ with_if_else condition block b
  pub first_is : first ≡ first_block b
  pub second_is : second ≡ second_block condition block b

is-if : (b c : Bench) (condition : Expr) (block : VastStatementBlock) → c ≡ with_statement block (ConditionalStatement (next_conditional b)) (with_conditional condition b) → c ≡ with_if condition block b
unfolding with_if
is-if b c condition block e = e

pub both :
    (b c d : Bench) (condition : Expr) (block : VastStatementBlock) (x : Conditional) (first second : VastStatementBlock) → OwnsBlock b block →
    (x ≡ next_conditional b) × (c ≡ with_statement block (ConditionalStatement (next_conditional b)) (with_conditional condition b)) →
    then_block_at c x ≡ Some first → (second ≡ next_block c) × (d ≡ with_else x c) → Both b d condition block first second
both b c d condition block x first second own opened then closed =
    let e : c ≡ with_if condition block b = is-if b c condition block opened.1 in
    let t : then_block_at (with_if condition block b) (next_conditional b) ≡ Some first = rw (e, opened.0) at then in
    let k : Some (first_block b) ≡ Some first = rw (opened-then condition block b own) at t in
    record { after = closed.1 ∙ rw (opened.0, e) refl; first_is = cc; second_is = closed.0 ∙ rw e refl }

-- The same after the condition of a reset.

pub condition-changes : (reset : Reset) (block : VastStatementBlock) (old b : Bench) → b ≡ with_active reset old → Changes block.id.index old b
condition-changes reset block old b e = rw e (active-changes block.id.index reset old)

pub condition-owned : (reset : Reset) (old b : Bench) (condition : Expr) → OwnsReset old reset → (condition ≡ active_expr reset old) × (b ≡ with_active reset old) → OwnsExpr b condition
condition-owned reset old b condition h e = rw (e.0, e.1) (active-made reset old h).0

pub both-behind :
    (old b c d : Bench) (reset : Reset) (condition : Expr) (block : VastStatementBlock) (x : Conditional) (first second : VastStatementBlock) → OwnsBlock old block →
    (condition ≡ active_expr reset old) × (b ≡ with_active reset old) → (x ≡ next_conditional b) × (c ≡ with_statement block (ConditionalStatement (next_conditional b)) (with_conditional condition b)) →
    then_block_at c x ≡ Some first → (second ≡ next_block c) × (d ≡ with_else x c) → Both (with_active reset old) d (active_expr reset old) block first second
both-behind old b c d reset condition block x first second own e opened then closed =
    both (with_active reset old) c d (active_expr reset old) block x first second ((active-changes block.id.index reset old).blocks block own) (rw (e.0, e.1) at opened) then closed

-- What there was stays, and both blocks are new.
pub record Ready (old d : Bench) (block first second : VastStatementBlock) : Type 0 where
  pub changes : Changes block.id.index old d
  pub first_owned : OwnsBlock d first
  pub second_owned : OwnsBlock d second
  pub first_past : length old.nests ≤ first.id.index
  pub second_past : length old.nests ≤ second.id.index

pub ready :
    (old d : Bench) (reset : Reset) (block first second : VastStatementBlock) → OwnsBlock old block → Both (with_active reset old) d (active_expr reset old) block first second → Ready old d block first second
ready old d reset block first second own k =
    let i : ℕ = block.id.index in
    let b : Bench = with_active reset old in
    let condition : Expr = active_expr reset old in
    let w : Changes i old b = active-changes i reset old in
    let count : length old.nests ≤ length b.nests = unused-count old b ((active-changes (length old.nests) reset old).unused old (unused-none old) (omega arith)) in
    let place = second-place condition block b in
    record {
      changes = rw k.after (changes-then i i old b (with_if_else condition block b) w (both-changes condition block b) (inl refl));
      first_owned = rw (k.first_is, k.after) (first-owned condition block b (w.blocks block own));
      second_owned = rw (k.second_is, k.after) (second-owned condition block b);
      first_past = rw k.first_is (omega (arith, count));
      second_past = rw k.second_is (omega (arith, count, place));
    }

-- After the first of them is filled.
pub half-changes :
    (old d e : Bench) (block first second : VastStatementBlock) (registers : List RegisterDefinition) → Ready old d block first second → e ≡ with_all_assigned AtReset first registers d → Changes block.id.index old e
half-changes old d e block first second registers k is =
    rw is (changes-then block.id.index first.id.index old d (with_all_assigned AtReset first registers d) k.changes (all-assigned-changes AtReset first registers d) (inr k.first_past))

pub half-owned : (d e : Bench) (first second : VastStatementBlock) (registers : List RegisterDefinition) → OwnsBlock d second → e ≡ with_all_assigned AtReset first registers d → OwnsBlock e second
half-owned d e first second registers own is = rw is ((all-assigned-changes AtReset first registers d).blocks second own)

pub branch-end :
    (old d e new : Bench) (reset : Reset) (r : Result (Unit {0}) AllocError) (block first second : VastStatementBlock) (registers : List RegisterDefinition) → OwnsBlock old block →
    Both (with_active reset old) d (active_expr reset old) block first second → e ≡ with_all_assigned AtReset first registers d → MayFill e new r second (with_all_assigned OutsideReset second registers e) →
    MayFill old new r block (with_reset reset registers block old)
unfolding with_branches
branch-end old d e new reset (Ok x) block first second registers own k is h = h ∙ rw (k.second_is, is, k.first_is, k.after) refl
branch-end old d e new reset (Err x) block first second registers own k is h =
    let y = ready old d reset block first second own k in
    stays-then old e new block second (half-changes old d e block first second registers y is) (inr y.second_past) h

-- The block of the registers.

pub block-refused : (old new : Bench) (r : Result VastStatementBlock AllocError) (reset : Option Reset) (registers : List RegisterDefinition) → IsErr r → HasUnused old new → MayMakeBlock old new r reset registers
block-refused old new (Ok x) reset registers e h = absurd cc
block-refused old new (Err x) reset registers e h = h

pub start-unused : (old b new : Bench) (block : VastStatementBlock) → (block ≡ next_block old) × (b ≡ with_detached_block old) → StaysUnused block b new → HasUnused old new
start-unused old b new block e h = h old (rw e.1 (unused-block old)) (rw e.0 (omega arith))

pub filled-unused : (old now new : Bench) (block : VastStatementBlock) (registers : List RegisterDefinition) → block ≡ next_block old → now ≡ filled registers old → StaysUnused block now new → HasUnused old new
filled-unused old now new block registers e f h =
    let k = all-assigned-changes Unreset (next_block old) registers (with_detached_block old) in
    h old (rw f (k.unused old (unused-block old) (omega arith))) (rw e (omega arith))

pub filled-is : (old b now : Bench) (block : VastStatementBlock) (registers : List RegisterDefinition) → (block ≡ next_block old) × (b ≡ with_detached_block old) → now ≡ with_all_assigned Unreset block registers b → now ≡ filled registers old
filled-is old b now block registers e f = f ∙ rw (e.0, e.1) refl

pub block-plain :
    (old now : Bench) (block : VastStatementBlock) (reset : Option Reset) (registers : List RegisterDefinition) → list_any is_resettable registers ≡ false → block ≡ next_block old → now ≡ filled registers old →
    MayMakeBlock old now (Ok block) reset registers
unfolding with_register_block
block-plain old now block None registers none e f = (e, f)
block-plain old now block (Some reset) registers none e f = (e, rw none f)

pub block-bare : (old now : Bench) (block : VastStatementBlock) (registers : List RegisterDefinition) → block ≡ next_block old → now ≡ filled registers old → MayMakeBlock old now (Ok block) None registers
unfolding with_register_block
block-bare old now block registers e f = (e, f)

pub block-branched :
    (old now new : Bench) (block : VastStatementBlock) (reset : Reset) (registers : List RegisterDefinition) → list_any is_resettable registers ≡ true → block ≡ next_block old → now ≡ filled registers old →
    new ≡ with_reset reset registers block now → MayMakeBlock old new (Ok block) (Some reset) registers
unfolding with_register_block
block-branched old now new block reset registers any e f after = (e, rw any (after ∙ rw (e, f) refl))

-- The member.

pub edged-event : (b c : Bench) (clk event : Expr) → (event ≡ next_expr b) × (c ≡ with_expr (PosEdgeTree (tree_of b clk)) b) → EventSound c event
edged-event b c clk event f = rw (f.0, f.1) (edge-sound b clk)

pub is-added :
    (old b c new : Bench) (block : VastStatementBlock) (clk event : Expr) (reset : Option Reset) (registers : List RegisterDefinition) (scope : RegisterScope) →
    (block ≡ next_block old) × (b ≡ with_register_block reset registers old) → (event ≡ next_expr b) × (c ≡ with_expr (PosEdgeTree (tree_of b clk)) b) → new ≡ with_clocked scope event block c → new ≡ with_registers clk reset registers scope old
unfolding with_registers
is-added old b c new block clk event reset registers scope e f after = after ∙ rw (f.0, f.1, e.0, e.1) refl
