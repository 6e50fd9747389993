-- Laws of the member that registers become: the block that it takes, and its tree.
use Rattle.std.proofs.Common.{◌≡◌, ℕ, ◌<◌, List, [], ◌∷◌, ◌++◌, length, All, Option, Some, None, slice_get, Ok, Err, refl, ap, ◌∙◌, inl, arith}
use Rattle.std.specs.Prelude.{IfSome}
use Rattle.vast_literal.specs.Tree.{PosEdgeTree}
use Rattle.vast_literal.specs.declared.error.VastFault.{VastFault}
use Rattle.vast_literal.specs.declared.error.VastFault.TheVariants.{Refused, Memory}
use Rattle.vast_literal.specs.Fault.{RefusedBy}
use Rattle.vast_core.specs.declared.handle.Expr.{Expr}
use Rattle.vast_core.specs.declared.handle.VastStatementBlock.{VastStatementBlock}
use Rattle.vast_literal.specs.declared.kind.AlwaysKind.TheVariants.{AlwaysFF}
use Rattle.vast_core.specs.Nodes.{ExprRoot}
use Rattle.vast_core.specs.declared.node.Member.TheVariants.{Always as AlwaysEntry}
use Rattle.vast_core.specs.Nests.{BlockRecord}
use Rattle.vast_core.specs.Bench.{Bench, OwnsExpr, OwnsBlock, tree_of}
use Rattle.vast_core.specs.Sound.{EventSound}
use Rattle.vast_core.specs.Growth.{next_expr, with_expr}
use Rattle.vast_core.specs.Containers.{MemberEnters, with_entry, next_block, with_detached_block}
use Rattle.vast_core.specs.Loops.{next_always}
use Rattle.vast_core.specs.Unattached.{always_over}
use Rattle.vast_core.specs.FileTree.{member_tree}
use Rattle.vast_core.proofs.Lists.{slice_get-seam}
use Rattle.vast_core.proofs.NodeLaws.{Extends-root}
use Rattle.vast_core.proofs.Nests.{get-before}
use Rattle.vast_core.proofs.Enters.{next_block_owned, loop-place}
use Rattle.vast_core.proofs.Laws.{next_owned, next_tree}
use Rattle.xlsynth_vast.specs.declared.helpers.registers.Reset.{Reset}
use Rattle.xlsynth_vast.specs.declared.helpers.registers.RegisterDefinition.{RegisterDefinition}
use Rattle.xlsynth_vast.specs.declared.helpers.registers.RegisterScope.{RegisterScope}
use Rattle.xlsynth_vast.specs.declared.helpers.registers.RegisterScope.TheVariants.{Module as ModuleScope, GenerateLoop as LoopScope}
use Rattle.xlsynth_vast.specs.declared.helpers.registers.Share.TheVariants.{Unreset}
use Rattle.xlsynth_vast.specs.Registers.{unreset_value, assigned_all, by_reset, registers_member, OwnsScope, OwnsReset, OwnsRegister, HasUnused, unless_unresettable, maybe_reset_tree, register_trees}
use Rattle.xlsynth_vast.specs.AddedRegisters.{with_all_assigned, with_register_block, with_clocked_at, with_registers, AddsOneAlways, MayAddRegisters}
use Rattle.xlsynth_vast.specs.Internal.RegisterSteps.{IsOlderScope}
use Rattle.xlsynth_vast.proofs.RegisterParts.{Wider, wider-wider, wider_owned, wider_tree, registers-owned, registers-kept, get-unchanged, unused-none, unused-block, unused-wider, Changes, changes-then, changes-root}
use Rattle.xlsynth_vast.proofs.RegisterBlocks.{Stands, all-assigned-changes, all-assigned-stands}
use Rattle.xlsynth_vast.proofs.RegisterBranches.{StaysFrom, IsBlockOf, maybe-reset-changes, maybe-reset-read}

-- The block of the registers.

abbrev pub filled : List RegisterDefinition → Bench → Bench
filled registers b = with_all_assigned Unreset (next_block b) registers (with_detached_block b)

pub block-changes : (reset : Option Reset) (registers : List RegisterDefinition) (b : Bench) → Changes (length b.nests) (with_detached_block b) (with_register_block reset registers b)
unfolding with_register_block
block-changes reset registers b =
    let i : ℕ = length b.nests in
    changes-then i i (with_detached_block b) (filled registers b) (with_register_block reset registers b) (all-assigned-changes Unreset (next_block b) registers (with_detached_block b))
    (maybe-reset-changes reset registers (next_block b) (filled registers b)) (inl refl)

pub block-unused : (reset : Option Reset) (registers : List RegisterDefinition) (b : Bench) → HasUnused b (with_register_block reset registers b)
block-unused reset registers b = (block-changes reset registers b).unused b (unused-block b) (omega arith)

pub detached-owned : (b : Bench) → OwnsBlock (with_detached_block b) (next_block b)
detached-owned b = next_block_owned b

pub detached-registers : (b : Bench) (registers : List RegisterDefinition) → All (OwnsRegister b) registers → All (OwnsRegister (with_detached_block b)) registers
detached-registers b registers h = registers-owned b (with_detached_block b) (unused-wider b (with_detached_block b) (unused-block b)) registers h

pub filled-wider : (b : Bench) (registers : List RegisterDefinition) → Wider b (filled registers b)
filled-wider b registers = wider-wider b (with_detached_block b) (filled registers b) (unused-wider b (with_detached_block b) (unused-block b)) ((all-assigned-changes Unreset (next_block b) registers (with_detached_block b)).wider)

pub filled-owned : (b : Bench) (registers : List RegisterDefinition) → OwnsBlock (filled registers b) (next_block b)
filled-owned b registers = (all-assigned-changes Unreset (next_block b) registers (with_detached_block b)).blocks (next_block b) (detached-owned b)

maybe-reset-owned : (b c : Bench) → Wider b c → (reset : Option Reset) → IfSome reset (OwnsReset b) → IfSome reset (OwnsReset c)
maybe-reset-owned b c w None h = tt
maybe-reset-owned b c w (Some reset) h = wider_owned b c w reset.signal h

maybe-reset-kept : (b c : Bench) → Wider b c → (reset : Option Reset) → IfSome reset (OwnsReset b) → maybe_reset_tree c reset ≡ maybe_reset_tree b reset
maybe-reset-kept b c w None h = refl
maybe-reset-kept b c w (Some reset) h = rw (wider_tree b c w reset.signal h) refl

block-read :
    (reset : Option Reset) (registers : List RegisterDefinition) (b : Bench) → IfSome reset (OwnsReset b) → All (OwnsRegister b) registers →
    IsBlockOf (with_register_block reset registers b) (length b.nests) (assigned_all unreset_value (register_trees b registers) ++ by_reset (maybe_reset_tree b reset) (register_trees b registers))
unfolding with_register_block
block-read reset registers b h all =
    let c : Bench = with_detached_block b in
    let d : Bench = filled registers b in
    let w : Wider b c = unused-wider b c (unused-block b) in
    let v : Wider b d = filled-wider b registers in
    let empty : Stands c (length b.nests) [] = record { statements = []; there = slice_get-seam b.nests (BlockRecord []); reads = λ x k f. refl } in
    let in-c : All (OwnsRegister c) registers = registers-owned b c w registers all in
    let one : Stands d (length b.nests) (assigned_all unreset_value (register_trees b registers)) = rw (registers-kept b c w registers all) at (all-assigned-stands Unreset (next_block b) registers c [] in-c empty) in
    rw (maybe-reset-kept b d v reset h, registers-kept b d v registers all) at
    (maybe-reset-read reset registers (next_block b) d (assigned_all unreset_value (register_trees b registers)) (maybe-reset-owned b d v reset h) (registers-owned b d v registers all)
    (filled-owned b registers) one)

pub block-clock : (reset : Option Reset) (registers : List RegisterDefinition) (b : Bench) (clk : Expr) → OwnsExpr b clk → OwnsExpr (with_register_block reset registers b) clk
block-clock reset registers b clk h = wider_owned b _ (unused-wider b _ (block-unused reset registers b)) clk h

-- It can be attached, at an edge of the clock.

pub edge-sound : (b : Bench) (clk : Expr) → EventSound (with_expr (PosEdgeTree (tree_of b clk)) b) (next_expr b)
edge-sound b clk = let t = PosEdgeTree (tree_of b clk) in (next_owned b t, rw (next_tree b t) refl)

edge-changes : (i : ℕ) (b : Bench) (clk : Expr) → Changes i b (with_expr (PosEdgeTree (tree_of b clk)) b)
edge-changes i b clk = changes-root i b (ExprRoot (PosEdgeTree (tree_of b clk)))

pub edge-unused : (old b : Bench) (clk : Expr) → HasUnused old b → HasUnused old (with_expr (PosEdgeTree (tree_of b clk)) b)
edge-unused old b clk h = (edge-changes (length old.nests) b clk).unused old h (omega arith)

pub block-detached : (reset : Option Reset) (registers : List RegisterDefinition) (b : Bench) → (with_register_block reset registers b).detached ≡ Some (next_block b)
block-detached reset registers b = (block-changes reset registers b).detached

pub scope-owned : (old now : Bench) (scope : RegisterScope) → HasUnused old now → OwnsScope old scope → OwnsScope now scope
scope-owned old now (ModuleScope owner) h k = rw h.after k
scope-owned old now (LoopScope owner) h k = rw h.after (record { of_file = k.of_file; of_kind = rw (get-before old.nests h.containers owner.id.index (loop-place old owner k)) k.of_kind })

pub scope-older : (b : Bench) (scope : RegisterScope) → OwnsScope b scope → IsOlderScope scope (next_block b)
scope-older b (ModuleScope owner) k = tt
scope-older b (LoopScope owner) k = loop-place b owner k

-- The member.

clocked-stays : (scope : RegisterScope) (clk : Expr) (block : VastStatementBlock) (i : ℕ) (b : Bench) → IsOlderScope scope block → i ≡ block.id.index → StaysFrom i b (with_clocked_at clk scope block b)
clocked-stays (ModuleScope owner) clk block i b older is =
    record { wider = record { nodes = Extends-root b.nodes (ExprRoot (PosEdgeTree (tree_of b clk))); assignments = λ k a e. e }; containers = λ k n past e. e }
clocked-stays (LoopScope owner) clk block i b older is =
    record {
      wider = record { nodes = Extends-root b.nodes (ExprRoot (PosEdgeTree (tree_of b clk))); assignments = λ k a e. e };
      containers = λ k n past e.
          get-unchanged (with_entry (MemberEnters (AlwaysEntry (next_always b)))) b.nests k owner.id.index (λ s. absurd (omega (arith, past, older, is, s))) ∙ e;
    }

clocked-there :
    (scope : RegisterScope) (clk : Expr) (block : VastStatementBlock) (old b : Bench) → b.always_blocks ≡ old.always_blocks →
    slice_get (with_clocked_at clk scope block b).always_blocks (length old.always_blocks) ≡ Some (always_over AlwaysFF (next_expr b ∷ []) block)
clocked-there (ModuleScope owner) clk block old b e = rw e (slice_get-seam old.always_blocks (always_over AlwaysFF (next_expr b ∷ []) block))
clocked-there (LoopScope owner) clk block old b e = rw e (slice_get-seam old.always_blocks (always_over AlwaysFF (next_expr b ∷ []) block))

clocked-event : (scope : RegisterScope) (clk : Expr) (block : VastStatementBlock) (b : Bench) → tree_of (with_clocked_at clk scope block b) (next_expr b) ≡ PosEdgeTree (tree_of b clk)
clocked-event (ModuleScope owner) clk block b = next_tree b (PosEdgeTree (tree_of b clk))
clocked-event (LoopScope owner) clk block b = next_tree b (PosEdgeTree (tree_of b clk))

member-read :
    (scope : RegisterScope) (clk : Expr) (reset : Option Reset) (registers : List RegisterDefinition) (b : Bench) → OwnsScope b scope → OwnsExpr b clk → IfSome reset (OwnsReset b) → All (OwnsRegister b) registers →
    member_tree (with_registers clk reset registers scope b) (AlwaysEntry (next_always b)) ≡ registers_member (tree_of b clk) (maybe_reset_tree b reset) (register_trees b registers)
unfolding with_registers
member-read scope clk reset registers b owned own h all =
    let c : Bench = with_register_block reset registers b in
    let u : HasUnused b c = block-unused reset registers b in
    let d : Bench = with_clocked_at clk scope (next_block b) c in
    let there = clocked-there scope clk (next_block b) b c (ap (λ (x : Bench). x.always_blocks) u.after) in
    let event = clocked-event scope clk (next_block b) c in
    let clock = wider_tree b c (unused-wider b c u) clk own in
    let body = block-read reset registers b h all d (clocked-stays scope clk (next_block b) (length b.nests) c (scope-older b scope owned) refl) in
    rw (there, body, event, clock) refl

-- What the call returns.

adds-one : (old new : Bench) (clk : Expr) (reset : Option Reset) (registers : List RegisterDefinition) (scope : RegisterScope) → new ≡ with_registers clk reset registers scope old → AddsOneAlways old new scope
unfolding with_registers
adds-one old new clk reset registers scope e =
    let c : Bench = with_register_block reset registers old in
    record { between = with_expr (PosEdgeTree (tree_of c clk)) c; unused = edge-unused old c clk (block-unused reset registers old); event = next_expr c; block = next_block old; after = e }

pub registers-added :
    (old new : Bench) (clk : Expr) (reset : Option Reset) (registers : List RegisterDefinition) (scope : RegisterScope) → OwnsScope old scope → OwnsExpr old clk → IfSome reset (OwnsReset old) →
    All (OwnsRegister old) registers → 0 < length registers → unless_unresettable (maybe_reset_tree old reset) (register_trees old registers) ≡ Ok tt → new ≡ with_registers clk reset registers scope old →
    MayAddRegisters old new (Ok tt) clk reset registers scope
registers-added old new clk reset [] scope owned own h all some rule e = absurd (omega (arith, some))
registers-added old new clk reset (r ∷ rs) scope owned own h all some rule e =
    record { allowed = rule; after = e; frame = adds-one old new clk reset (r ∷ rs) scope e; tree = rw e (member-read scope clk reset (r ∷ rs) old owned own h all) }

pub check-refused :
    (b : Bench) (fault : VastFault) (clk : Expr) (reset : Option Reset) (registers : List RegisterDefinition) (scope : RegisterScope) →
    RefusedBy (unless_unresettable (maybe_reset_tree b reset) (register_trees b registers)) fault → MayAddRegisters b b (Err fault) clk reset registers scope
check-refused b (Refused e) clk reset registers scope h = (h, refl)
check-refused b (Memory e) clk reset registers scope h = unused-none b
