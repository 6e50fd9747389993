-- Laws of the conditional of a reset, and of the block that it ends.
use Rattle.std.proofs.Common.{◌≡◌, ◌≢◌, ℕ, suc, ◌-◌, ◌<◌, ◌≤◌, Bool, true, false, List, [], ◌∷◌, ◌++◌, length, All, Option, Some, None, slice_get, refl, ◌∙◌, inl, inr, arith, append-nil, length-append}
use Rattle.std.specs.Prelude.{IfSome}
use Rattle.std.specs.List.{list_any}
use Rattle.vast_literal.specs.Tree.{StatementTree, ConditionalTree, Else, UnaryTree}
use Rattle.vast_literal.specs.declared.operator.UnaryOperator.TheVariants.{LogicalNot as LogicalNotOp}
use Rattle.vast_core.specs.declared.handle.Expr.{Expr}
use Rattle.vast_core.specs.declared.handle.VastStatementBlock.{VastStatementBlock}
use Rattle.vast_core.specs.Nodes.{ExprRoot}
use Rattle.vast_core.specs.Nests.{NestRecord, BlockRecord, ConditionalNestRecord}
use Rattle.vast_core.specs.declared.node.Statement.{Statement}
use Rattle.vast_core.specs.declared.node.Statement.TheVariants.{Conditional as ConditionalStatement}
use Rattle.vast_core.specs.Bench.{Bench, OwnsExpr, OwnsBlock, OwnsConditional, tree_of}
use Rattle.vast_core.specs.Containers.{NestedEntry, StatementEnters, ElseEnters, with_entry, with_nest, with_block, with_conditional, new_conditional, next_conditional, next_block, has_else}
use Rattle.vast_core.specs.FileTree.{block_in, conditional_statement, statements_in, unfolded, families}
use Rattle.vast_core.proofs.Lists.{slice_get-append, slice_get-seam, length-changed_at}
use Rattle.vast_core.proofs.Laws.{next_owned, next_tree}
use Rattle.vast_core.proofs.Enters.{block-place, next_block_owned, next_conditional_owned}
use Rattle.vast_core.proofs.NestLaws.{entered_block_owned, entered_conditional_owned}
use Rattle.xlsynth_vast.specs.declared.helpers.registers.Reset.{Reset}
use Rattle.xlsynth_vast.specs.declared.helpers.registers.RegisterDefinition.{RegisterDefinition}
use Rattle.xlsynth_vast.specs.declared.helpers.registers.Share.TheVariants.{AtReset, OutsideReset}
use Rattle.xlsynth_vast.specs.Inspections.{then_block_at}
use Rattle.xlsynth_vast.specs.Reductions.{IsTree}
use Rattle.xlsynth_vast.specs.Registers.{register_trees, reset_tree, maybe_reset_tree, active_tree, assigned_all, value_at_reset, value_outside_reset, block_of, by_reset, OwnsRegister, OwnsReset}
use Rattle.xlsynth_vast.specs.AddedRegisters.{is_resettable, active_expr, with_active, with_if, with_if_else, first_block, second_block, with_all_assigned, with_branches, with_reset, with_maybe_reset}
use Rattle.xlsynth_vast.proofs.RegisterParts.{any-tree, Wider, wider-wider, wider_tree, registers-owned, registers-kept, get-changed, get-unchanged, get-within, Changes, changes-none, changes-then, changes-root, changes-nest, changes-entry}
use Rattle.xlsynth_vast.proofs.RegisterBlocks.{Stands, stands-kept, statements-append, if-changes, all-assigned-changes, all-assigned-stands}

-- The condition.

pub active-changes : (i : ℕ) (reset : Reset) (b : Bench) → Changes i b (with_active reset b)
active-changes i reset b = if-changes i b _ b reset.active_low (changes-root i b (ExprRoot (UnaryTree LogicalNotOp (tree_of b reset.signal)))) (changes-none i b)

active-case : (reset : Reset) (b : Bench) (low : Bool) → reset.active_low ≡ low → OwnsReset b reset → IsTree (with_active reset b) (active_expr reset b) (active_tree (reset_tree b reset))
active-case reset b true e h = let t = UnaryTree LogicalNotOp (tree_of b reset.signal) in rw e (next_owned b t, next_tree b t)
active-case reset b false e h = rw e (h, refl)

pub active-made : (reset : Reset) (b : Bench) → OwnsReset b reset → IsTree (with_active reset b) (active_expr reset b) (active_tree (reset_tree b reset))
active-made reset b h = active-case reset b reset.active_low refl h

-- The conditional with its first block.

abbrev entered : Bench → NestedEntry
entered b = StatementEnters (ConditionalStatement (next_conditional b))

pub opened-changes : (condition : Expr) (block : VastStatementBlock) (b : Bench) → Changes block.id.index b (with_if condition block b)
unfolding with_if
opened-changes condition block b =
    let i : ℕ = block.id.index in
    let c : Bench = with_nest (new_conditional b condition) b in
    let two : Changes i b (with_block c) = changes-then i i b c (with_block c) (changes-nest i b (new_conditional b condition)) (changes-nest i c (BlockRecord [])) (inl refl) in
    changes-then i i b (with_block c) (with_if condition block b) two (changes-entry i (with_block c) (entered b)) (inl refl)

pub opened-owned : (condition : Expr) (block : VastStatementBlock) (b : Bench) → OwnsConditional (with_if condition block b) (next_conditional b)
unfolding with_if
opened-owned condition block b = entered_conditional_owned (with_conditional condition b) block.id.index (entered b) (next_conditional b) (next_conditional_owned b condition)

opened-count : (condition : Expr) (block : VastStatementBlock) (b : Bench) → length (with_if condition block b).nests ≡ suc (suc (length b.nests))
unfolding with_if
opened-count condition block b =
    let d : Bench = with_conditional condition b in
    let all = length-changed_at (with_entry (entered b)) d.nests block.id.index in
    let one = length-append b.nests (new_conditional b condition ∷ []) in
    let two = length-append (b.nests ++ new_conditional b condition ∷ []) (BlockRecord [] ∷ []) in
    omega (arith, all, one, two)

opened-there : (condition : Expr) (block : VastStatementBlock) (b : Bench) → OwnsBlock b block → slice_get (with_if condition block b).nests (length b.nests) ≡ Some (new_conditional b condition)
unfolding with_if
opened-there condition block b h =
    let n : ℕ = length b.nests in
    let below : block.id.index < n = block-place b block h in
    get-unchanged (with_entry (entered b)) (with_conditional condition b).nests n block.id.index (λ e. absurd (omega (arith, below, e)))
    ∙ slice_get-append (b.nests ++ new_conditional b condition ∷ []) (BlockRecord [] ∷ []) n (new_conditional b condition) (slice_get-seam b.nests (new_conditional b condition))

opened-first : (condition : Expr) (block : VastStatementBlock) (b : Bench) → OwnsBlock b block → slice_get (with_if condition block b).nests (suc (length b.nests)) ≡ Some (BlockRecord [])
unfolding with_if
opened-first condition block b h =
    let n : ℕ = length b.nests in
    let below : block.id.index < n = block-place b block h in
    let c : Bench = with_nest (new_conditional b condition) b in
    let count : length c.nests ≡ suc n = omega (arith, length-append b.nests (new_conditional b condition ∷ [])) in
    get-unchanged (with_entry (entered b)) (with_conditional condition b).nests (suc n) block.id.index (λ e. absurd (omega (arith, below, e)))
    ∙ rw count at (slice_get-seam c.nests (BlockRecord []))

opened-block :
    (condition : Expr) (block : VastStatementBlock) (b : Bench) (ss : List Statement) → slice_get b.nests block.id.index ≡ Some (BlockRecord ss) →
    slice_get (with_if condition block b).nests block.id.index ≡ Some (BlockRecord (ss ++ ConditionalStatement (next_conditional b) ∷ []))
unfolding with_if
opened-block condition block b ss e =
    let i : ℕ = block.id.index in
    get-changed (with_entry (entered b)) (with_conditional condition b).nests i (BlockRecord ss)
    (slice_get-append (b.nests ++ new_conditional b condition ∷ []) (BlockRecord [] ∷ []) i (BlockRecord ss) (slice_get-append b.nests (new_conditional b condition ∷ []) i (BlockRecord ss) e))

pub opened-then : (condition : Expr) (block : VastStatementBlock) (b : Bench) → OwnsBlock b block → then_block_at (with_if condition block b) (next_conditional b) ≡ Some (first_block b)
opened-then condition block b h = rw (opened-there condition block b h) refl

pub opened-else : (condition : Expr) (block : VastStatementBlock) (b : Bench) → OwnsBlock b block → has_else (slice_get (with_if condition block b).nests (length b.nests)) ≡ false
opened-else condition block b h = rw (opened-there condition block b h) refl

-- Its `else` with the second block.

pub both-changes : (condition : Expr) (block : VastStatementBlock) (b : Bench) → Changes block.id.index b (with_if_else condition block b)
both-changes condition block b =
    let i : ℕ = block.id.index in
    let c : Bench = with_if condition block b in
    let one : Changes i b (with_block c) = changes-then i i b c (with_block c) (opened-changes condition block b) (changes-nest i c (BlockRecord [])) (inl refl) in
    changes-then i (length b.nests) b (with_block c) (with_if_else condition block b) one (changes-entry (length b.nests) (with_block c) (ElseEnters (next_block c))) (inr (omega arith))

abbrev branch_of : Expr → VastStatementBlock → Bench → NestRecord
branch_of condition block b = ConditionalNestRecord (record { condition = condition; consequent = first_block b; else_ifs = []; otherwise = Some (second_block condition block b) })

both-there : (condition : Expr) (block : VastStatementBlock) (b : Bench) → OwnsBlock b block → slice_get (with_if_else condition block b).nests (length b.nests) ≡ Some (branch_of condition block b)
both-there condition block b h =
    let c : Bench = with_if condition block b in
    get-changed (with_entry (ElseEnters (next_block c))) (with_block c).nests (length b.nests) (new_conditional b condition)
    (slice_get-append c.nests (BlockRecord [] ∷ []) (length b.nests) (new_conditional b condition) (opened-there condition block b h))

both-else :
    (condition : Expr) (block : VastStatementBlock) (b : Bench) (k : ℕ) (x : NestRecord) → k ≢ length b.nests → slice_get (with_if condition block b).nests k ≡ Some x → slice_get (with_if_else condition block b).nests k ≡ Some x
both-else condition block b k x other e =
    let c : Bench = with_if condition block b in
    get-unchanged (with_entry (ElseEnters (next_block c))) (with_block c).nests k (length b.nests) other ∙ slice_get-append c.nests (BlockRecord [] ∷ []) k x e

first-empty : (condition : Expr) (block : VastStatementBlock) (b : Bench) → OwnsBlock b block → Stands (with_if_else condition block b) (suc (length b.nests)) []
first-empty condition block b h =
    record { statements = []; there = both-else condition block b (suc (length b.nests)) (BlockRecord []) (λ e. absurd (omega (arith, e))) (opened-first condition block b h); reads = λ d w f. refl }

second-empty : (condition : Expr) (block : VastStatementBlock) (b : Bench) → Stands (with_if_else condition block b) (second_block condition block b).id.index []
second-empty condition block b =
    let c : Bench = with_if condition block b in
    let count = opened-count condition block b in
    record {
      statements = [];
      there = get-unchanged (with_entry (ElseEnters (next_block c))) (with_block c).nests (length c.nests) (length b.nests) (λ e. absurd (omega (arith, e, count))) ∙ slice_get-seam c.nests (BlockRecord []);
      reads = λ d w f. refl;
    }

pub second-place : (condition : Expr) (block : VastStatementBlock) (b : Bench) → (second_block condition block b).id.index ≡ suc (suc (length b.nests))
second-place condition block b = opened-count condition block b

pub first-owned : (condition : Expr) (block : VastStatementBlock) (b : Bench) → OwnsBlock b block → OwnsBlock (with_if_else condition block b) (first_block b)
unfolding with_if
first-owned condition block b h = record { of_file = refl; of_kind = rw ((first-empty condition block b h).there) refl }

pub second-owned : (condition : Expr) (block : VastStatementBlock) (b : Bench) → OwnsBlock (with_if_else condition block b) (second_block condition block b)
second-owned condition block b = let c : Bench = with_if condition block b in entered_block_owned (with_block c) (length b.nests) (ElseEnters (next_block c)) (next_block c) (next_block_owned c)

-- The blocks are filled.

pub branches-changes : (condition : Expr) (registers : List RegisterDefinition) (block : VastStatementBlock) (b : Bench) → Changes block.id.index b (with_branches condition registers block b)
unfolding with_branches
branches-changes condition registers block b =
    let i : ℕ = block.id.index in
    let first : VastStatementBlock = first_block b in
    let second : VastStatementBlock = second_block condition block b in
    let place = second-place condition block b in
    let c : Bench = with_if_else condition block b in
    let d : Bench = with_all_assigned AtReset first registers c in
    let one : Changes i b d = changes-then i first.id.index b c d (both-changes condition block b) (all-assigned-changes AtReset first registers c) (inr (omega arith)) in
    changes-then i second.id.index b d (with_branches condition registers block b) one (all-assigned-changes OutsideReset second registers d) (inr (omega (arith, place)))

-- What stands in the bench with both blocks, but not in them, stands there once they are filled.
branches-keep :
    (condition : Expr) (registers : List RegisterDefinition) (block : VastStatementBlock) (b : Bench) (k : ℕ) (x : NestRecord) → k ≤ length b.nests →
    slice_get (with_if_else condition block b).nests k ≡ Some x → slice_get (with_branches condition registers block b).nests k ≡ Some x
unfolding with_branches
branches-keep condition registers block b k x low e =
    let first : VastStatementBlock = first_block b in
    let second : VastStatementBlock = second_block condition block b in
    let place = second-place condition block b in
    let c : Bench = with_if_else condition block b in
    (all-assigned-changes OutsideReset second registers (with_all_assigned AtReset first registers c)).containers k x (λ s. absurd (omega (arith, low, place, s)))
    ((all-assigned-changes AtReset first registers c).containers k x (λ s. absurd (omega (arith, low, s))) e)

-- A later file has the containers from i on.
pub record StaysFrom (i : ℕ) (b c : Bench) : Type 0 where
  pub wider : Wider b c
  pub containers : (k : ℕ) (n : NestRecord) → i ≤ k → slice_get b.nests k ≡ Some n → slice_get c.nests k ≡ Some n

-- Container i reads as a block of these trees, in each later file.
abbrev pub IsBlockOf : Bench → ℕ → List StatementTree → Type 0
IsBlockOf b i trees = (d : Bench) → StaysFrom i b d → block_in (families d i) ≡ block_of trees

stands-read : (b d : Bench) (m i k : ℕ) (trees : List StatementTree) → Stands b k trees → i ≤ k → StaysFrom i b d → block_in (unfolded d (suc m) k) ≡ block_of trees
stands-read b d m i k trees s past w = rw (w.containers k _ past s.there) (s.reads d w.wider (unfolded d m))

branches-stand :
    (condition : Expr) (registers : List RegisterDefinition) (block : VastStatementBlock) (b : Bench) → All (OwnsRegister b) registers → OwnsBlock b block →
    Stands (with_branches condition registers block b) (suc (length b.nests)) (assigned_all value_at_reset (register_trees b registers))
    × Stands (with_branches condition registers block b) (second_block condition block b).id.index (assigned_all value_outside_reset (register_trees b registers))
unfolding with_branches
branches-stand condition registers block b all own =
    let first : VastStatementBlock = first_block b in
    let second : VastStatementBlock = second_block condition block b in
    let place = second-place condition block b in
    let c : Bench = with_if_else condition block b in
    let d : Bench = with_all_assigned AtReset first registers c in
    let v : Wider b c = (both-changes condition block b).wider in
    let k : Changes first.id.index c d = all-assigned-changes AtReset first registers c in
    let l = all-assigned-changes OutsideReset second registers d in
    let in-c : All (OwnsRegister c) registers = registers-owned b c v registers all in
    let trees-c : register_trees c registers ≡ register_trees b registers = registers-kept b c v registers all in
    let trees-d : register_trees d registers ≡ register_trees b registers = registers-kept c d k.wider registers in-c ∙ trees-c in
    let one : Stands d first.id.index (assigned_all value_at_reset (register_trees b registers)) = rw trees-c at (all-assigned-stands AtReset first registers c [] in-c (first-empty condition block b own)) in
    let empty : Stands d second.id.index [] = stands-kept second.id.index first.id.index c d [] k (λ e. absurd (omega (arith, place, e))) (second-empty condition block b) in (
      stands-kept first.id.index second.id.index d _ _ l (λ e. absurd (omega (arith, place, e))) one,
      rw trees-d at (all-assigned-stands OutsideReset second registers d [] (registers-owned c d k.wider registers in-c) empty),
    )

branches-read :
    (condition : Expr) (registers : List RegisterDefinition) (block : VastStatementBlock) (b d : Bench) (i m : ℕ) → i ≤ length b.nests → OwnsExpr b condition → All (OwnsRegister b) registers → OwnsBlock b block →
    StaysFrom i (with_branches condition registers block b) d →
    conditional_statement (unfolded d (suc (suc m)) (length b.nests))
    ≡ ConditionalTree (tree_of b condition) (block_of (assigned_all value_at_reset (register_trees b registers))) (Else (block_of (assigned_all value_outside_reset (register_trees b registers))))
branches-read condition registers block b d i m low h all own s =
    let e : Bench = with_branches condition registers block b in
    let w : Wider b d = wider-wider b e d (branches-changes condition registers block b).wider s.wider in
    let both = branches-stand condition registers block b all own in
    let place = second-place condition block b in
    let there = s.containers (length b.nests) (branch_of condition block b) low (branches-keep condition registers block b (length b.nests) (branch_of condition block b) (omega arith) (both-there condition block b own)) in
    rw (
      there,
      wider_tree b d w condition h,
      stands-read e d m i (suc (length b.nests)) _ both.0 (omega (arith, low)) s,
      stands-read e d m i (second_block condition block b).id.index _ both.1 (omega (arith, low, place)) s,
    ) refl

-- A block of assignments, and after them perhaps a conditional.

plain-read : (b : Bench) (i : ℕ) (trees : List StatementTree) → Stands b i trees → IsBlockOf b i trees
unfolding families
plain-read b i trees s d w =
    let there = w.containers i _ (omega arith) s.there in
    let below = get-within d.nests i _ there in
    let depth : length d.nests ≡ suc (length d.nests - 1) = omega (arith, below) in
    rw depth (stands-read b d (length d.nests - 1) i i trees s (omega arith) w)

pub reset-changes : (reset : Reset) (registers : List RegisterDefinition) (block : VastStatementBlock) (b : Bench) → Changes block.id.index b (with_reset reset registers block b)
reset-changes reset registers block b =
    let i : ℕ = block.id.index in
    changes-then i i b (with_active reset b) (with_reset reset registers block b) (active-changes i reset b) (branches-changes (active_expr reset b) registers block (with_active reset b)) (inl refl)

reset-read :
    (reset : Reset) (registers : List RegisterDefinition) (block : VastStatementBlock) (b : Bench) (trees : List StatementTree) → list_any is_resettable registers ≡ true →
    OwnsReset b reset → All (OwnsRegister b) registers → OwnsBlock b block → Stands b block.id.index trees →
    IsBlockOf (with_reset reset registers block b) block.id.index (trees ++ by_reset (Some (reset_tree b reset)) (register_trees b registers))
unfolding families
reset-read reset registers block b trees any h all own s d w =
    let i : ℕ = block.id.index in
    let c : Bench = with_active reset b in
    let condition : Expr = active_expr reset b in
    let e : Bench = with_branches condition registers block c in
    let k : Changes (suc i) b c = active-changes (suc i) reset b in
    let here : Stands c i trees = stands-kept i (suc i) b c trees k (λ q. absurd (omega (arith, q))) s in
    let owned : OwnsBlock c block = k.blocks block own in
    let below : i < length c.nests = block-place c block owned in
    let made = active-made reset b h in
    let same : register_trees c registers ≡ register_trees b registers = registers-kept b c k.wider registers all in
    let there = w.containers i _ (omega arith) (branches-keep condition registers block c i _ (omega (arith, below)) (both-else condition block c i _ (λ q. absurd (omega (arith, below, q))) (opened-block condition block c here.statements here.there))) in
    let in-c : All (OwnsRegister c) registers = registers-owned b c k.wider registers all in
    let place = second-place condition block c in
    let deep = get-within d.nests _ _ (w.containers (second_block condition block c).id.index _ (omega (arith, below, place)) (branches-stand condition registers block c in-c owned).1.there) in
    let m : ℕ = length d.nests - 3 in
    let depth : length d.nests ≡ suc (suc (suc m)) = omega (arith, deep, place) in
    let branch = rw (made.1, same) at (branches-read condition registers block c d i m (omega (arith, below)) made.0 in-c owned w) in
    let last : statements_in d (unfolded d (suc (suc m))) (ConditionalStatement (next_conditional c) ∷ []) ≡ block_of (by_reset (Some (reset_tree b reset)) (register_trees b registers)) =
    rw (any-tree b registers, any, branch) refl in
    rw (depth, there) (statements-append d (unfolded d (suc (suc m))) here.statements _ trees _ (here.reads d (wider-wider c e d (branches-changes condition registers block c).wider w.wider) (unfolded d (suc (suc m)))) last)

pub maybe-reset-changes : (reset : Option Reset) (registers : List RegisterDefinition) (block : VastStatementBlock) (b : Bench) → Changes block.id.index b (with_maybe_reset reset registers block b)
maybe-reset-changes None registers block b = changes-none block.id.index b
maybe-reset-changes (Some reset) registers block b = if-changes block.id.index b (with_reset reset registers block b) b (list_any is_resettable registers) (reset-changes reset registers block b) (changes-none block.id.index b)

read-case :
    (reset : Reset) (registers : List RegisterDefinition) (block : VastStatementBlock) (b : Bench) (trees : List StatementTree) (t : Bool) → list_any is_resettable registers ≡ t →
    OwnsReset b reset → All (OwnsRegister b) registers → OwnsBlock b block → Stands b block.id.index trees →
    IsBlockOf (with_maybe_reset (Some reset) registers block b) block.id.index (trees ++ by_reset (Some (reset_tree b reset)) (register_trees b registers))
read-case reset registers block b trees true e h all own s = let x = reset-read reset registers block b trees e h all own s in rw e x
read-case reset registers block b trees false e h all own s = rw (any-tree b registers, e, append-nil trees) (plain-read b block.id.index trees s)

pub maybe-reset-read :
    (reset : Option Reset) (registers : List RegisterDefinition) (block : VastStatementBlock) (b : Bench) (trees : List StatementTree) → IfSome reset (OwnsReset b) → All (OwnsRegister b) registers → OwnsBlock b block →
    Stands b block.id.index trees → IsBlockOf (with_maybe_reset reset registers block b) block.id.index (trees ++ by_reset (maybe_reset_tree b reset) (register_trees b registers))
maybe-reset-read None registers block b trees h all own s = rw (append-nil trees) (plain-read b block.id.index trees s)
maybe-reset-read (Some reset) registers block b trees h all own s = read-case reset registers block b trees (list_any is_resettable registers) refl h all own s
