-- Laws of the blocks of registers: what they say once they are filled.
use Rattle.std.proofs.Common.{◌≡◌, ◌≢◌, ℕ, suc, ◌+◌, ◌<◌, Bool, true, false, List, [], ◌∷◌, ◌++◌, length, All, Option, Some, None, slice_get, get_or, take, if◌then◌else◌, refl, sym, ap, ◌∙◌, inl, arith, add-one, append_assoc, append-nil}
use Rattle.std.specs.Prelude.{IfSome}
use Rattle.std.specs.Option.{option_map}
use Rattle.std.proofs.Math.Seq.{take-suc}
use Rattle.vast_literal.specs.Tree.{ExprTree, StatementTree, TernaryTree, AssignTree}
use Rattle.vast_literal.specs.declared.kind.AssignmentForm.TheVariants.{Nonblocking}
use Rattle.vast_core.specs.declared.handle.Expr.{Expr}
use Rattle.vast_core.specs.declared.handle.VastStatementBlock.{VastStatementBlock}
use Rattle.vast_core.specs.declared.node.Assignment.{Assignment}
use Rattle.vast_core.specs.Nodes.{ExprRoot}
use Rattle.vast_core.specs.Nests.{BlockRecord}
use Rattle.vast_core.specs.declared.node.Statement.{Statement}
use Rattle.vast_core.specs.declared.node.Statement.TheVariants.{Assignment as AssignStatement}
use Rattle.vast_core.specs.Bench.{Bench, OwnsExpr, tree_of}
use Rattle.vast_core.specs.Growth.{with_assignment}
use Rattle.vast_core.specs.Artifacts.{next_statement}
use Rattle.vast_core.specs.Containers.{StatementEnters, with_entry}
use Rattle.vast_core.specs.FileTree.{Family, statement_in, statements_in}
use Rattle.vast_core.proofs.Laws.{next_owned, next_tree}
use Rattle.vast_core.proofs.Lists.{All-head, All-tail, slice_get-seam}
use Rattle.xlsynth_vast.specs.declared.helpers.registers.RegisterDefinition.{RegisterDefinition}
use Rattle.xlsynth_vast.specs.declared.helpers.registers.Share.{Share}
use Rattle.xlsynth_vast.specs.declared.helpers.registers.Share.TheVariants.{Unreset, AtReset, OutsideReset}
use Rattle.xlsynth_vast.specs.Reductions.{IsTree}
use Rattle.xlsynth_vast.specs.Registers.{RegisterTree, block_of, enabled_value, unreset_value, value_at_reset, value_outside_reset, given, assigned_all, register_tree, register_trees, OwnsRegister}
use Rattle.xlsynth_vast.specs.AddedRegisters.{is_resettable, enabled_expr, with_enabled, running_expr, with_running, value_expr, with_value, with_given, with_assigned, with_all_assigned}
use Rattle.xlsynth_vast.proofs.RegisterParts.{Wider, wider-wider, wider_owned, wider_tree, registers-owned, registers-kept, get-changed, Changes, changes-none, changes-then, changes-root, changes-assignment, changes-entry}

-- Container i is a block of statements that read so, as long as the file's expressions and assignments stay.

abbrev pub Reads : Bench → List Statement → List StatementTree → Type 0
Reads b statements trees = (c : Bench) → Wider b c → (f : ℕ → Family) → statements_in c f statements ≡ block_of trees

pub record Stands (b : Bench) (i : ℕ) (trees : List StatementTree) : Type 0 where
  pub statements : List Statement
  pub there : slice_get b.nests i ≡ Some (BlockRecord statements)
  pub reads : Reads b statements trees

pub stands-kept : (i j : ℕ) (b c : Bench) (trees : List StatementTree) → Changes j b c → i ≢ j → Stands b i trees → Stands c i trees
stands-kept i j b c trees k other h = record { statements = h.statements; there = k.containers i _ other h.there; reads = λ d w f. h.reads d (wider-wider b c d k.wider w) f }

pub statements-append :
    (d : Bench) (f : ℕ → Family) (ss more : List Statement) (ts others : List StatementTree) → statements_in d f ss ≡ block_of ts → statements_in d f more ≡ block_of others →
    statements_in d f (ss ++ more) ≡ block_of (ts ++ others)
statements-append d f [] more [] others h k = k
statements-append d f [] more (t ∷ ts) others h k = cc
statements-append d f (s ∷ ss) more [] others h k = cc
statements-append d f (s ∷ ss) more (t ∷ ts) others h k =
    let first : statement_in d f s ≡ t = cc in
    let rest : statements_in d f ss ≡ block_of ts = cc in
    rw (first, statements-append d f ss more ts others rest k) refl

-- Values.

abbrev pub value_in : Share → RegisterTree → Option ExprTree
value_in Unreset r = unreset_value r
value_in AtReset r = value_at_reset r
value_in OutsideReset r = value_outside_reset r

pub if-changes : (i : ℕ) (b c d : Bench) (t : Bool) → Changes i b c → Changes i b d → Changes i b (if t then c else d)
if-changes i b c d true h k = h
if-changes i b c d false h k = k

enabled-changes : (i : ℕ) (enable : Option Expr) (next target : Expr) (b : Bench) → Changes i b (with_enabled enable next target b)
enabled-changes i None next target b = changes-none i b
enabled-changes i (Some enable) next target b = changes-root i b (ExprRoot (TernaryTree (tree_of b enable) (tree_of b next) (tree_of b target)))

pub value-changes : (i : ℕ) (share : Share) (r : RegisterDefinition) (b : Bench) → Changes i b (with_value share r b)
value-changes i Unreset r b = if-changes i b b (with_running r b) (is_resettable r) (changes-none i b) (enabled-changes i r.enable r.next r.reg b)
value-changes i AtReset r b = changes-none i b
value-changes i OutsideReset r b = if-changes i b (with_running r b) b (is_resettable r) (enabled-changes i r.enable r.next r.reg b) (changes-none i b)

enabled-made :
    (enable : Option Expr) (next target : Expr) (b : Bench) → OwnsExpr b next →
    IsTree (with_enabled enable next target b) (enabled_expr enable next b) (enabled_value (option_map (tree_of b) enable) (tree_of b next) (tree_of b target))
enabled-made None next target b h = (h, refl)
enabled-made (Some enable) next target b h = let t = TernaryTree (tree_of b enable) (tree_of b next) (tree_of b target) in (next_owned b t, next_tree b t)

-- The expression of the tree, or none where there is no tree.
abbrev MaybeTree : Bench → Option Expr → Option ExprTree → Type 0
MaybeTree b None t = t ≡ None
MaybeTree b (Some e) t = OwnsExpr b e × (t ≡ Some (tree_of b e))

some-tree : (b : Bench) (e : Expr) (t : ExprTree) → IsTree b e t → MaybeTree b (Some e) (Some t)
some-tree b e t h = (h.0, ap Some (sym h.1))

value-case :
    (share : Share) (r : RegisterDefinition) (b : Bench) (o : Option Expr) → r.reset_value ≡ o → IfSome o (OwnsExpr b) → OwnsExpr b r.next →
    MaybeTree (with_value share r b) (value_expr share r b) (value_in share (register_tree b r))
value-case Unreset r b None e k h = rw e (some-tree (with_running r b) (running_expr r b) _ (enabled-made r.enable r.next r.reg b h))
value-case Unreset r b (Some v) e k h = rw e refl
value-case AtReset r b None e k h = rw e refl
value-case AtReset r b (Some v) e k h = rw e (k, refl)
value-case OutsideReset r b None e k h = rw e refl
value-case OutsideReset r b (Some v) e k h = rw e (some-tree (with_running r b) (running_expr r b) _ (enabled-made r.enable r.next r.reg b h))

pub value-made : (share : Share) (r : RegisterDefinition) (b : Bench) → OwnsRegister b r → MaybeTree (with_value share r b) (value_expr share r b) (value_in share (register_tree b r))
value-made share r b h = value-case share r b r.reset_value refl h.2 h.1

-- Assignments.

given-changes : (block : VastStatementBlock) (target : Expr) (o : Option Expr) (b : Bench) → Changes block.id.index b (with_given block target o b)
given-changes block target None b = changes-none block.id.index b
given-changes block target (Some value) b =
    let a : Assignment = record { lhs = target; rhs = value; nonblocking = true } in
    let i : ℕ = block.id.index in
    changes-then i i b (with_assignment a b) (with_given block target (Some value) b) (changes-assignment i b a) (changes-entry i (with_assignment a b) (StatementEnters (AssignStatement (next_statement b)))) (inl refl)

pub assigned-changes : (share : Share) (block : VastStatementBlock) (r : RegisterDefinition) (b : Bench) → Changes block.id.index b (with_assigned share block r b)
unfolding with_assigned
assigned-changes share block r b =
    let i : ℕ = block.id.index in
    changes-then i i b (with_value share r b) (with_assigned share block r b) (value-changes i share r b) (given-changes block r.reg (value_expr share r b) (with_value share r b)) (inl refl)

pub all-assigned-changes : (share : Share) (block : VastStatementBlock) (rs : List RegisterDefinition) (b : Bench) → Changes block.id.index b (with_all_assigned share block rs b)
all-assigned-changes share block [] b = changes-none block.id.index b
all-assigned-changes share block (r ∷ rs) b =
    let i : ℕ = block.id.index in
    let c : Bench = with_assigned share block r b in
    changes-then i i b c (with_all_assigned share block rs c) (assigned-changes share block r b) (all-assigned-changes share block rs c) (inl refl)

given-stands :
    (block : VastStatementBlock) (target : Expr) (o : Option Expr) (t : Option ExprTree) (b : Bench) (trees : List StatementTree) → OwnsExpr b target → MaybeTree b o t → Stands b block.id.index trees →
    Stands (with_given block target o b) block.id.index (trees ++ given (tree_of b target) t)
given-stands block target None t b trees h k s = rw (k, append-nil trees) s
given-stands block target (Some value) t b trees h k s =
    let a : Assignment = record { lhs = target; rhs = value; nonblocking = true } in
    let x : Statement = AssignStatement (next_statement b) in
    let c : Bench = with_given block target (Some value) b in
    let w : Wider b c = (given-changes block target (Some value) b).wider in
    let one : Reads c (x ∷ []) (AssignTree Nonblocking (tree_of b target) (tree_of b value) ∷ []) =
    λ d v f. rw (v.assignments (length b.assignments) a (slice_get-seam b.assignments a), wider_tree c d v target h, wider_tree c d v value k.0) refl in
    rw k.1 (record {
      statements = s.statements ++ x ∷ [];
      there = get-changed (with_entry (StatementEnters x)) b.nests block.id.index (BlockRecord s.statements) s.there;
      reads = λ d v f. statements-append d f s.statements (x ∷ []) trees (AssignTree Nonblocking (tree_of b target) (tree_of b value) ∷ []) (s.reads d (wider-wider b c d w v) f) (one d v f);
    })

assigned-stands :
    (share : Share) (block : VastStatementBlock) (r : RegisterDefinition) (b : Bench) (trees : List StatementTree) → OwnsRegister b r → Stands b block.id.index trees →
    Stands (with_assigned share block r b) block.id.index (trees ++ given (tree_of b r.reg) (value_in share (register_tree b r)))
unfolding with_assigned
assigned-stands share block r b trees h s =
    let i : ℕ = block.id.index in
    let c : Bench = with_value share r b in
    let k : Changes (suc i) b c = value-changes (suc i) share r b in
    rw (wider_tree b c k.wider r.reg h.0) at
    (given-stands block r.reg (value_expr share r b) (value_in share (register_tree b r)) c trees (wider_owned b c k.wider r.reg h.0) (value-made share r b h) (stands-kept i (suc i) b c trees k (λ e. absurd (omega (arith, e))) s))

pub all-assigned-stands :
    (share : Share) (block : VastStatementBlock) (rs : List RegisterDefinition) (b : Bench) (trees : List StatementTree) → All (OwnsRegister b) rs → Stands b block.id.index trees →
    Stands (with_all_assigned share block rs b) block.id.index (trees ++ assigned_all (value_in share) (register_trees b rs))
all-assigned-stands share block [] b trees h s = rw (append-nil trees) s
all-assigned-stands share block (r ∷ rs) b trees h s =
    let c : Bench = with_assigned share block r b in
    let w : Wider b c = (assigned-changes share block r b).wider in
    let one : List StatementTree = given (tree_of b r.reg) (value_in share (register_tree b r)) in
    let rest : All (OwnsRegister b) rs = All-tail (OwnsRegister b) r rs h in
    let here : Stands c block.id.index (trees ++ one) = assigned-stands share block r b trees (All-head (OwnsRegister b) r rs h) s in
    let all : Stands (with_all_assigned share block rs c) block.id.index ((trees ++ one) ++ assigned_all (value_in share) (register_trees b rs)) =
    rw (← registers-kept b c w rs rest) (all-assigned-stands share block rs c (trees ++ one) (registers-owned b c w rs rest) here) in
    rw (append_assoc trees one (assigned_all (value_in share) (register_trees b rs))) at all

-- The loop over the registers.

all-assigned-last :
    (share : Share) (block : VastStatementBlock) (rs : List RegisterDefinition) (r : RegisterDefinition) (b : Bench) →
    with_all_assigned share block (rs ++ r ∷ []) b ≡ with_assigned share block r (with_all_assigned share block rs b)
all-assigned-last share block [] r b = refl
all-assigned-last share block (x ∷ rs) r b = all-assigned-last share block rs r (with_assigned share block x b)

pub assigning-step :
    (share : Share) (block : VastStatementBlock) (registers : List RegisterDefinition) (i : ℕ) (r : RegisterDefinition) (old now after : Bench) → i < length registers → r ≡ get_or registers i r →
    now ≡ with_all_assigned share block (take i registers) old → after ≡ with_assigned share block r now → after ≡ with_all_assigned share block (take (i + 1) registers) old
assigning-step share block registers i r old now after below is e f =
    let taken : take (suc i) registers ≡ take i registers ++ r ∷ [] = rw (← is) at (take-suc registers i r below) in
    rw (add-one, taken) (f ∙ ap (with_assigned share block r) e ∙ sym (all-assigned-last share block (take i registers) r old))
