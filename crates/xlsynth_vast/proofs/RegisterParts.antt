-- Laws of the steps by which the block of registers is made: what the file had before stays, and what came since is unused.
use Rattle.std.proofs.Common.{◌≡◌, ◌≢◌, ℕ, suc, zero, ◌+◌, ◌-◌, ◌<◌, ◌≤◌, true, false, List, [], ◌∷◌, ◌++◌, length, All, Option, Some, None, slice_get, get_or, Ok, Err, codes, refl, ap, ◌∙◌, ◌⊎◌, inl, inr, arith, append_assoc, append-nil, length-append}
use Rattle.std.specs.Prelude.{IfSome}
use Rattle.std.specs.Option.{option_map, is_some}
use Rattle.std.specs.List.{list_any}
use Rattle.vast_core.specs.declared.handle.Expr.{Expr}
use Rattle.vast_core.specs.declared.handle.VastStatementBlock.{VastStatementBlock}
use Rattle.vast_core.specs.declared.node.Assignment.{Assignment}
use Rattle.vast_core.specs.Nodes.{Root}
use Rattle.vast_core.specs.Records.{changed_at}
use Rattle.vast_core.specs.Nests.{NestRecord, BlockRecord}
use Rattle.vast_core.specs.Bench.{Bench, OwnsExpr, OwnsBlock, tree_of}
use Rattle.vast_core.specs.Growth.{with_root, with_assignment}
use Rattle.vast_core.specs.Containers.{NestedEntry, with_entry, with_nest, with_nest_entry, with_detached_block}
use Rattle.vast_core.proofs.Lists.{slice_get-append}
use Rattle.vast_core.proofs.NodeLaws.{Extends, Extends-same, Extends-root, HasExpr-kept, expr_in-kept}
use Rattle.vast_core.proofs.NestLaws.{entered_block_owned, old_block_owned}
use Rattle.xlsynth_vast.specs.declared.helpers.registers.Reset.{Reset}
use Rattle.xlsynth_vast.specs.declared.helpers.registers.RegisterDefinition.{RegisterDefinition}
use Rattle.xlsynth_vast.specs.Registers.{is_given, has_reset_value, register_tree, register_trees, maybe_reset_tree, unless_unresettable, OwnsRegister, HasUnused}
use Rattle.xlsynth_vast.specs.AddedRegisters.{is_resettable}

-- Refusals.

given-tree : (b : Bench) (o : Option Expr) → is_given (option_map (tree_of b) o) ≡ is_given o
given-tree b None = refl
given-tree b (Some e) = refl

pub any-tree : (b : Bench) (registers : List RegisterDefinition) → list_any has_reset_value (register_trees b registers) ≡ list_any is_resettable registers
any-tree b [] = refl
any-tree b (r ∷ rs) = rw (given-tree b r.reset_value, any-tree b rs) refl

pub unresettable-refused :
    (b : Bench) (reset : Option Reset) (registers : List RegisterDefinition) → false ≡ is_some reset → true ≡ list_any is_resettable registers →
    unless_unresettable (maybe_reset_tree b reset) (register_trees b registers) ≡ Err (codes "reset signal is required when a register has a reset value")
unresettable-refused b None registers none any = rw (any-tree b registers, ← any) refl
unresettable-refused b (Some r) registers none any = absurd cc

pub resettable-allowed :
    (b : Bench) (reset : Option Reset) (registers : List RegisterDefinition) → false ≡ list_any is_resettable registers →
    unless_unresettable (maybe_reset_tree b reset) (register_trees b registers) ≡ Ok tt
resettable-allowed b None registers none = rw (any-tree b registers, ← none) refl
resettable-allowed b (Some r) registers none = refl

pub with-reset-allowed :
    (b : Bench) (reset : Option Reset) (registers : List RegisterDefinition) → true ≡ is_some reset →
    unless_unresettable (maybe_reset_tree b reset) (register_trees b registers) ≡ Ok tt
with-reset-allowed b None registers some = absurd cc
with-reset-allowed b (Some r) registers some = refl

pub ruleset refusing = (unresettable-refused, resettable-allowed, with-reset-allowed)

-- A file that has expressions and assignments more.

pub record Wider (b c : Bench) : Type 0 where
  pub nodes : Extends b.nodes c.nodes
  pub assignments : (i : ℕ) (a : Assignment) → slice_get b.assignments i ≡ Some a → slice_get c.assignments i ≡ Some a

pub wider-wider : (b c d : Bench) → Wider b c → Wider c d → Wider b d
wider-wider b c d h k =
    record {
      nodes = record { same_id = k.nodes.same_id ∙ h.nodes.same_id; same_roots = λ i r e. k.nodes.same_roots i r (h.nodes.same_roots i r e) };
      assignments = λ i a e. k.assignments i a (h.assignments i a e);
    }

pub wider_owned : (b c : Bench) → Wider b c → (e : Expr) → OwnsExpr b e → OwnsExpr c e
wider_owned b c w e h = HasExpr-kept b.nodes c.nodes w.nodes e h

pub wider_tree : (b c : Bench) → Wider b c → (e : Expr) → OwnsExpr b e → tree_of c e ≡ tree_of b e
wider_tree b c w e h = expr_in-kept b.nodes c.nodes w.nodes e h

maybe-owned : (b c : Bench) → Wider b c → (o : Option Expr) → IfSome o (OwnsExpr b) → IfSome o (OwnsExpr c)
maybe-owned b c w None h = tt
maybe-owned b c w (Some e) h = wider_owned b c w e h

maybe-tree : (b c : Bench) → Wider b c → (o : Option Expr) → IfSome o (OwnsExpr b) → option_map (tree_of c) o ≡ option_map (tree_of b) o
maybe-tree b c w None h = refl
maybe-tree b c w (Some e) h = ap Some (wider_tree b c w e h)

pub register-owned : (b c : Bench) → Wider b c → (r : RegisterDefinition) → OwnsRegister b r → OwnsRegister c r
register-owned b c w r h = (wider_owned b c w r.reg h.0, wider_owned b c w r.next h.1, maybe-owned b c w r.reset_value h.2, maybe-owned b c w r.enable h.3)

pub register-kept : (b c : Bench) → Wider b c → (r : RegisterDefinition) → OwnsRegister b r → register_tree c r ≡ register_tree b r
register-kept b c w r h = rw (wider_tree b c w r.reg h.0, wider_tree b c w r.next h.1, maybe-tree b c w r.reset_value h.2, maybe-tree b c w r.enable h.3) refl

pub registers-owned : (b c : Bench) → Wider b c → (rs : List RegisterDefinition) → All (OwnsRegister b) rs → All (OwnsRegister c) rs
registers-owned b c w rs h = λ k d below. register-owned b c w (get_or rs k d) (h k d below)

pub registers-kept : (b c : Bench) → Wider b c → (rs : List RegisterDefinition) → All (OwnsRegister b) rs → register_trees c rs ≡ register_trees b rs
registers-kept b c w [] h = refl
registers-kept b c w (r ∷ rs) h = rw (register-kept b c w r (h 0 r (omega arith)), registers-kept b c w rs (λ k d below. h (suc k) d (omega arith))) refl

-- Lists after others, and with one element changed.

pub changed-behind : {A : Type 0} (f : A → A) (xs ys : List A) (k i : ℕ) → i ≡ k + length xs → changed_at i f (xs ++ ys) ≡ xs ++ changed_at k f ys
changed-behind f [] ys k i e = let same : i ≡ k = omega (arith, e) in rw same refl
changed-behind f (x ∷ xs) ys k zero e = absurd (omega (arith, e))
changed-behind f (x ∷ xs) ys k (suc i) e = ap (λ r. x ∷ r) (changed-behind f xs ys k i (omega (arith, e)))

pub get-changed : {A : Type 0} (f : A → A) (xs : List A) (i : ℕ) (x : A) → slice_get xs i ≡ Some x → slice_get (changed_at i f xs) i ≡ Some (f x)
get-changed f [] i x e = cc
get-changed f (y ∷ xs) zero x e = let same : y ≡ x = cc in ap (λ z. Some (f z)) same
get-changed f (y ∷ xs) (suc i) x e = get-changed f xs i x e

pub get-unchanged : {A : Type 0} (f : A → A) (xs : List A) (i j : ℕ) → i ≢ j → slice_get (changed_at j f xs) i ≡ slice_get xs i
get-unchanged f [] i j n = refl
get-unchanged f (y ∷ xs) zero zero n = absurd (n refl)
get-unchanged f (y ∷ xs) zero (suc j) n = refl
get-unchanged f (y ∷ xs) (suc i) zero n = refl
get-unchanged f (y ∷ xs) (suc i) (suc j) n = get-unchanged f xs i j (λ e. n (ap suc e))

pub get-within : {A : Type 0} (xs : List A) (i : ℕ) (x : A) → slice_get xs i ≡ Some x → i < length xs
get-within [] i x e = cc
get-within (y ∷ xs) zero x e = omega arith
get-within (y ∷ xs) (suc i) x e = let h = get-within xs i x e in omega (arith, h)

-- What is unused since a file stays so.

pub unused-none : (b : Bench) → HasUnused b b
unused-none b = record { roots = []; assignments = []; containers = []; detached = b.detached; after = rw (append-nil b.nodes.roots, append-nil b.assignments, append-nil b.nests) refl }

pub unused-wider : (old now : Bench) → HasUnused old now → Wider old now
unused-wider old now h = rw h.after (record { nodes = record { same_id = refl; same_roots = λ i r e. slice_get-append old.nodes.roots h.roots i r e }; assignments = λ i a e. slice_get-append old.assignments h.assignments i a e })

pub unused-count : (old now : Bench) → HasUnused old now → length old.nests ≤ length now.nests
unused-count old now h = rw h.after (omega (arith, length-append old.nests h.containers))

unused-root : (b c : Bench) (r : Root) → HasUnused b c → HasUnused b (with_root c r)
unused-root b c r h = rw h.after (record { roots = h.roots ++ r ∷ []; assignments = h.assignments; containers = h.containers; detached = h.detached; after = rw (append_assoc b.nodes.roots h.roots (r ∷ [])) refl })

unused-assignment : (b c : Bench) (a : Assignment) → HasUnused b c → HasUnused b (with_assignment a c)
unused-assignment b c a h = rw h.after (record { roots = h.roots; assignments = h.assignments ++ a ∷ []; containers = h.containers; detached = h.detached; after = rw (append_assoc b.assignments h.assignments (a ∷ [])) refl })

unused-nest : (b c : Bench) (n : NestRecord) → HasUnused b c → HasUnused b (with_nest n c)
unused-nest b c n h = rw h.after (record { roots = h.roots; assignments = h.assignments; containers = h.containers ++ n ∷ []; detached = h.detached; after = rw (append_assoc b.nests h.containers (n ∷ [])) refl })

unused-entry : (b c : Bench) (i : ℕ) (e : NestedEntry) → HasUnused b c → length b.nests ≤ i → HasUnused b (with_nest_entry i e c)
unused-entry b c i e h past =
    let k : ℕ = i - length b.nests in
    let place : i ≡ k + length b.nests = omega (arith, past) in
    rw h.after (record { roots = h.roots; assignments = h.assignments; containers = changed_at k (with_entry e) h.containers; detached = h.detached; after = rw (changed-behind (with_entry e) b.nests h.containers k i place) refl })

pub unused-block : (b : Bench) → HasUnused b (with_detached_block b)
unused-block b = record { roots = []; assignments = []; containers = BlockRecord [] ∷ []; detached = (with_detached_block b).detached; after = rw (append-nil b.nodes.roots, append-nil b.assignments) refl }

-- Of what the file had only the container i changed. It has expressions, assignments and containers more.
pub record Changes (i : ℕ) (b c : Bench) : Type 0 where
  pub wider : Wider b c
  pub containers : (k : ℕ) (n : NestRecord) → k ≢ i → slice_get b.nests k ≡ Some n → slice_get c.nests k ≡ Some n
  pub blocks : (x : VastStatementBlock) → OwnsBlock b x → OwnsBlock c x
  pub detached : c.detached ≡ b.detached
  pub unused : (start : Bench) → HasUnused start b → length start.nests ≤ i → HasUnused start c

pub changes-none : (i : ℕ) (b : Bench) → Changes i b b
changes-none i b = record { wider = record { nodes = Extends-same b.nodes; assignments = λ k a e. e }; containers = λ k n other e. e; blocks = λ x h. h; detached = refl; unused = λ start h past. h }

-- Then a container changes that is the same, or that the file hadn't.
pub changes-then : (i j : ℕ) (b c d : Bench) → Changes i b c → Changes j c d → (j ≡ i) ⊎ (length b.nests ≤ j) → Changes i b d
changes-then i j b c d h k (inl same) =
    record {
      wider = wider-wider b c d h.wider k.wider;
      containers = λ x n other e. k.containers x n (rw same other) (h.containers x n other e);
      blocks = λ x o. k.blocks x (h.blocks x o);
      detached = k.detached ∙ h.detached;
      unused = λ start u past. k.unused start (h.unused start u past) (rw same past);
    }
changes-then i j b c d h k (inr behind) =
    record {
      wider = wider-wider b c d h.wider k.wider;
      containers = λ x n other e. let here = get-within b.nests x n e in k.containers x n (λ same. absurd (omega (arith, here, behind, same))) (h.containers x n other e);
      blocks = λ x o. k.blocks x (h.blocks x o);
      detached = k.detached ∙ h.detached;
      unused = λ start u past. let count = unused-count start b u in k.unused start (h.unused start u past) (omega (arith, count, behind));
    }

pub changes-root : (i : ℕ) (b : Bench) (r : Root) → Changes i b (with_root b r)
changes-root i b r = record { wider = record { nodes = Extends-root b.nodes r; assignments = λ k a e. e }; containers = λ k n other e. e; blocks = λ x h. h; detached = refl; unused = λ start h past. unused-root start b r h }

pub changes-assignment : (i : ℕ) (b : Bench) (a : Assignment) → Changes i b (with_assignment a b)
changes-assignment i b a =
    record {
      wider = record { nodes = Extends-same b.nodes; assignments = λ k x e. slice_get-append b.assignments (a ∷ []) k x e };
      containers = λ k n other e. e;
      blocks = λ x h. h;
      detached = refl;
      unused = λ start h past. unused-assignment start b a h;
    }

pub changes-nest : (i : ℕ) (b : Bench) (n : NestRecord) → Changes i b (with_nest n b)
changes-nest i b n =
    record {
      wider = record { nodes = Extends-same b.nodes; assignments = λ k a e. e };
      containers = λ k x other e. slice_get-append b.nests (n ∷ []) k x e;
      blocks = λ x h. old_block_owned b n x h;
      detached = refl;
      unused = λ start h past. unused-nest start b n h;
    }

pub changes-entry : (i : ℕ) (b : Bench) (e : NestedEntry) → Changes i b (with_nest_entry i e b)
changes-entry i b e =
    record {
      wider = record { nodes = Extends-same b.nodes; assignments = λ k a h. h };
      containers = λ k n other h. get-unchanged (with_entry e) b.nests k i other ∙ h;
      blocks = λ x h. entered_block_owned b i e x h;
      detached = refl;
      unused = λ start h past. unused-entry start b i e h past;
    }
