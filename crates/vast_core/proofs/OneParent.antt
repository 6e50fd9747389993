-- Each part of a file stands in at most one place, whatever grows.
use Rattle.std.proofs.Common.{◌≡◌, ℕ, suc, ◌+◌, ◌≤◌, Bool, true, false, List, [], ◌∷◌, ◌++◌, length, flat_map, nat_eq, nat_lt, cond, Option, Some, None, refl, ap, arith}
use Rattle.vast_core.specs.Handles.{VastModule, VastStatementBlock}
use Rattle.vast_core.specs.Records.{ModuleRecord}
use Rattle.vast_core.specs.Nests.{ConditionalRecord, NestRecord, BlockRecord, ConditionalNestRecord, CaseNestRecord, LoopNestRecord, FunctionVariable, FunctionRecord, AlwaysRecord}
use Rattle.vast_core.specs.Bench.{Bench}
use Rattle.vast_core.specs.Functions.{with_listed_variable}
use Rattle.vast_core.specs.Containers.{NestedEntry, StatementEnters, ElseIfEnters, ElseEnters, CaseArmEnters, MemberEnters, with_entry, with_unique}
use Rattle.vast_core.specs.Internal.Containers.{ModuleChange, HeaderGains, PortsGain, MembersGain, Hoists, with_change, Listing, Nowhere, InFile, InModule, InFunction, InNest, AsDetached, AsUnique, listed_functions, listed_nests, with_listing, added, Fresh, with_fresh, with_empty_block, detached_left, after_growth, read_off, held_by_entry, held_by_listing, held_by_fresh, made_containers, made, detached_used}
use Rattle.vast_core.specs.Parents.{Part, ContainerPart, FunctionPart, AlwaysPart, is_same, held_by_statement, held_by_member, held_by_else_if, held_by_block, held_by_case_arm, held_by_conditional, held_by_container, held_by_function, held_by_always, held_by_module, held, places, present, HasOneParent}
use Rattle.vast_core.proofs.Lists.{length-changed_at, length-push}
use Rattle.vast_core.proofs.Counts.{count-append, over-push, over-added, over-changed, over-hoisted}

conditional-places :
    (p : Part) (c : ConditionalRecord) →
    places p (held_by_conditional c) ≡ places p (ContainerPart c.consequent.id.index ∷ []) + (places p (flat_map held_by_else_if c.else_ifs) + places p (held_by_block c.otherwise))
conditional-places p c =
    let outer = count-append (is_same p) (ContainerPart c.consequent.id.index ∷ []) (flat_map held_by_else_if c.else_ifs ++ held_by_block c.otherwise) in
    let inner = count-append (is_same p) (flat_map held_by_else_if c.else_ifs) (held_by_block c.otherwise) in
    omega (arith, outer, inner)

-- A container gains at most what its new entry places.
entered : (p : Part) (e : NestedEntry) (n : NestRecord) → places p (held_by_container (with_entry e n)) ≤ places p (held_by_container n) + places p (held_by_entry e)
entered p (StatementEnters s) (BlockRecord statements) = let e = over-push (is_same p) held_by_statement statements s in omega (arith, e)
entered p (ElseIfEnters a) (ConditionalNestRecord c) =
    let new = conditional-places p (record c { else_ifs = c.else_ifs ++ a ∷ [] }) in
    let more = over-push (is_same p) held_by_else_if c.else_ifs a in
    let old = conditional-places p c in
    omega (arith, new, more, old)
entered p (ElseEnters x) (ConditionalNestRecord c) =
    let new = conditional-places p (record c { otherwise = Some x }) in
    let old = conditional-places p c in
    omega (arith, new, old)
entered p (CaseArmEnters a) (CaseNestRecord c) = let e = over-push (is_same p) held_by_case_arm c.arms a in omega (arith, e)
entered p (MemberEnters m) (LoopNestRecord l) = let e = over-push (is_same p) held_by_member l.members m in omega (arith, e)
entered p _ _ = omega arith

changed : (p : Part) (owner : VastModule) (change : ModuleChange) (m : ModuleRecord) → places p (held_by_module (with_change change m)) ≤ places p (held_by_module m) + places p (held_by_listing (InModule owner change))
changed p owner (HeaderGains x) m = omega arith
changed p owner (PortsGain port name) m = omega arith
changed p owner (MembersGain entry None) m = let e = over-push (is_same p) held_by_member m.members entry in omega (arith, e)
changed p owner (MembersGain entry (Some name)) m = let e = over-push (is_same p) held_by_member m.members entry in omega (arith, e)
changed p owner (Hoists start) m = let e = over-hoisted (is_same p) held_by_member start m.members in omega (arith, e)

-- The places of a whole file.

file-places :
    (p : Part) (b : Bench) → places p (held b) ≡
    places p (flat_map held_by_container b.nests) + (places p (flat_map held_by_function b.functions) + (places p (flat_map held_by_always b.always_blocks) + (places p (flat_map held_by_module b.modules) + places p (held_by_block b.detached))))
file-places p b =
    let t = is_same p in
    let modules = count-append t (flat_map held_by_module b.modules) (held_by_block b.detached) in
    let always_blocks = count-append t (flat_map held_by_always b.always_blocks) (flat_map held_by_module b.modules ++ held_by_block b.detached) in
    let functions = count-append t (flat_map held_by_function b.functions) (flat_map held_by_always b.always_blocks ++ (flat_map held_by_module b.modules ++ held_by_block b.detached)) in
    let containers = count-append t (flat_map held_by_container b.nests) (flat_map held_by_function b.functions ++ (flat_map held_by_always b.always_blocks ++ (flat_map held_by_module b.modules ++ held_by_block b.detached))) in
    omega (arith, containers, functions, always_blocks, modules)

-- New nodes.

empty-block : (p : Part) (block : Bool) (nests : List NestRecord) → places p (flat_map held_by_container (with_empty_block block nests)) ≡ places p (flat_map held_by_container nests)
empty-block p false nests = refl
empty-block p true nests = let e = over-push (is_same p) held_by_container nests (BlockRecord []) in omega (arith, e)

detached-parts : (p : Part) (takes : Bool) (detached : Option VastStatementBlock) → places p (held_by_block (detached_left takes detached)) + places p (detached_used takes detached) ≡ places p (held_by_block detached)
detached-parts p false detached = omega arith
detached-parts p true detached = omega arith

module-parts : (p : Part) (o : Option ModuleRecord) → places p (read_off held_by_module o) ≡ 0 → (ms : List ModuleRecord) → places p (flat_map held_by_module (added ms o)) ≡ places p (flat_map held_by_module ms)
module-parts p o h ms = let e = over-added (is_same p) held_by_module ms o in omega (arith, e, h)

nodes-come :
    (p : Part) (f : Fresh) (b : Bench) → places p (read_off held_by_module f.fresh_module) ≡ 0 →
    places p (held (with_fresh f b)) + places p (detached_used f.takes_detached b.detached) ≡ places p (held b) + places p (held_by_fresh f)
nodes-come p f b none =
    let t = is_same p in
    let old = file-places p b in
    let new = file-places p (with_fresh f b) in
    let block = empty-block p f.block (added b.nests f.container) in
    let containers = over-added t held_by_container b.nests f.container in
    let functions = over-added t held_by_function b.functions f.function in
    let always_blocks = over-added t held_by_always b.always_blocks f.always_block in
    let modules = module-parts p f.fresh_module none b.modules in
    let detached = detached-parts p f.takes_detached b.detached in
    let outer = count-append t (read_off held_by_container f.container) (read_off held_by_function f.function ++ read_off held_by_always f.always_block) in
    let inner = count-append t (read_off held_by_function f.function) (read_off held_by_always f.always_block) in
    omega (arith, old, new, block, containers, functions, always_blocks, modules, detached, outer, inner)

-- A new entry.

same-unique : (p : Part) (unique : Bool) (n : NestRecord) → places p (held_by_container (with_unique unique n)) ≤ places p (held_by_container n) + 0
same-unique p unique (BlockRecord statements) = omega arith
same-unique p unique _ = omega arith

same-body : (p : Part) (local : Bool) (v : FunctionVariable) (f : FunctionRecord) → places p (held_by_function (with_listed_variable local v f)) ≤ places p (held_by_function f) + 0
same-body p false v f = omega arith
same-body p true v f = omega arith

entry-comes : (p : Part) (l : Listing) (b : Bench) → places p (held (with_listing l b)) ≤ places p (held b) + places p (held_by_listing l)
entry-comes p Nowhere b = omega arith
entry-comes p (InFile entry) b = omega arith
entry-comes p (InModule owner change) b =
    let old = file-places p b in
    let new = file-places p (with_listing (InModule owner change) b) in
    let more = over-changed (is_same p) held_by_module (with_change change) (places p (held_by_listing (InModule owner change))) (changed p owner change) b.modules owner.id.index in
    omega (arith, old, new, more)
entry-comes p (InFunction f local v) b =
    let old = file-places p b in
    let new = file-places p (with_listing (InFunction f local v) b) in
    let same = over-changed (is_same p) held_by_function (with_listed_variable local v) 0 (same-body p local v) b.functions f.id.index in
    omega (arith, old, new, same)
entry-comes p (InNest place entry) b =
    let old = file-places p b in
    let new = file-places p (with_listing (InNest place entry) b) in
    let more = over-changed (is_same p) held_by_container (with_entry entry) (places p (held_by_entry entry)) (entered p entry) b.nests place in
    omega (arith, old, new, more)
entry-comes p (AsDetached block) b =
    let old = file-places p b in
    let new = file-places p (with_listing (AsDetached block) b) in
    omega (arith, old, new)
entry-comes p (AsUnique place unique) b =
    let old = file-places p b in
    let new = file-places p (with_listing (AsUnique place unique) b) in
    let same = over-changed (is_same p) held_by_container (with_unique unique) 0 (same-unique p unique) b.nests place in
    omega (arith, old, new, same)

-- The parts that a file has.

abbrev one_if : ℕ → ℕ → ℕ
one_if i n = cond (nat_eq i n) 1 0

abbrev below : ℕ → ℕ → ℕ
below i n = cond (nat_lt i n) 1 0

below-suc : (i n : ℕ) → below i (suc n) ≡ below i n + one_if i n
below-suc i n = grind arith

present-containers :
    (i : ℕ) (ns : List NestRecord) (o : Option NestRecord) (block : Bool) → below i (length (with_empty_block block (added ns o))) ≡ below i (length ns) + places (ContainerPart i) (made_containers (length ns) o block)
present-containers i ns None false = omega arith
present-containers i ns None true = let e = below-suc i (length ns) in rw (length-push ns (BlockRecord [])) (omega (arith, e))
present-containers i ns (Some x) false = let e = below-suc i (length ns) in rw (length-push ns x) (omega (arith, e))
present-containers i ns (Some x) true =
    let e = below-suc i (length ns) in
    let f = below-suc i (suc (length ns)) in
    rw (length-push (ns ++ x ∷ []) (BlockRecord []), length-push ns x) (omega (arith, e, f))

present-functions : (i : ℕ) (xs : List FunctionRecord) (o : Option FunctionRecord) → below i (length (added xs o)) ≡ below i (length xs) + places (FunctionPart i) (read_off (λ x. FunctionPart (length xs) ∷ []) o)
present-functions i xs None = omega arith
present-functions i xs (Some x) = let e = below-suc i (length xs) in rw (length-push xs x) (omega (arith, e))

present-always : (i : ℕ) (xs : List AlwaysRecord) (o : Option AlwaysRecord) → below i (length (added xs o)) ≡ below i (length xs) + places (AlwaysPart i) (read_off (λ x. AlwaysPart (length xs) ∷ []) o)
present-always i xs None = omega arith
present-always i xs (Some x) = let e = below-suc i (length xs) in rw (length-push xs x) (omega (arith, e))

no-container : (i n : ℕ) (o : Option NestRecord) (block : Bool) → (places (FunctionPart i) (made_containers n o block) ≡ 0) × (places (AlwaysPart i) (made_containers n o block) ≡ 0)
no-container i n None false = (refl, refl)
no-container i n None true = (refl, refl)
no-container i n (Some x) false = (refl, refl)
no-container i n (Some x) true = (refl, refl)

no-function : (i n : ℕ) (o : Option FunctionRecord) → (places (ContainerPart i) (read_off (λ x. FunctionPart n ∷ []) o) ≡ 0) × (places (AlwaysPart i) (read_off (λ x. FunctionPart n ∷ []) o) ≡ 0)
no-function i n None = (refl, refl)
no-function i n (Some x) = (refl, refl)

no-always : (i n : ℕ) (o : Option AlwaysRecord) → (places (ContainerPart i) (read_off (λ x. AlwaysPart n ∷ []) o) ≡ 0) × (places (FunctionPart i) (read_off (λ x. AlwaysPart n ∷ []) o) ≡ 0)
no-always i n None = (refl, refl)
no-always i n (Some x) = (refl, refl)

made-places :
    (p : Part) (f : Fresh) (b : Bench) → places p (made b f) ≡
    places p (read_off (λ x. FunctionPart (length b.functions) ∷ []) f.function) + (places p (read_off (λ x. AlwaysPart (length b.always_blocks) ∷ []) f.always_block) + places p (made_containers (length b.nests) f.container f.block))
made-places p f b =
    let fs : List Part = read_off (λ x. FunctionPart (length b.functions) ∷ []) f.function in
    let us : List Part = read_off (λ x. AlwaysPart (length b.always_blocks) ∷ []) f.always_block in
    let ns : List Part = made_containers (length b.nests) f.container f.block in
    let outer = count-append (is_same p) fs (us ++ ns) in
    let inner = count-append (is_same p) us ns in
    omega (arith, outer, inner)

present-made : (p : Part) (f : Fresh) (b : Bench) → present (with_fresh f b) p ≡ present b p + places p (made b f)
present-made (ContainerPart i) f b =
    let all = made-places (ContainerPart i) f b in
    let containers = present-containers i b.nests f.container f.block in
    let functions = (no-function i (length b.functions) f.function).0 in
    let always_blocks = (no-always i (length b.always_blocks) f.always_block).0 in
    omega (arith, all, containers, functions, always_blocks)
present-made (FunctionPart i) f b =
    let all = made-places (FunctionPart i) f b in
    let containers = (no-container i (length b.nests) f.container f.block).0 in
    let functions = present-functions i b.functions f.function in
    let always_blocks = (no-always i (length b.always_blocks) f.always_block).1 in
    omega (arith, all, containers, functions, always_blocks)
present-made (AlwaysPart i) f b =
    let all = made-places (AlwaysPart i) f b in
    let containers = (no-container i (length b.nests) f.container f.block).1 in
    let functions = (no-function i (length b.functions) f.function).1 in
    let always_blocks = present-always i b.always_blocks f.always_block in
    omega (arith, all, containers, functions, always_blocks)

length-nests : (l : Listing) (ns : List NestRecord) → length (listed_nests l ns) ≡ length ns
length-nests (InNest place entry) ns = length-changed_at (with_entry entry) ns place
length-nests (AsUnique place unique) ns = length-changed_at (with_unique unique) ns place
length-nests _ ns = refl

pub length-functions : (l : Listing) (fs : List FunctionRecord) → length (listed_functions l fs) ≡ length fs
length-functions (InFunction f local v) fs = length-changed_at (with_listed_variable local v) fs f.id.index
length-functions _ fs = refl

present-listed : (p : Part) (l : Listing) (b : Bench) → present (with_listing l b) p ≡ present b p
present-listed (ContainerPart i) l b = ap (below i) (length-nests l b.nests)
present-listed (FunctionPart i) l b = ap (below i) (length-functions l b.functions)
present-listed (AlwaysPart i) l b = refl

-- A growth that places what it makes, each once.
pub HasOneParent-growth :
    (b : Bench) (l : Listing) (f : Fresh) → ((p : Part) → places p (read_off held_by_module f.fresh_module) ≡ 0) →
    held_by_listing l ++ held_by_fresh f ≡ made b f ++ detached_used f.takes_detached b.detached → HasOneParent b → HasOneParent (after_growth l f b)
HasOneParent-growth b l f none placed h =
    record {
      once = λ p.
          let t = is_same p in
          let old = h.once p in
          let nodes = nodes-come p f b (none p) in
          let entry = entry-comes p l (with_fresh f b) in
          let there = present-listed p l (with_fresh f b) in
          let more = present-made p f b in
          let same = ap (places p) placed in
          let left = count-append t (held_by_listing l) (held_by_fresh f) in
          let right = count-append t (made b f) (detached_used f.takes_detached b.detached) in
          omega (arith, old, nodes, entry, there, more, same, left, right);
    }
