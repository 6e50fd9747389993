-- What the arenas hold after a growth, and that they stay sound.
use Rattle.std.proofs.Common.{◌≡◌, ℕ, ◌<◌, Bool, true, false, List, [], ◌∷◌, ◌++◌, length, map, Option, Some, None, refl, sym, ap, ◌∙◌, arith, subst}
use Rattle.std.proofs.lemmas.List.{length-map, append-nil}
use Rattle.vast_core.specs.declared.node.Nest.{Nest}
use Rattle.vast_core.specs.Handles.{VastModule}
use Rattle.vast_core.specs.declared.node.Module.{Module}
use Rattle.vast_core.specs.declared.node.Function.{Function}
use Rattle.vast_core.specs.ArenaState.{ArenaState}
use Rattle.vast_core.specs.Nodes.{ExprNode, no_nodes}
use Rattle.vast_core.specs.Internal.Nodes.{TermsSound}
use Rattle.vast_core.specs.Records.{FileItem, Assignment, ModuleRecord, changed_at, module_record, instance_record}
use Rattle.vast_core.specs.Nests.{NestRecord, BlockRecord, FunctionRecord, nest_record, function_record, always_record}
use Rattle.vast_core.specs.Functions.{with_listed_variable}
use Rattle.vast_core.specs.Bench.{Bench}
use Rattle.vast_core.specs.View.{bench}
use Rattle.vast_core.specs.Sound.{FileSound}
use Rattle.vast_core.specs.Internal.Sound.{IsSound}
use Rattle.vast_core.specs.Containers.{with_entry, with_unique}
use Rattle.vast_core.specs.Internal.Containers.{ModuleChange, with_change, Listing, Nowhere, InModule, InFunction, InNest, AsUnique, listed_modules, listed_functions, listed_nests, listed_items, listed_detached, added, with_empty_block, detached_left, with_fresh, Fresh, ListingSound, GrowthSound, after_growth, no_fresh}
use Rattle.vast_core.specs.Internal.Arrivals.{ListingThere, fresh_node, fresh_of, terms_of}
use Rattle.vast_core.specs.declared.ast.arrivals.Terms.{Terms}
use Rattle.vast_core.specs.declared.ast.arrivals.Node.{Node}
use Rattle.vast_core.proofs.Readers.{module-arena, arena-below, function-arena, length-nests}
use Rattle.vast_core.proofs.NodeLaws.{built-append, TermsSound-append}
use Rattle.vast_core.proofs.Nests.{changed-before}
use Rattle.vast_core.proofs.Added.{length-added}
use Rattle.vast_core.proofs.Growing.{FileSound-growth}

-- The arenas after a growth.

terms-added : (a : ArenaState) (ts : List ExprNode) → TermsSound (no_nodes a.id) a.terms → TermsSound (bench a).nodes ts → TermsSound (no_nodes a.id) (a.terms ++ ts)
unfolding bench
terms-added a ts s h = TermsSound-append (no_nodes a.id) a.terms ts s h

-- The entry may come before the nodes or after them.

before-added : {A : Type 0} (f : A → A) (xs : List A) (o : Option A) (i : ℕ) → i < length xs → added (changed_at i f xs) o ≡ changed_at i f (added xs o)
before-added f xs None i h = refl
before-added f xs (Some x) i h = sym (changed-before f xs (x ∷ []) i h)

before-block : (f : NestRecord → NestRecord) (ns : List NestRecord) (block : Bool) (i : ℕ) → i < length ns → with_empty_block block (changed_at i f ns) ≡ changed_at i f (with_empty_block block ns)
before-block f ns false i h = refl
before-block f ns true i h = sym (changed-before f ns (BlockRecord [] ∷ []) i h)

swapped-nests :
    (l : Listing) (m k : ℕ) (ns : List NestRecord) (o : Option NestRecord) (block : Bool) → ListingThere m (length ns) k l →
    with_empty_block block (added (listed_nests l ns) o) ≡ listed_nests l (with_empty_block block (added ns o))
swapped-nests (InNest place entry) m k ns o block h =
    ap (with_empty_block block) (before-added (with_entry entry) ns o place h) ∙ before-block (with_entry entry) (added ns o) block place (omega (arith, length-added ns o, h))
swapped-nests (AsUnique place unique) m k ns o block h =
    ap (with_empty_block block) (before-added (with_unique unique) ns o place h) ∙ before-block (with_unique unique) (added ns o) block place (omega (arith, length-added ns o, h))
swapped-nests _ m k ns o block h = refl

swapped-modules : (l : Listing) (n k : ℕ) (ms : List ModuleRecord) (o : Option ModuleRecord) → ListingThere (length ms) n k l → added (listed_modules l ms) o ≡ listed_modules l (added ms o)
swapped-modules (InModule owner change) n k ms o h = before-added (with_change change) ms o owner.id.index h
swapped-modules _ n k ms o h = refl

swapped-functions : (l : Listing) (m n : ℕ) (fs : List FunctionRecord) (o : Option FunctionRecord) → ListingThere m n (length fs) l → added (listed_functions l fs) o ≡ listed_functions l (added fs o)
swapped-functions (InFunction f local v) m n fs o h = before-added (with_listed_variable local v) fs o f.id.index h
swapped-functions _ m n fs o h = refl

-- What the arenas hold once the code is done: those of b, with the entry and the nodes.
pub record Admitted (b z : ArenaState) (l : Listing) (f : Fresh) : Type 0 where
  pub there : ListingThere (length b.modules) (length b.nests) (length b.functions) l
  pub file_type : z.file_type ≡ b.file_type
  pub id : z.id ≡ b.id
  pub terms : z.terms ≡ b.terms ++ f.terms
  pub assignments : z.assignments ≡ added b.assignments f.assignment
  pub nests : map nest_record z.nests ≡ with_empty_block f.block (added (listed_nests l (map nest_record b.nests)) f.container)
  pub ports : z.ports ≡ added b.ports f.port
  pub modules : map module_record z.modules ≡ added (listed_modules l (map module_record b.modules)) f.fresh_module
  pub functions : map function_record z.functions ≡ added (listed_functions l (map function_record b.functions)) f.function
  pub definitions : z.definitions ≡ added b.definitions f.definition
  pub artifacts : z.artifacts ≡ added b.artifacts f.artifact
  pub instances : map instance_record z.instances ≡ added (map instance_record b.instances) f.instance
  pub always_blocks : map always_record z.always_blocks ≡ added (map always_record b.always_blocks) f.always_block
  pub items : z.items ≡ listed_items l b.items
  pub detached : z.detached ≡ listed_detached l (detached_left f.takes_detached b.detached)

there-mapped :
    (l : Listing) (ms : List Module) (ns : List Nest) (fs : List Function) → ListingThere (length ms) (length ns) (length fs) l →
    ListingThere (length (map module_record ms)) (length (map nest_record ns)) (length (map function_record fs)) l
there-mapped l ms ns fs h = rw (length-map ms module_record, length-map ns nest_record, length-map fs function_record) h

pub bench-grown : (a b z : ArenaState) (l : Listing) (f : Fresh) → b ≡ a → Admitted b z l f → bench z ≡ after_growth l f (bench a)
unfolding bench
bench-grown a b z l f e h =
    let there = there-mapped l b.modules b.nests b.functions h.there in
    rw (
      ← e,
      h.file_type,
      h.id,
      h.terms,
      h.assignments,
      h.nests,
      h.ports,
      h.modules,
      h.functions,
      h.definitions,
      h.artifacts,
      h.instances,
      h.always_blocks,
      h.items,
      h.detached,
      built-append (no_nodes b.id) b.terms f.terms,
      swapped-nests l (length (map module_record b.modules)) (length (map function_record b.functions)) (map nest_record b.nests) f.container f.block there,
      swapped-modules l (length (map nest_record b.nests)) (length (map function_record b.functions)) (map module_record b.modules) f.fresh_module there,
      swapped-functions l (length (map module_record b.modules)) (length (map nest_record b.nests)) (map function_record b.functions) f.function there,
    ) refl

pub sound-grown : (a b z : ArenaState) (l : Listing) (f : Fresh) → b ≡ a → Admitted b z l f → IsSound b → GrowthSound (bench a) l f → IsSound z
sound-grown a b z l f e h s q =
    let P : ArenaState → Type 0 = λ y. FileSound (bench y) in
    let G : ArenaState → Type 0 = λ y. GrowthSound (bench y) l f in
    let k : GrowthSound (bench b) l f = subst G (sym e) q in
    record {
      terms = rw (h.id, h.terms) (terms-added b f.terms s.terms k.fresh.terms);
      file = rw (bench-grown a b z l f e h) (FileSound-growth (bench a) l f (subst P e s.file) q);
    }

-- Nothing that contracts see has changed where these lists are what they were; there may be more room.

pub bench-still :
    (a b : ArenaState) (ts : List ExprNode) (xs : List Assignment) (ns : List Nest) (ms : List Module) (fs : List Function) (is : List FileItem) (t x n m f : ℕ) → b ≡ a →
    ts ≡ b.terms → xs ≡ b.assignments → map nest_record ns ≡ map nest_record b.nests → map module_record ms ≡ map module_record b.modules →
    map function_record fs ≡ map function_record b.functions → is ≡ b.items →
    bench (record b { terms = ts; assignments = xs; nests = ns; modules = ms; functions = fs; items = is; term_room = t; assignment_room = x; nest_room = n; module_room = m; function_room = f }) ≡ bench a
unfolding bench
bench-still a b ts xs ns ms fs is t x n m f e terms assignments nests modules functions items = rw (← e, terms, assignments, nests, modules, functions, items) refl

pub sound-still :
    (a b : ArenaState) (ts : List ExprNode) (xs : List Assignment) (ns : List Nest) (ms : List Module) (fs : List Function) (is : List FileItem) (t x n m f : ℕ) → b ≡ a →
    ts ≡ b.terms → xs ≡ b.assignments → map nest_record ns ≡ map nest_record b.nests → map module_record ms ≡ map module_record b.modules →
    map function_record fs ≡ map function_record b.functions → is ≡ b.items → IsSound b →
    IsSound (record b { terms = ts; assignments = xs; nests = ns; modules = ms; functions = fs; items = is; term_room = t; assignment_room = x; nest_room = n; module_room = m; function_room = f })
sound-still a b ts xs ns ms fs is t x n m f e terms assignments nests modules functions items s =
    let P : ArenaState → Type 0 = λ y. FileSound (bench y) in
    record { terms = rw terms s.terms; file = rw (bench-still a b ts xs ns ms fs is t x n m f e terms assignments nests modules functions items) (subst P e s.file) }

-- What the code has done is that growth: n1, m1 and f1 are the lists after the entry, n2 is the containers after the new one.
pub admitted :
    (b z : ArenaState) (l : Listing) (ts : Terms) (y : Node) (block : Bool) (n1 n2 : List Nest) (m1 : List Module) (f1 : List Function) →
    ListingThere (length b.modules) (length b.nests) (length b.functions) l → z.file_type ≡ b.file_type → z.id ≡ b.id →
    z.terms ≡ b.terms ++ terms_of ts → z.assignments ≡ added b.assignments (fresh_node y).assignment →
    map nest_record n1 ≡ listed_nests l (map nest_record b.nests) → map nest_record n2 ≡ added (map nest_record n1) (fresh_node y).container → map nest_record z.nests ≡ with_empty_block block (map nest_record n2) →
    z.ports ≡ added b.ports (fresh_node y).port →
    map module_record m1 ≡ listed_modules l (map module_record b.modules) → map module_record z.modules ≡ added (map module_record m1) (fresh_node y).fresh_module →
    map function_record f1 ≡ listed_functions l (map function_record b.functions) → map function_record z.functions ≡ added (map function_record f1) (fresh_node y).function →
    z.definitions ≡ added b.definitions (fresh_node y).definition →
    z.artifacts ≡ added b.artifacts (fresh_node y).artifact →
    map instance_record z.instances ≡ added (map instance_record b.instances) (fresh_node y).instance →
    map always_record z.always_blocks ≡ added (map always_record b.always_blocks) (fresh_node y).always_block →
    z.items ≡ listed_items l b.items → z.detached ≡ listed_detached l (detached_left (fresh_node y).takes_detached b.detached) → Admitted b z l (fresh_of ts y block)
admitted b z l ts y block n1 n2 m1 f1 there file_type id t x p q r ports m modules f functions d a i u items detached =
    record {
      there = there;
      file_type = file_type;
      id = id;
      terms = t;
      assignments = x;
      nests = r ∙ ap (with_empty_block block) (q ∙ ap (λ z. added z (fresh_node y).container) p);
      ports = ports;
      modules = modules ∙ ap (λ z. added z (fresh_node y).fresh_module) m;
      functions = functions ∙ ap (λ z. added z (fresh_node y).function) f;
      definitions = d;
      artifacts = a;
      instances = i;
      always_blocks = u;
      items = items;
      detached = detached;
    }

-- Expressions, types and an assignment have come by plain pushes, and nothing lists them.
pub admitted-alone :
    (b : ArenaState) (new : List ExprNode) (o : Option Assignment) (ts : List ExprNode) (xs : List Assignment) (t x : ℕ) → ts ≡ b.terms ++ new → xs ≡ added b.assignments o →
    Admitted b (record b { terms = ts; assignments = xs; term_room = t; assignment_room = x }) Nowhere (record no_fresh { terms = new; assignment = o })
admitted-alone b new o ts xs t x terms assignments =
    record { there = tt; file_type = refl; id = refl; terms = terms; assignments = assignments; nests = refl; ports = refl; modules = refl; functions = refl; definitions = refl; artifacts = refl; instances = refl; always_blocks = refl; items = refl; detached = refl }

-- So have expressions and types, and a module has changed.
pub admitted-change :
    (b : ArenaState) (owner : VastModule) (change : ModuleChange) (new : List ExprNode) (ts : List ExprNode) (ms : List Module) (t m : ℕ) → owner.id.index < length b.modules →
    ts ≡ b.terms ++ new → map module_record ms ≡ changed_at owner.id.index (with_change change) (map module_record b.modules) →
    Admitted b (record b { terms = ts; modules = ms; term_room = t; module_room = m }) (InModule owner change) (record no_fresh { terms = new })
admitted-change b owner change new ts ms t m there terms modules =
    record { there = there; file_type = refl; id = refl; terms = terms; assignments = refl; nests = refl; ports = refl; modules = modules; functions = refl; definitions = refl; artifacts = refl; instances = refl; always_blocks = refl; items = refl; detached = refl }

-- So is a case statement `unique`, or not.
pub admitted-unique :
    (b : ArenaState) (place : ℕ) (unique : Bool) (ns : List Nest) (n : ℕ) → place < length b.nests → map nest_record ns ≡ changed_at place (with_unique unique) (map nest_record b.nests) →
    Admitted b (record b { nests = ns; nest_room = n }) (AsUnique place unique) no_fresh
admitted-unique b place unique ns n there nests =
    record { there = there; file_type = refl; id = refl; terms = sym (append-nil b.terms); assignments = refl; nests = nests; ports = refl; modules = refl; functions = refl; definitions = refl; artifacts = refl; instances = refl; always_blocks = refl; items = refl; detached = refl }

-- The list that gains the entry is there.

listing-there : (a b : ArenaState) (c : Bench) (l : Listing) → b ≡ a → ListingSound (bench a) c l → ListingThere (length b.modules) (length b.nests) (length b.functions) l
listing-there a b c (InModule owner change) e h = arena-below module-arena a b owner.id.index e h.0.of_kind
listing-there a b c (InFunction f local v) e h = arena-below function-arena a b f.id.index e h.function_there.of_kind
listing-there a b c (InNest place entry) e h = let k : place < length (bench a).nests = h.0 in rw (length-nests a b e) at k
listing-there a b c (AsUnique place unique) e h = rw (length-nests a b e) at h
listing-there a b c _ e h = tt

pub growth-there : (a b : ArenaState) (l : Listing) (f : Fresh) → b ≡ a → GrowthSound (bench a) l f → ListingThere (length b.modules) (length b.nests) (length b.functions) l
growth-there a b l f e h = listing-there a b (with_fresh f (bench a)) l e h.listing
