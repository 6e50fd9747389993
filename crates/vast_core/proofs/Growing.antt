-- That a file stays sound after a growth: nodes that come, and the entry that names them.
use Rattle.std.proofs.Common.{◌≡◌, ℕ, ◌<◌, Bool, true, false, List, [], ◌∷◌, length, Option, Some, None, slice_get, refl, ap, ◌∙◌, arith}
use Rattle.std.specs.Prelude.{IfSome}
use Rattle.vast_core.specs.Handles.{VastModule, VastStatementBlock}
use Rattle.vast_core.specs.Records.{ModuleRecord, InstanceRecord, changed_at, IsFree}
use Rattle.vast_core.specs.Nests.{NestRecord, BlockRecord, ConditionalNestRecord, CaseNestRecord, LoopNestRecord, FunctionVariable, FunctionRecord, nest_kind, is_kind, BlockKind, declared_names}
use Rattle.vast_core.specs.Functions.{with_listed_variable}
use Rattle.vast_core.specs.Bench.{Bench, OwnsBlock, OwnsPort, function_names}
use Rattle.vast_core.specs.DeclaredNames.{NamesSound}
use Rattle.vast_core.specs.Parents.{Part, places, held_by_module}
use Rattle.vast_core.specs.Sound.{Each, PortSound, AssignmentSound, MemberSound, ParameterPortSound, ModuleSound, EntrySound, DefinitionSound, ArtifactSound, InstanceSound, NestSound, NestsSound, VariableSound, FunctionSound, AlwaysSound, RecordsSound, FileSound, AreDistinct}
use Rattle.vast_core.specs.Containers.{NestedEntry, StatementEnters, ElseIfEnters, ElseEnters, CaseArmEnters, MemberEnters, with_entry, with_unique}
use Rattle.vast_core.specs.Internal.Containers.{ModuleChange, HeaderGains, PortsGain, MembersGain, Hoists, with_change, ChangeSound, Listing, InFile, InModule, InFunction, InNest, AsDetached, AsUnique, listed_modules, listed_functions, listed_nests, listed_items, listed_detached, with_listing, added, with_empty_block, detached_left, with_fresh, Fresh, FreshSound, EntersSound, ListingSound, GrowthSound, ComesEmpty, FunctionComes, InstanceComes, read_off, after_growth}
use Rattle.vast_core.proofs.Lists.{length-changed_at, Each-push, Each-changed_at, Each-changed_there}
use Rattle.vast_core.proofs.NodeLaws.{Extends-same, Extends-built}
use Rattle.vast_core.proofs.Nests.{entry-kind, get-before, kind-changed, nests-push, nests-changed}
use Rattle.vast_core.proofs.Sound.{Grows, carried, port_stays, MemberSound-kept, ParameterPortSound-kept, EntrySound-kept, VariableSound-kept, StatementSound-kept, ElseIfSound-kept, block-kept, CaseArmSound-kept, LoopMemberSound-kept, nest-kept, never}
use Rattle.vast_core.proofs.Hoisting.{members-hoisted}
use Rattle.vast_core.proofs.Added.{added-get, length-added, Each-added, get-added}
use Rattle.vast_core.proofs.FreeNames.{gains-variable, taken-after}
use Rattle.vast_core.proofs.OneParent.{HasOneParent-growth, length-functions}
use Rattle.vast_core.proofs.ModuleNames.{names-fresh, names-listing}
use Rattle.vast_core.proofs.KindsKept.{KindsSound-fresh, KindsSound-listing}

-- An element more, or none.

get-with_block : (block : Bool) (ns : List NestRecord) (i : ℕ) → i < length ns → slice_get (with_empty_block block ns) i ≡ slice_get ns i
get-with_block false ns i below = refl
get-with_block true ns i below = get-before ns (BlockRecord [] ∷ []) i below

-- New nodes.

pub Grows-fresh : (b : Bench) (f : Fresh) → Grows b (with_fresh f b)
Grows-fresh b f =
    record {
      nodes = Extends-built b.nodes f.terms;
      ports = length-added b.ports f.port;
      assignments = added-get b.assignments f.assignment;
      modules = length-added b.modules f.fresh_module;
      definitions = length-added b.definitions f.definition;
      artifacts = added-get b.artifacts f.artifact;
      instances = length-added b.instances f.instance;
      nests = λ i below. ap nest_kind (get-with_block f.block (added b.nests f.container) i (omega (arith, length-added b.nests f.container)) ∙ get-added b.nests f.container i below);
      functions = length-added b.functions f.function;
      always_blocks = added-get b.always_blocks f.always_block;
    }

nests-added : (c : Bench) (ns : List NestRecord) (o : Option NestRecord) → NestsSound c 0 ns → IfSome o (NestSound c (length ns)) → NestsSound c 0 (added ns o)
nests-added c ns None s h = s
nests-added c ns (Some n) s h = nests-push c 0 ns (length ns) n s (omega arith) h

nests-with_block : (c : Bench) (block : Bool) (ns : List NestRecord) → NestsSound c 0 ns → NestsSound c 0 (with_empty_block block ns)
nests-with_block c false ns s = s
nests-with_block c true ns s = nests-push c 0 ns (length ns) (BlockRecord []) s (omega arith) tt

module-sound : (c : Bench) (o : Option ModuleRecord) → IfSome o (ComesEmpty c) → IfSome o (ModuleSound c)
module-sound c None h = tt
module-sound c (Some m) h = h.sound

module-names : (c : Bench) (o : Option ModuleRecord) → IfSome o (ComesEmpty c) → IfSome o (NamesSound c.ports c.functions)
module-names c None h = tt
module-names c (Some m) h = h.names

module-parts : (c : Bench) (o : Option ModuleRecord) → IfSome o (ComesEmpty c) → (p : Part) → places p (read_off held_by_module o) ≡ 0
module-parts c None h p = refl
module-parts c (Some m) h p = rw h.parts refl

function-sound : (c : Bench) (o : Option FunctionRecord) → IfSome o (FunctionComes c) → IfSome o (FunctionSound c)
function-sound c None h = tt
function-sound c (Some f) h = h.sound

instance-sound : (c : Bench) (o : Option InstanceRecord) → IfSome o (InstanceComes c) → IfSome o (InstanceSound c)
instance-sound c None h = tt
instance-sound c (Some i) h = h.sound

RecordsSound-fresh : (b : Bench) (f : Fresh) → RecordsSound b → FreshSound b (with_fresh f b) f → RecordsSound (with_fresh f b)
RecordsSound-fresh b f s h =
    let c : Bench = with_fresh f b in
    let k = carried b c (Grows-fresh b f) s in
    record {
      ports = Each-added (PortSound c) b.ports f.port k.ports h.port;
      assignments = Each-added (AssignmentSound c) b.assignments f.assignment k.assignments h.assignment;
      modules = Each-added (ModuleSound c) b.modules f.fresh_module k.modules (module-sound c f.fresh_module h.fresh_module);
      definitions = Each-added (DefinitionSound c) b.definitions f.definition k.definitions h.definition;
      artifacts = Each-added (ArtifactSound c) b.artifacts f.artifact k.artifacts h.artifact;
      instances = Each-added (InstanceSound c) b.instances f.instance k.instances (instance-sound c f.instance h.instance);
      items = k.items;
      nests = nests-with_block c f.block (added b.nests f.container) (nests-added c b.nests f.container k.nests h.container);
      functions = Each-added (FunctionSound c) b.functions f.function k.functions (function-sound c f.function h.function);
      always_blocks = Each-added (AlwaysSound c) b.always_blocks f.always_block k.always_blocks h.always_block;
    }

-- A new entry of a container.

entry-sound : (b : Bench) (i : ℕ) (e : NestedEntry) → EntersSound b i e → (n : NestRecord) → NestSound b i n → NestSound b i (with_entry e n)
entry-sound b i (StatementEnters s) h (BlockRecord ss) k = Each-push _ ss s k h
entry-sound b i (ElseIfEnters a) h (ConditionalNestRecord c) k = record { condition = k.condition; consequent = k.consequent; else_ifs = Each-push _ c.else_ifs a k.else_ifs h; otherwise = k.otherwise }
entry-sound b i (ElseEnters x) h (ConditionalNestRecord c) k = record { condition = k.condition; consequent = k.consequent; else_ifs = k.else_ifs; otherwise = h }
entry-sound b i (CaseArmEnters a) h (CaseNestRecord c) k = record { selector = k.selector; arms = Each-push _ c.arms a k.arms h }
entry-sound b i (MemberEnters m) h (LoopNestRecord l) k = record { genvar = k.genvar; start = k.start; end = k.end; members = Each-push _ l.members m k.members h }
entry-sound b i _ h _ k = k

EntersSound-kept : (b c : Bench) → Grows b c → (i : ℕ) (e : NestedEntry) → EntersSound b i e → EntersSound c i e
EntersSound-kept b c g i (StatementEnters s) h = StatementSound-kept b c g i s h
EntersSound-kept b c g i (ElseIfEnters a) h = ElseIfSound-kept b c g i a h
EntersSound-kept b c g i (ElseEnters x) h = block-kept b c g i x h
EntersSound-kept b c g i (CaseArmEnters a) h = CaseArmSound-kept b c g i a h
EntersSound-kept b c g i (MemberEnters m) h = LoopMemberSound-kept b c g i m h

-- The lists that gain an entry.

pub Grows-changed : (b : Bench) (i : ℕ) (f : ModuleRecord → ModuleRecord) → Grows b (record b { modules = changed_at i f b.modules })
Grows-changed b i f = record { nodes = Extends-same b.nodes; ports = omega arith; assignments = λ i a h. h; modules = omega (arith, length-changed_at f b.modules i); definitions = omega arith; artifacts = λ i a h. h; instances = omega arith; nests = λ i below. refl; functions = omega arith; always_blocks = λ i a h. h }

modules-count : (l : Listing) (ms : List ModuleRecord) → length (listed_modules l ms) ≡ length ms
modules-count (InModule owner change) ms = length-changed_at (with_change change) ms owner.id.index
modules-count _ ms = refl

unique-kind : (unique : Bool) (n : NestRecord) → nest_kind (Some (with_unique unique n)) ≡ nest_kind (Some n)
unique-kind unique (BlockRecord ss) = refl
unique-kind unique _ = refl

nests-kinds : (l : Listing) (ns : List NestRecord) (i : ℕ) → nest_kind (slice_get (listed_nests l ns) i) ≡ nest_kind (slice_get ns i)
nests-kinds (InNest place entry) ns i = kind-changed (with_entry entry) (entry-kind entry) ns place i
nests-kinds (AsUnique place unique) ns i = kind-changed (with_unique unique) (unique-kind unique) ns place i
nests-kinds _ ns i = refl

pub Grows-listing : (b : Bench) (l : Listing) → Grows b (with_listing l b)
Grows-listing b l =
    record {
      nodes = Extends-same b.nodes;
      ports = omega arith;
      assignments = λ i a h. h;
      modules = omega (arith, modules-count l b.modules);
      definitions = omega arith;
      artifacts = λ i a h. h;
      instances = omega arith;
      nests = λ i below. nests-kinds l b.nests i;
      functions = omega (arith, length-functions l b.functions);
      always_blocks = λ i a h. h;
    }

change-sound : (c d : Bench) → Grows c d → (owner : VastModule) (change : ModuleChange) → ChangeSound c owner change → (x : ModuleRecord) → ModuleSound d x → ModuleSound d (with_change change x)
change-sound c d g owner (HeaderGains p) h x k = record { parameters = Each-push (ParameterPortSound d) x.parameters p k.parameters (ParameterPortSound-kept c d g p h); ports = k.ports; members = k.members }
change-sound c d g owner (PortsGain port name) h x k = record { parameters = k.parameters; ports = Each-push (OwnsPort d) x.ports port k.ports (port_stays c d g port h.port_there); members = k.members }
change-sound c d g owner (MembersGain entry None) h x k = record { parameters = k.parameters; ports = k.ports; members = Each-push (MemberSound d) x.members entry k.members (MemberSound-kept c d g entry h.member) }
change-sound c d g owner (MembersGain entry (Some name)) h x k = record { parameters = k.parameters; ports = k.ports; members = Each-push (MemberSound d) x.members entry k.members (MemberSound-kept c d g entry h.member) }
change-sound c d g owner (Hoists start) h x k = members-hoisted d start x k

listing-modules : (b c d : Bench) (l : Listing) → Grows c d → ListingSound b c l → (ms : List ModuleRecord) → Each (ModuleSound d) ms → Each (ModuleSound d) (listed_modules l ms)
listing-modules b c d (InModule owner change) g h ms k = Each-changed_at (ModuleSound d) (with_change change) (change-sound c d g owner change h.1) ms owner.id.index k
listing-modules b c d _ g h ms k = k

unique-sound : (b : Bench) (i : ℕ) (unique : Bool) (n : NestRecord) → NestSound b i n → NestSound b i (with_unique unique n)
unique-sound b i unique (CaseNestRecord c) h = record { selector = h.selector; arms = h.arms }
unique-sound b i unique _ h = h

listing-nests : (b c d : Bench) (l : Listing) → Grows c d → ListingSound b c l → (ns : List NestRecord) → NestsSound d 0 ns → NestsSound d 0 (listed_nests l ns)
listing-nests b c d (InNest place entry) g h ns k = nests-changed d 0 ns place place (with_entry entry) (omega arith) (entry-sound d place entry (EntersSound-kept c d g place entry h.1)) k
listing-nests b c d (AsUnique place unique) g h ns k = nests-changed d 0 ns place place (with_unique unique) (omega arith) (unique-sound d place unique) k
listing-nests b c d _ g h ns k = k

distinct-listed : (b : Bench) (local : Bool) (v : FunctionVariable) (x : FunctionRecord) → IsFree v.name x.names → FunctionSound b x → AreDistinct (declared_names (with_listed_variable local v x))
distinct-listed b local v x n k = (gains-variable local x v).distinct ((k.taken v.name).0 n) k.distinct

variable-listed : (b : Bench) (local : Bool) (v : FunctionVariable) → VariableSound b v → (x : FunctionRecord) → IsFree v.name x.names → FunctionSound b x → FunctionSound b (with_listed_variable local v x)
variable-listed b false v h x n k =
    record {
      result_type = k.result_type;
      result_name = k.result_name;
      inputs = Each-push (VariableSound b) x.inputs v k.inputs h;
      locals = k.locals;
      body = k.body;
      distinct = distinct-listed b false v x n k;
      taken = taken-after v.name x.names (declared_names x) (declared_names (with_listed_variable false v x)) (gains-variable false x v) k.taken;
    }
variable-listed b true v h x n k =
    record {
      result_type = k.result_type;
      result_name = k.result_name;
      inputs = k.inputs;
      locals = Each-push (VariableSound b) x.locals v k.locals h;
      body = k.body;
      distinct = distinct-listed b true v x n k;
      taken = taken-after v.name x.names (declared_names x) (declared_names (with_listed_variable true v x)) (gains-variable true x v) k.taken;
    }

free-there : (name : List ℕ) (o : Option FunctionRecord) (x : FunctionRecord) → o ≡ Some x → IsFree name (function_names o) → IsFree name x.names
free-there name o x e h = rw e at h

listing-functions : (b c d : Bench) (l : Listing) → Grows c d → ListingSound b c l → Each (FunctionSound d) c.functions → Each (FunctionSound d) (listed_functions l c.functions)
listing-functions b c d (InFunction f local v) g h k =
    Each-changed_there (FunctionSound d) (with_listed_variable local v) c.functions f.id.index
    (λ x e. variable-listed d local v (VariableSound-kept c d g v h.variable) x (free-there v.name (slice_get c.functions f.id.index) x e h.free)) k
listing-functions b c d _ g h k = k

listing-items : (b c d : Bench) (l : Listing) → Grows c d → ListingSound b c l → Each (EntrySound d) c.items → Each (EntrySound d) (listed_items l c.items)
listing-items b c d (InFile entry) g h k = Each-push (EntrySound d) c.items entry k (EntrySound-kept c d g entry h)
listing-items b c d _ g h k = k

RecordsSound-listing : (b c : Bench) (l : Listing) → RecordsSound c → ListingSound b c l → RecordsSound (with_listing l c)
RecordsSound-listing b c l s h =
    let d : Bench = with_listing l c in
    let g : Grows c d = Grows-listing c l in
    let k = carried c d g s in
    record {
      ports = k.ports;
      assignments = k.assignments;
      modules = listing-modules b c d l g h c.modules k.modules;
      definitions = k.definitions;
      artifacts = k.artifacts;
      instances = k.instances;
      items = listing-items b c d l g h k.items;
      nests = listing-nests b c d l g h c.nests k.nests;
      functions = listing-functions b c d l g h k.functions;
      always_blocks = k.always_blocks;
    }

-- The detached block.

detached-kept : (b c : Bench) → Grows b c → (o : Option VastStatementBlock) → IfSome o (OwnsBlock b) → IfSome o (OwnsBlock c)
detached-kept b c g None h = tt
detached-kept b c g (Some x) h = nest-kept (is_kind BlockKind) b c x.id g never h

detached-fresh : (c : Bench) (takes : Bool) (o : Option VastStatementBlock) → IfSome o (OwnsBlock c) → IfSome (detached_left takes o) (OwnsBlock c)
detached-fresh c false o h = h
detached-fresh c true o h = tt

detached-listing : (b c d : Bench) (l : Listing) → Grows c d → ListingSound b c l → IfSome c.detached (OwnsBlock d) → IfSome (listed_detached l c.detached) (OwnsBlock d)
detached-listing b c d (AsDetached block) g h k = nest-kept (is_kind BlockKind) c d block.id g never h
detached-listing b c d _ g h k = k

-- A file stays sound.
pub FileSound-growth : (b : Bench) (l : Listing) (f : Fresh) → FileSound b → GrowthSound b l f → FileSound (after_growth l f b)
FileSound-growth b l f s h =
    let c : Bench = with_fresh f b in
    let d : Bench = after_growth l f b in
    let records : RecordsSound c = RecordsSound-fresh b f s.records h.fresh in
    record {
      records = RecordsSound-listing b c l records h.listing;
      detached = detached-listing b c d l (Grows-listing c l) h.listing (detached-kept c d (Grows-listing c l) c.detached (detached-fresh c f.takes_detached b.detached (detached-kept b c (Grows-fresh b f) b.detached s.detached)));
      names = names-listing b c l records h.listing (names-fresh b f s.records (module-names c f.fresh_module h.fresh.fresh_module) s.names);
      parents = HasOneParent-growth b l f (module-parts c f.fresh_module h.fresh.fresh_module) h.placed s.parents;
      kinds = KindsSound-listing b c l h.listing (KindsSound-fresh b f h.fresh s.kinds);
    }
