-- What calls know that make a record, or that add to a file, a module's lists or a function's: what comes, and the entry
-- that names it, are the file's.
use Rattle.std.proofs.Common.{◌≡◌, ℕ, Bool, List, [], ◌∷◌, length, Option, Some, refl, length-append}
use Rattle.std.specs.Prelude.{IfSome, String}
use Rattle.std.specs.declared.alloc.Global.{Global}
use Rattle.vast_literal.specs.Tree.{NameTree, Typed}
use Rattle.vast_core.specs.Handles.{LogicRef, ModulePort, VastModule, VastFunction, VastDataType}
use Rattle.vast_literal.specs.declared.kind.DataKind.{DataKind}
use Rattle.vast_literal.specs.declared.kind.ModulePortDirection.{ModulePortDirection}
use Rattle.vast_core.specs.Nodes.{Root, ExprRoot, with_node}
use Rattle.vast_core.specs.Records.{Assignment, Port, ParameterPort, DeclarationEntry, FileItem, FileTypedefEntry, DeclaredType, Definition, Artifact, InstanceRecord}
use Rattle.vast_core.specs.Nests.{FunctionVariable}
use Rattle.vast_core.specs.Bench.{Bench, OwnsExpr, OwnsType, OwnsModule, OwnsFunction, NameIsFree, IsFreeInFunction, type_of}
use Rattle.vast_core.specs.Growth.{next_port, next_logic_ref}
use Rattle.vast_core.specs.Sound.{AssignmentSound, TypedefSound, EntrySound, DefinitionSound, ArtifactSound, InstanceSound, GivesValues}
use Rattle.vast_core.specs.WrittenKinds.{IsOwnKind, IsVariableKind}
use Rattle.vast_core.specs.Internal.Containers.{HeaderGains, PortsGain, MembersGain, Nowhere, InFile, InModule, InFunction, GrowthSound, Fresh, no_fresh, fresh_assignment, with_fresh}
use Rattle.vast_core.proofs.Loops.{fresh_name, fresh_type, name_term}
use Rattle.vast_core.proofs.Lists.{slice_get-seam}
use Rattle.vast_core.proofs.NodeLaws.{Extends-root, HasType-kept}
use Rattle.vast_core.proofs.Sound.{MemberSound-kept, EntrySound-kept, ParameterPortSound-kept, ArtifactSound-kept, InstanceSound-kept}
use Rattle.vast_core.proofs.Growing.{Grows-fresh}
use Rattle.vast_core.proofs.Terms.{last-test}
use Rattle.vast_core.proofs.Enters.{nothing-comes}
use Rattle.vast_core.proofs.EntersMembers.{name-comes, type-comes}

-- Records that no list names yet.

pub assignment-stands : (b : Bench) (a : Assignment) → AssignmentSound b a → GrowthSound b Nowhere (fresh_assignment a)
assignment-stands b a h =
    record { fresh = record { terms = tt; assignment = h; container = tt; port = tt; fresh_module = tt; function = tt; definition = tt; artifact = tt; instance = tt; always_block = tt }; listing = tt; placed = refl }

pub definition-stands : (b : Bench) (d : Definition) → DefinitionSound b d → GrowthSound b Nowhere (record no_fresh { definition = Some d })
definition-stands b d h =
    record { fresh = record { terms = tt; assignment = tt; container = tt; port = tt; fresh_module = tt; function = tt; definition = h; artifact = tt; instance = tt; always_block = tt }; listing = tt; placed = refl }

pub artifact-stands : (b : Bench) (a : Artifact) → ArtifactSound b a → GrowthSound b Nowhere (record no_fresh { artifact = Some a })
artifact-stands b a h =
    let f : Fresh = record no_fresh { artifact = Some a } in
    record {
      fresh = record { terms = tt; assignment = tt; container = tt; port = tt; fresh_module = tt; function = tt; definition = tt; artifact = ArtifactSound-kept b (with_fresh f b) (Grows-fresh b f) a h; instance = tt; always_block = tt };
      listing = tt;
      placed = refl;
    }

pub instance-stands : (b : Bench) (i : InstanceRecord) → InstanceSound b i → GivesValues i → GrowthSound b Nowhere (record no_fresh { instance = Some i })
instance-stands b i h k =
    let f : Fresh = record no_fresh { instance = Some i } in
    record {
      fresh = record { terms = tt; assignment = tt; container = tt; port = tt; fresh_module = tt; function = tt; definition = tt; artifact = tt; instance = record { sound = InstanceSound-kept b (with_fresh f b) (Grows-fresh b f) i h; values = k }; always_block = tt };
      listing = tt;
      placed = refl;
    }

-- Items of the file.

pub item-enters : (b : Bench) (e : FileItem) → EntrySound b e → GrowthSound b (InFile e) no_fresh
item-enters b e h = record { fresh = nothing-comes b b; listing = h; placed = refl }

pub typedef-item-enters : (b : Bench) (t : DeclaredType) (name : String Global) → TypedefSound b t → GrowthSound b (InFile (FileTypedefEntry t)) (fresh_type name)
typedef-item-enters b t name h =
    record { fresh = type-comes b name; listing = EntrySound-kept b (with_fresh (fresh_type name) b) (Grows-fresh b (fresh_type name)) (FileTypedefEntry t) h; placed = refl }

-- Members of a module.

pub declaration-enters :
    (b : Bench) (owner : VastModule) (kind : DataKind) (own taken : List ℕ) (name : List ℕ) (t : VastDataType) → own ≡ taken → OwnsModule b owner → IsOwnKind kind → OwnsType b t → NameIsFree b owner taken →
    GrowthSound b (InModule owner (MembersGain (DeclarationEntry kind own t) (Some taken))) (fresh_name name (Some t))
declaration-enters b owner kind own taken name t e h own_kind k free =
    let f : Fresh = fresh_name name (Some t) in
    rw e (record {
      fresh = name-comes b name (Some t) k;
      listing = (h, record { member = MemberSound-kept b (with_fresh f b) (Grows-fresh b f) (DeclarationEntry kind taken t) k; kind = own_kind; declares = refl; free = free });
      placed = refl;
    })

pub declaration-enters-as :
    (b : Bench) (owner : VastModule) (kind : DataKind) (n own taken : List ℕ) (name : List ℕ) (t : VastDataType) → own ≡ n → taken ≡ n → OwnsModule b owner → IsOwnKind kind → OwnsType b t → NameIsFree b owner n →
    GrowthSound b (InModule owner (MembersGain (DeclarationEntry kind own t) (Some taken))) (fresh_name name (Some t))
declaration-enters-as b owner kind n own taken name t e f h own_kind k free = rw (e, f) (declaration-enters b owner kind n n name t refl h own_kind k free)

-- The header and the ports of a module.

pub header-enters :
    (b : Bench) (owner : VastModule) (p : ParameterPort) (name : List ℕ) (type : Option VastDataType) → OwnsModule b owner → IfSome p.data_type (OwnsType b) → OwnsExpr b p.value → IfSome type (OwnsType b) →
    GrowthSound b (InModule owner (HeaderGains p)) (fresh_name name type)
header-enters b owner p name type h k l m =
    let f : Fresh = fresh_name name type in
    record { fresh = name-comes b name type m; listing = (h, ParameterPortSound-kept b (with_fresh f b) (Grows-fresh b f) p (k, l)); placed = refl }

abbrev fresh_port : List ℕ → VastDataType → Port → Fresh
fresh_port name t p = record no_fresh { terms = name_term name (Some t) ∷ []; port = Some p }

abbrev new_port : Bench → ModulePortDirection → DataKind → List ℕ → VastDataType → Port
new_port b direction kind name t = record { direction = direction; kind = kind; name = name; data_type = t; logic_ref = next_logic_ref b }

pub port-enters :
    (b : Bench) (owner : VastModule) (direction : ModulePortDirection) (kind : DataKind) (taken : List ℕ) (name : List ℕ) (t : VastDataType) → OwnsModule b owner → OwnsType b t → NameIsFree b owner taken →
    GrowthSound b (InModule owner (PortsGain (next_port b) taken)) (fresh_port name t (new_port b direction kind taken t))
port-enters b owner direction kind taken name t h k free =
    let p : Port = new_port b direction kind taken t in
    let r : Root = ExprRoot (NameTree name (Typed (type_of b t))) in
    record {
      fresh = record {
        terms = (k, tt, tt);
        assignment = tt;
        container = tt;
        port = (HasType-kept b.nodes (with_node b.nodes r) (Extends-root b.nodes r) t k, record { of_file = refl; of_kind = rw (slice_get-seam b.nodes.roots r) refl });
        fresh_module = tt;
        function = tt;
        definition = tt;
        artifact = tt;
        instance = tt;
        always_block = tt;
      };
      listing = (h, record { port_there = record { of_file = refl; of_kind = rw (length-append b.ports (p ∷ [])) (last-test (length b.ports)) }; declares = rw (slice_get-seam b.ports p) refl; free = free });
      placed = refl;
    }

pub port-enters-as :
    (b : Bench) (owner : VastModule) (q : ModulePort) (g : LogicRef) (direction : ModulePortDirection) (kind : DataKind) (n own taken : List ℕ) (name : List ℕ) (t : VastDataType) →
    q ≡ next_port b → g ≡ next_logic_ref b → own ≡ n → taken ≡ n → OwnsModule b owner → OwnsType b t → NameIsFree b owner n →
    GrowthSound b (InModule owner (PortsGain q taken)) (fresh_port name t (record { direction = direction; kind = kind; name = own; data_type = t; logic_ref = g }))
port-enters-as b owner q g direction kind n own taken name t e f i j h k free = rw (e, f, i, j) (port-enters b owner direction kind n name t h k free)

-- Inputs and locals of a function.

pub variable-enters :
    (b : Bench) (owner : VastFunction) (local : Bool) (v : FunctionVariable) (name : List ℕ) (t : VastDataType) → OwnsFunction b owner → IsVariableKind local v.kind → OwnsType b v.data_type → OwnsType b t → IsFreeInFunction b owner v.name →
    GrowthSound b (InFunction owner local v) (fresh_name name (Some t))
variable-enters b owner local v name t h kind k l free =
    let r : Root = ExprRoot (NameTree name (Typed (type_of b t))) in
    record { fresh = name-comes b name (Some t) l; listing = record { function_there = h; variable = HasType-kept b.nodes (with_node b.nodes r) (Extends-root b.nodes r) v.data_type k; kind = kind; free = free }; placed = refl }

pub variable-enters-as :
    (b : Bench) (owner : VastFunction) (local : Bool) (kind : DataKind) (n own : List ℕ) (name : List ℕ) (t : VastDataType) → own ≡ n → OwnsFunction b owner → IsVariableKind local kind → OwnsType b t → IsFreeInFunction b owner n →
    GrowthSound b (InFunction owner local (record { kind = kind; name = own; data_type = t })) (fresh_name name (Some t))
variable-enters-as b owner local kind n own name t e h suits k free = rw e (variable-enters b owner local (record { kind = kind; name = n; data_type = t }) name t h suits k k free)

pub ruleset enters_records = (assignment-stands, definition-stands, artifact-stands, instance-stands, item-enters, typedef-item-enters, declaration-enters, header-enters, variable-enters)
