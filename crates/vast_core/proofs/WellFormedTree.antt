-- The tree of every file is well formed: induction on what containers unfold to.
use Rattle.std.proofs.Common.{◌≡◌, ℕ, zero, suc, ◌<◌, true, IsTrue, List, [], ◌∷◌, length, nat_lt, map, arith, Option, Some, None, slice_get, refl}
use Rattle.std.specs.Prelude.{IfSome}
use Rattle.std.specs.Cmp.Derive.{both_true}
use Rattle.vast_literal.specs.Tree.{FileItemTree}
use Rattle.vast_literal.specs.WellFormed.{is_well_formed_type}
use Rattle.vast_literal.specs.WellFormedFile.{is_well_formed_parameter_name, are_well_formed_connections, is_given, are_given, are_well_formed_inputs, are_well_formed_locals, is_well_formed_typedef, is_well_formed_member, are_well_formed_members, are_well_formed_ports, is_well_formed_typed, are_well_formed_parameters, are_well_formed_items, is_well_formed_file}
use Rattle.vast_core.specs.Handles.{Def, Expr, ModulePort, VastDataType}
use Rattle.vast_core.specs.Nodes.{maybe_type_in}
use Rattle.vast_core.specs.Records.{Assignment, ParameterPort, ModuleRecord, Member, DeclarationEntry, AssignmentEntry, ParameterEntry, BlankEntry, CommentEntry, ImportEntry, TypedefEntry, InlineEntry, MacroEntry, InstanceEntry, FunctionEntry, AlwaysEntry, ConditionalEntry, LoopEntry, ParameterForm, DefinedForm, FileItem, ModuleEntry, FileTypedefEntry, DeclaredType, EnumType, StructType, Artifact, MacroArtifact, Connection, InstanceRecord}
use Rattle.vast_core.specs.Nests.{NestRecord, BlockRecord, ConditionalNestRecord, CaseNestRecord, LoopNestRecord, FunctionVariable, FunctionRecord, AlwaysRecord}
use Rattle.vast_core.specs.Bench.{Bench, OwnsExpr, OwnsType, OwnsPort, OwnsDef, AreWellFormed, maybe_tree_of}
use Rattle.vast_core.specs.WrittenKinds.{IsGiven, HasOwnKind, HasLocalKind, HasValue}
use Rattle.vast_core.specs.Sound.{Each, PortSound, AssignmentSound, DefinitionSound, ArtifactSound, ConnectionSound, InstanceSound, FormSound, TypedefSound, MemberSound, LoopMemberSound, MemberNewer, ParameterPortSound, ModuleSound, EntrySound, VariableSound, FunctionSound, AlwaysSound, NestSound, NestsSound, RecordsSound, DeclaresOwnKinds, HasLocalKinds, GivesValues, FileSound}
use Rattle.vast_core.specs.FileTree.{Family, definition_tree, form_tree, assignment_member, artifact_member, connection_tree, field_tree, typedef_tree, instance_member, always_in, variable_tree, function_in, member_in, members_in, family, unfolded, families, maybe_port_tree, port_tree, parameter_port_tree, maybe_module_tree, item_tree, tree}
use Rattle.vast_core.proofs.Lists.{Each-own}
use Rattle.vast_core.proofs.WellFormedParts.{Each-read, expr-good, type-good, maybe-good, macro-is, macro-good, events-good, IsGood, block-good, conditional_member-good, loop_member-good, statements-good, alternates-good, arms-good}

-- What a place of a list holds, where the place is in the list.
Each-below : {A : Type 0} (P : A → Type 0) (Q : Option A → Type 0) → ((x : A) → P x → Q (Some x)) → (xs : List A) (i : ℕ) → Each P xs → i < length xs → Q (slice_get xs i)
Each-below P Q f [] i h below = absurd (omega arith)
Each-below P Q f (x ∷ xs) zero h below = f x h.0
Each-below P Q f (x ∷ xs) (suc i) h below = Each-below P Q f xs i h.1 (omega arith)

Each-there : {A : Type 0} (P : A → Type 0) (Q : Option A → Type 0) → ((x : A) → P x → Q (Some x)) → (xs : List A) (i : ℕ) → Each P xs → IsTrue (nat_lt i (length xs)) → Q (slice_get xs i)
Each-there P Q f xs i h there = let below : i < length xs = grind (arith, there) in Each-below P Q f xs i h below

-- Parts of members.

def-good : (b : Bench) → AreWellFormed b → RecordsSound b → (d : Def) → OwnsDef b d → is_well_formed_type (field_tree b d).type ≡ true
def-good b w r d h =
    Each-there (DefinitionSound b) (λ o. is_well_formed_type (definition_tree b o).type ≡ true) (λ x k. type-good b w x.data_type k) b.definitions d.id.index r.definitions h.of_kind

form-good : (b : Bench) → AreWellFormed b → RecordsSound b → (form : ParameterForm) → FormSound b form → is_well_formed_parameter_name (form_tree b form) ≡ true
form-good b w r (DefinedForm d) h = def-good b w r d h
form-good b w r _ h = refl

assignment-good : (b : Bench) → AreWellFormed b → (o : Option Assignment) → IfSome o (AssignmentSound b) → is_well_formed_member (assignment_member b o) ≡ true
assignment-good b w None h = refl
assignment-good b w (Some a) h = both_true (expr-good b w a.lhs h.0) (expr-good b w a.rhs h.1)

artifact-good : (b : Bench) → AreWellFormed b → (o : Option Artifact) → IfSome o (ArtifactSound b) → is_well_formed_member (artifact_member b o) ≡ true
artifact-good b w None h = refl
artifact-good b w (Some (MacroArtifact call semicolon)) h = both_true (macro-is b call h) (macro-good b w call h)
artifact-good b w (Some _) h = refl

connections-good : (b : Bench) → AreWellFormed b → (cs : List Connection) → Each (ConnectionSound b) cs → are_well_formed_connections (map (connection_tree b) cs) ≡ true
connections-good b w [] h = refl
connections-good b w (c ∷ cs) h = both_true (maybe-good b w c.value h.0) (connections-good b w cs h.1)

fields-good : (b : Bench) → AreWellFormed b → RecordsSound b → (ds : List Def) → Each (OwnsDef b) ds → are_well_formed_inputs (map (field_tree b) ds) ≡ true
fields-good b w r [] h = refl
fields-good b w r (d ∷ ds) h = both_true (def-good b w r d h.0) (fields-good b w r ds h.1)

typedef-good : (b : Bench) → AreWellFormed b → RecordsSound b → (t : DeclaredType) → TypedefSound b t → is_well_formed_typedef (typedef_tree b t) ≡ true
typedef-good b w r (EnumType t name entries) h = both_true (type-good b w t h.0) (connections-good b w entries (Each-own (ConnectionSound b) entries h.1))
typedef-good b w r (StructType name fields) h = fields-good b w r fields (Each-own (OwnsDef b) fields h)

given-good : (b : Bench) → AreWellFormed b → (cs : List Connection) → Each (ConnectionSound b) cs → Each HasValue cs → are_given (map (connection_tree b) cs) ≡ true
given-good b w [] h k = refl
given-good b w (c ∷ cs) h k = both_true (value-good c.value h.0 k.0) (given-good b w cs h.1 k.1)
  where
    value-good : (value : Option Expr) → IfSome value (OwnsExpr b) → IsGiven value → is_given (maybe_tree_of b value) ≡ true
    value-good None h k = absurd k
    value-good (Some e) h k = expr-good b w e h

instance-good : (b : Bench) → AreWellFormed b → (o : Option InstanceRecord) → IfSome o (InstanceSound b) → IfSome o GivesValues → is_well_formed_member (instance_member b o) ≡ true
instance-good b w None h k = refl
instance-good b w (Some i) h k = both_true (given-good b w i.parameters h.parameters k) (connections-good b w i.connections h.connections)

always-good : (b : Bench) → AreWellFormed b → (f : ℕ → Family) → ((i : ℕ) → IsGood (f i)) → (o : Option AlwaysRecord) → IfSome o (AlwaysSound b) → is_well_formed_member (always_in b f o) ≡ true
always-good b w f g None h = refl
always-good b w f g (Some a) h = both_true (events-good b w a.events h.events) (block-good (f a.block.id.index) (g a.block.id.index))

inputs-good : (b : Bench) → AreWellFormed b → (vs : List FunctionVariable) → Each (VariableSound b) vs → are_well_formed_inputs (map (variable_tree b) vs) ≡ true
inputs-good b w [] h = refl
inputs-good b w (v ∷ vs) h = both_true (type-good b w v.data_type h.0) (inputs-good b w vs h.1)

locals-good : (b : Bench) → AreWellFormed b → (vs : List FunctionVariable) → Each (VariableSound b) vs → Each HasLocalKind vs → are_well_formed_locals (map (variable_tree b) vs) ≡ true
locals-good b w [] h k = refl
locals-good b w (v ∷ vs) h k = both_true (both_true k.0 (type-good b w v.data_type h.0)) (locals-good b w vs h.1 k.1)

function-good :
    (b : Bench) → AreWellFormed b → (f : ℕ → Family) → ((i : ℕ) → IsGood (f i)) → (o : Option FunctionRecord) → IfSome o (FunctionSound b) → IfSome o HasLocalKinds →
    is_well_formed_member (function_in b f o) ≡ true
function-good b w f g None h k = refl
function-good b w f g (Some x) h k =
    both_true (type-good b w x.result_type h.result_type)
    (both_true (inputs-good b w x.inputs h.inputs) (both_true (locals-good b w x.locals h.locals k) (block-good (f x.body.id.index) (g x.body.id.index))))

-- Members.

member-good :
    (b : Bench) → AreWellFormed b → FileSound b → (f : ℕ → Family) → ((i : ℕ) → IsGood (f i)) → (m : Member) → MemberSound b m → HasOwnKind m → is_well_formed_member (member_in b f m) ≡ true
member-good b w s f g (DeclarationEntry kind name t) h k = both_true k (type-good b w t h)
member-good b w s f g (AssignmentEntry a) h k = assignment-good b w (slice_get b.assignments a.id.index) (Each-read (AssignmentSound b) b.assignments a.id.index s.records.assignments)
member-good b w s f g (ParameterEntry local form value) h k = both_true (form-good b w s.records form h.0) (expr-good b w value h.1)
member-good b w s f g BlankEntry h k = refl
member-good b w s f g (CommentEntry a) h k = artifact-good b w (slice_get b.artifacts a.id.index) (Each-read (ArtifactSound b) b.artifacts a.id.index s.records.artifacts)
member-good b w s f g (ImportEntry package_name) h k = refl
member-good b w s f g (TypedefEntry t) h k = typedef-good b w s.records t h
member-good b w s f g (InlineEntry a) h k = artifact-good b w (slice_get b.artifacts a.id.index) (Each-read (ArtifactSound b) b.artifacts a.id.index s.records.artifacts)
member-good b w s f g (MacroEntry a) h k = artifact-good b w (slice_get b.artifacts a.id.index) (Each-read (ArtifactSound b) b.artifacts a.id.index s.records.artifacts)
member-good b w s f g (InstanceEntry i) h k =
    instance-good b w (slice_get b.instances i.id.index) (Each-read (InstanceSound b) b.instances i.id.index s.records.instances) (Each-read GivesValues b.instances i.id.index s.kinds.values)
member-good b w s f g (FunctionEntry x) h k =
    function-good b w f g (slice_get b.functions x.id.index) (Each-read (FunctionSound b) b.functions x.id.index s.records.functions) (Each-read HasLocalKinds b.functions x.id.index s.kinds.locals)
member-good b w s f g (AlwaysEntry a) h k = always-good b w f g (slice_get b.always_blocks a.id.index) (Each-read (AlwaysSound b) b.always_blocks a.id.index s.records.always_blocks)
member-good b w s f g (ConditionalEntry c) h k = conditional_member-good (f c.id.index) (g c.id.index)
member-good b w s f g (LoopEntry l) h k = loop_member-good (f l.id.index) (g l.id.index)

members-good :
    (b : Bench) → AreWellFormed b → FileSound b → (f : ℕ → Family) → ((i : ℕ) → IsGood (f i)) → (ms : List Member) → Each (MemberSound b) ms → Each HasOwnKind ms → are_well_formed_members (members_in b f ms) ≡ true
members-good b w s f g [] h k = refl
members-good b w s f g (m ∷ ms) h k = both_true (member-good b w s f g m h.0 k.0) (members-good b w s f g ms h.1 k.1)

-- A loop declares nothing.
loop-kind : (b : Bench) (i : ℕ) (m : Member) → MemberNewer b i m → HasOwnKind m
loop-kind b i (DeclarationEntry kind name t) h = absurd h
loop-kind b i _ h = tt

loop_members-good :
    (b : Bench) → AreWellFormed b → FileSound b → (f : ℕ → Family) → ((i : ℕ) → IsGood (f i)) → (n : ℕ) (ms : List Member) → Each (LoopMemberSound b n) ms → are_well_formed_members (members_in b f ms) ≡ true
loop_members-good b w s f g n [] h = refl
loop_members-good b w s f g n (m ∷ ms) h = both_true (member-good b w s f g m h.0.0 (loop-kind b n m h.0.1)) (loop_members-good b w s f g n ms h.1)

-- Containers, this many levels deep.

nest-good : (b : Bench) → AreWellFormed b → FileSound b → (f : ℕ → Family) → ((i : ℕ) → IsGood (f i)) → (n : ℕ) (x : NestRecord) → NestSound b n x → IsGood (family b f (Some x))
nest-good b w s f g n (BlockRecord statements) h = statements-good b w s.records f g n statements h
nest-good b w s f g n (ConditionalNestRecord c) h = (expr-good b w c.condition h.condition, block-good (f c.consequent.id.index) (g c.consequent.id.index), alternates-good b w f g n c.else_ifs c.otherwise h.else_ifs)
nest-good b w s f g n (CaseNestRecord c) h = both_true (expr-good b w c.selector h.selector) (arms-good b w f g n c.arms h.arms)
nest-good b w s f g n (LoopNestRecord l) h = both_true (both_true (expr-good b w l.start h.start) (expr-good b w l.end h.end)) (loop_members-good b w s f g n l.members h.members)

family-good : (b : Bench) → AreWellFormed b → FileSound b → (f : ℕ → Family) → ((i : ℕ) → IsGood (f i)) → (n : ℕ) (ns : List NestRecord) → NestsSound b n ns → (i : ℕ) → IsGood (family b f (slice_get ns i))
family-good b w s f g n [] h i = tt
family-good b w s f g n (x ∷ ns) h zero = nest-good b w s f g n x h.0
family-good b w s f g n (x ∷ ns) h (suc i) = family-good b w s f g (suc n) ns h.1 i

unfolded-good : (b : Bench) → AreWellFormed b → FileSound b → (depth : ℕ) (i : ℕ) → IsGood (unfolded b depth i)
unfolded-good b w s zero i = tt
unfolded-good b w s (suc depth) i = family-good b w s (unfolded b depth) (unfolded-good b w s depth) 0 b.nests s.records.nests i

families-good : (b : Bench) → AreWellFormed b → FileSound b → (i : ℕ) → IsGood (families b i)
unfolding families
families-good b w s i = unfolded-good b w s (length b.nests) i

-- Modules and files.

typed-good : (b : Bench) → AreWellFormed b → (t : Option VastDataType) → IfSome t (OwnsType b) → is_well_formed_typed (maybe_type_in b.nodes t) ≡ true
typed-good b w None h = refl
typed-good b w (Some t) h = type-good b w t h

parameters-good : (b : Bench) → AreWellFormed b → (ps : List ParameterPort) → Each (ParameterPortSound b) ps → are_well_formed_parameters (map (parameter_port_tree b) ps) ≡ true
parameters-good b w [] h = refl
parameters-good b w (p ∷ ps) h = both_true (both_true (typed-good b w p.data_type h.0.0) (expr-good b w p.value h.0.1)) (parameters-good b w ps h.1)

ports-good : (b : Bench) → AreWellFormed b → RecordsSound b → (ps : List ModulePort) → Each (OwnsPort b) ps → are_well_formed_ports (map (port_tree b) ps) ≡ true
ports-good b w r [] h = refl
ports-good b w r (p ∷ ps) h =
    both_true (Each-there (PortSound b) (λ o. is_well_formed_type (maybe_port_tree b o).declaration.type ≡ true) (λ x k. type-good b w x.data_type k.0) b.ports p.id.index r.ports h.0.of_kind) (ports-good b w r ps h.1)

module_item-good :
    (b : Bench) → AreWellFormed b → FileSound b → (o : Option ModuleRecord) → IfSome o (ModuleSound b) → IfSome o DeclaresOwnKinds → (items : List FileItemTree) → are_well_formed_items items ≡ true →
    are_well_formed_items (maybe_module_tree b o ∷ items) ≡ true
module_item-good b w s None h k items e = e
module_item-good b w s (Some m) h k items e =
    both_true (both_true (parameters-good b w m.parameters h.parameters) (both_true (ports-good b w s.records m.ports h.ports) (members-good b w s (families b) (families-good b w s) m.members h.members k))) e

items-good : (b : Bench) → AreWellFormed b → FileSound b → (es : List FileItem) → Each (EntrySound b) es → are_well_formed_items (map (item_tree b) es) ≡ true
items-good b w s [] h = refl
items-good b w s (ModuleEntry m ∷ es) h =
    module_item-good b w s (slice_get b.modules m.id.index) (Each-read (ModuleSound b) b.modules m.id.index s.records.modules) (Each-read DeclaresOwnKinds b.modules m.id.index s.kinds.declarations) (map (item_tree b) es)
    (items-good b w s es h.1)
items-good b w s (FileTypedefEntry t ∷ es) h = both_true (typedef-good b w s.records t h.0) (items-good b w s es h.1)
items-good b w s (_ ∷ es) h = items-good b w s es h.1

pub tree-good : (b : Bench) → AreWellFormed b → FileSound b → is_well_formed_file (tree b) ≡ true
unfolding tree
tree-good b w s = items-good b w s b.items s.records.items
