-- What a file keeps stays true as it grows.
use Rattle.std.proofs.Common.{◌≡◌, ℕ, suc, ◌<◌, ◌≤◌, Bool, false, IsTrue, List, [], ◌∷◌, length, nat_lt, Option, Some, None, slice_get, refl, sym, ◌∙◌, arith}
use Rattle.std.specs.Prelude.{IfSome, All}
use Rattle.vast_core.specs.Handles.{Id, Def, Expr, VastDataType, ModulePort, ContinuousAssignment, VastStatementBlock}
use Rattle.vast_core.specs.Nodes.{IsOwned, is_name, is_macro}
use Rattle.vast_core.specs.Records.{Assignment, Port, ParameterPort, ModuleRecord, ParameterForm, DefinedForm, Member, DeclarationEntry, AssignmentEntry, ParameterEntry, BlankEntry, CommentEntry, ImportEntry, TypedefEntry, InlineEntry, MacroEntry, InstanceEntry, FunctionEntry, AlwaysEntry, ConditionalEntry, LoopEntry, FileItem, ModuleEntry, FileTypedefEntry, DeclaredType, EnumType, StructType, Definition, Artifact, MacroArtifact, Connection, InstanceRecord}
use Rattle.vast_core.specs.Nests.{CaseArm, ElseIf, Statement, AssignStatement, ContinuousStatement, TaskStatement, ConditionalStatement, CasesStatement, ForStatement, NestRecord, BlockRecord, ConditionalNestRecord, CaseNestRecord, LoopNestRecord, FunctionVariable, FunctionRecord, AlwaysRecord, NestKind, NoKind, nest_kind, is_kind, BlockKind, ConditionalKind, CaseStatementKind, LoopKind}
use Rattle.vast_literal.specs.Tree.{ExprTree}
use Rattle.vast_core.specs.Bench.{Bench, has_root, OwnsExpr, OwnsType, OwnsPort, OwnsDef, OwnsContinuous, is_continuous, is_comment, is_inline, is_macro_statement}
use Rattle.vast_core.specs.Sound.{Each, PortSound, AssignmentSound, DefinitionSound, ArtifactSound, ConnectionSound, InstanceSound, FormSound, TypedefSound, MemberSound, ParameterPortSound, ModuleSound, EntrySound, RecordsSound, HoldsBlock, StatementSound, ElseIfSound, CaseArmSound, AlwaysNewer, MemberNewer, LoopMemberSound, NestSound, NestsSound, VariableSound, FunctionSound, EventSound, AlwaysSound}
use Rattle.vast_core.proofs.Lists.{Each-map, below-of, below-test, none-past}
use Rattle.vast_core.proofs.NodeLaws.{Extends, HasExpr-kept, HasType-kept, shape-kept, expr_in-kept}
use Rattle.vast_core.proofs.Nests.{kind-there}
use Rattle.std.proofs.lemmas.Option.{slice_get_within}

-- c has all the nodes that b has, in the same places.
pub record Grows (b c : Bench) : Type 0 where
  pub nodes : Extends b.nodes c.nodes
  pub ports : length b.ports ≤ length c.ports
  pub assignments : (i : ℕ) (a : Assignment) → slice_get b.assignments i ≡ Some a → slice_get c.assignments i ≡ Some a
  pub modules : length b.modules ≤ length c.modules
  pub definitions : length b.definitions ≤ length c.definitions
  pub artifacts : (i : ℕ) (a : Artifact) → slice_get b.artifacts i ≡ Some a → slice_get c.artifacts i ≡ Some a
  pub instances : length b.instances ≤ length c.instances
  pub nests : (i : ℕ) → i < length b.nests → nest_kind (slice_get c.nests i) ≡ nest_kind (slice_get b.nests i)
  pub functions : length b.functions ≤ length c.functions
  pub always_blocks : (i : ℕ) (a : AlwaysRecord) → slice_get b.always_blocks i ≡ Some a → slice_get c.always_blocks i ≡ Some a

within : (i m n : ℕ) → m ≤ n → IsTrue (nat_lt i m) → IsTrue (nat_lt i n)
within i m n le h = let below : i < m = below-of i m h in below-test i n (omega arith)

-- An element that was found is found again.
pub test-kept :
    {A : Type 0} (test : Option A → Bool) (xs ys : List A) (i : ℕ) (o : Option A) → slice_get xs i ≡ o →
    ((x : A) → slice_get xs i ≡ Some x → slice_get ys i ≡ Some x) → (IsTrue (test None) → ⊥) → IsTrue (test o) → IsTrue (test (slice_get ys i))
test-kept test xs ys i None e k n h = absurd (n h)
test-kept test xs ys i (Some x) e k n h = rw (k x e) h

pub index-kept : (b c : Bench) (id : Id) (m n : ℕ) → Grows b c → m ≤ n → IsOwned b.nodes.id id (nat_lt id.index m) → IsOwned c.nodes.id id (nat_lt id.index n)
index-kept b c id m n g le h = record { of_file = h.of_file ∙ sym g.nodes.same_id; of_kind = within id.index m n le h.of_kind }

pub artifact-kept :
    (test : Option Artifact → Bool) (b c : Bench) (id : Id) → Grows b c → (IsTrue (test None) → ⊥) →
    IsOwned b.nodes.id id (test (slice_get b.artifacts id.index)) → IsOwned c.nodes.id id (test (slice_get c.artifacts id.index))
artifact-kept test b c id g n h =
    record { of_file = h.of_file ∙ sym g.nodes.same_id; of_kind = test-kept test b.artifacts c.artifacts id.index (slice_get b.artifacts id.index) refl (g.artifacts id.index) n h.of_kind }

pub nest-kept :
    (test : NestKind → Bool) (b c : Bench) (id : Id) → Grows b c → (IsTrue (test NoKind) → ⊥) →
    IsOwned b.nodes.id id (test (nest_kind (slice_get b.nests id.index))) → IsOwned c.nodes.id id (test (nest_kind (slice_get c.nests id.index)))
nest-kept test b c id g n h =
    record { of_file = h.of_file ∙ sym g.nodes.same_id; of_kind = rw (g.nests id.index (kind-there test b.nests id.index n h.of_kind)) h.of_kind }

-- What was found in a list is found in a list that has the same elements there.
found : {A : Type 0} (xs ys : List A) (i : ℕ) (o : Option A) → slice_get xs i ≡ o → ((x : A) → slice_get xs i ≡ Some x → slice_get ys i ≡ Some x) → i < length xs → i < length ys
found xs ys i None e k h = absurd (omega (arith, none-past xs i e))
found xs ys i (Some x) e k h = slice_get_within ys i x (k x e)

pub found-kept :
    {A : Type 0} (b c : Bench) (id : Id) (xs ys : List A) → Grows b c → ((i : ℕ) (x : A) → slice_get xs i ≡ Some x → slice_get ys i ≡ Some x) →
    IsOwned b.nodes.id id (nat_lt id.index (length xs)) → IsOwned c.nodes.id id (nat_lt id.index (length ys))
found-kept b c id xs ys g k h =
    record { of_file = h.of_file ∙ sym g.nodes.same_id; of_kind = below-test id.index (length ys) (found xs ys id.index (slice_get xs id.index) refl (k id.index) (below-of id.index (length xs) h.of_kind)) }

pub never : IsTrue false → ⊥
never h = cc

pub port_stays : (b c : Bench) → Grows b c → (p : ModulePort) → OwnsPort b p → OwnsPort c p
port_stays b c g p h = index-kept b c p.id (length b.ports) (length c.ports) g g.ports h

-- An expression of a shape stays one.
pub shape_stays : (shape : ExprTree → Bool) (b c : Bench) → Grows b c → (id : Id) → IsOwned b.nodes.id id (has_root shape b id.index) → IsOwned c.nodes.id id (has_root shape c id.index)
shape_stays shape b c g id h = record { of_file = h.of_file ∙ sym g.nodes.same_id; of_kind = shape-kept shape b.nodes c.nodes g.nodes id.index h.of_kind }

maybe-type-kept : (b c : Bench) → Grows b c → (t : Option VastDataType) → IfSome t (OwnsType b) → IfSome t (OwnsType c)
maybe-type-kept b c g None h = tt
maybe-type-kept b c g (Some t) h = HasType-kept b.nodes c.nodes g.nodes t h

maybe-expr-kept : (b c : Bench) → Grows b c → (e : Option Expr) → IfSome e (OwnsExpr b) → IfSome e (OwnsExpr c)
maybe-expr-kept b c g None h = tt
maybe-expr-kept b c g (Some e) h = HasExpr-kept b.nodes c.nodes g.nodes e h

PortSound-kept : (b c : Bench) → Grows b c → (p : Port) → PortSound b p → PortSound c p
PortSound-kept b c g p h = (
  HasType-kept b.nodes c.nodes g.nodes p.data_type h.0,
  shape_stays is_name b c g p.logic_ref.id h.1,
)

AssignmentSound-kept : (b c : Bench) → Grows b c → (a : Assignment) → AssignmentSound b a → AssignmentSound c a
AssignmentSound-kept b c g a h = (HasExpr-kept b.nodes c.nodes g.nodes a.lhs h.0, HasExpr-kept b.nodes c.nodes g.nodes a.rhs h.1)

pub DefinitionSound-kept : (b c : Bench) → Grows b c → (d : Definition) → DefinitionSound b d → DefinitionSound c d
DefinitionSound-kept b c g d h = HasType-kept b.nodes c.nodes g.nodes d.data_type h

pub ArtifactSound-kept : (b c : Bench) → Grows b c → (a : Artifact) → ArtifactSound b a → ArtifactSound c a
ArtifactSound-kept b c g (MacroArtifact call semicolon) h = shape_stays is_macro b c g call.id h
ArtifactSound-kept b c g _ h = tt

ConnectionSound-kept : (b c : Bench) → Grows b c → (x : Connection) → ConnectionSound b x → ConnectionSound c x
ConnectionSound-kept b c g x h = maybe-expr-kept b c g x.value h

pub InstanceSound-kept : (b c : Bench) → Grows b c → (i : InstanceRecord) → InstanceSound b i → InstanceSound c i
InstanceSound-kept b c g i h =
    record {
      parameters = Each-map (ConnectionSound-kept b c g) i.parameters h.parameters;
      connections = Each-map (ConnectionSound-kept b c g) i.connections h.connections;
    }

def-kept : (b c : Bench) → Grows b c → (d : Def) → OwnsDef b d → OwnsDef c d
def-kept b c g d h = index-kept b c d.id (length b.definitions) (length c.definitions) g g.definitions h

FormSound-kept : (b c : Bench) → Grows b c → (f : ParameterForm) → FormSound b f → FormSound c f
FormSound-kept b c g (DefinedForm d) h = def-kept b c g d h
FormSound-kept b c g _ h = tt

All-kept : {A : Type 0} {P Q : A → Type 0} → ((x : A) → P x → Q x) → (xs : List A) → All P xs → All Q xs
All-kept f xs h = λ k d below. f _ (h k d below)

TypedefSound-kept : (b c : Bench) → Grows b c → (t : DeclaredType) → TypedefSound b t → TypedefSound c t
TypedefSound-kept b c g (EnumType t name entries) h = (HasType-kept b.nodes c.nodes g.nodes t h.0, All-kept (ConnectionSound-kept b c g) entries h.1)
TypedefSound-kept b c g (StructType name fields) h = All-kept (def-kept b c g) fields h

pub continuous_stays : (b c : Bench) → Grows b c → (a : ContinuousAssignment) → OwnsContinuous b a → OwnsContinuous c a
continuous_stays b c g a h =
    record {
      of_file = h.of_file ∙ sym g.nodes.same_id;
      of_kind = test-kept is_continuous b.assignments c.assignments a.id.index (slice_get b.assignments a.id.index) refl (g.assignments a.id.index) never h.of_kind;
    }

pub MemberSound-kept : (b c : Bench) → Grows b c → (m : Member) → MemberSound b m → MemberSound c m
MemberSound-kept b c g (DeclarationEntry kind name t) h = HasType-kept b.nodes c.nodes g.nodes t h
MemberSound-kept b c g (AssignmentEntry a) h = continuous_stays b c g a h
MemberSound-kept b c g (ParameterEntry local form value) h = (FormSound-kept b c g form h.0, HasExpr-kept b.nodes c.nodes g.nodes value h.1)
MemberSound-kept b c g BlankEntry h = tt
MemberSound-kept b c g (CommentEntry a) h = artifact-kept is_comment b c a.id g never h
MemberSound-kept b c g (ImportEntry package_name) h = tt
MemberSound-kept b c g (TypedefEntry t) h = TypedefSound-kept b c g t h
MemberSound-kept b c g (InlineEntry a) h = artifact-kept is_inline b c a.id g never h
MemberSound-kept b c g (MacroEntry a) h = artifact-kept is_macro_statement b c a.id g never h
MemberSound-kept b c g (InstanceEntry i) h = index-kept b c i.id (length b.instances) (length c.instances) g g.instances h
MemberSound-kept b c g (FunctionEntry f) h = index-kept b c f.id (length b.functions) (length c.functions) g g.functions h
MemberSound-kept b c g (AlwaysEntry a) h = found-kept b c a.id b.always_blocks c.always_blocks g g.always_blocks h
MemberSound-kept b c g (ConditionalEntry x) h = nest-kept (is_kind ConditionalKind) b c x.id g never h
MemberSound-kept b c g (LoopEntry l) h = nest-kept (is_kind LoopKind) b c l.id g never h

pub ParameterPortSound-kept : (b c : Bench) → Grows b c → (p : ParameterPort) → ParameterPortSound b p → ParameterPortSound c p
ParameterPortSound-kept b c g p h = (maybe-type-kept b c g p.data_type h.0, HasExpr-kept b.nodes c.nodes g.nodes p.value h.1)

pub ModuleSound-kept : (b c : Bench) → Grows b c → (m : ModuleRecord) → ModuleSound b m → ModuleSound c m
ModuleSound-kept b c g m h =
    record {
      parameters = Each-map (ParameterPortSound-kept b c g) m.parameters h.parameters;
      ports = Each-map (port_stays b c g) m.ports h.ports;
      members = Each-map (MemberSound-kept b c g) m.members h.members;
    }

-- Containers.

pub block-kept : (b c : Bench) → Grows b c → (i : ℕ) (x : VastStatementBlock) → HoldsBlock b i x → HoldsBlock c i x
block-kept b c g i x h = (nest-kept (is_kind BlockKind) b c x.id g never h.0, h.1)

pub StatementSound-kept : (b c : Bench) → Grows b c → (i : ℕ) (s : Statement) → StatementSound b i s → StatementSound c i s
StatementSound-kept b c g i (AssignStatement s) h = found-kept b c s.id b.assignments c.assignments g g.assignments h
StatementSound-kept b c g i (ContinuousStatement s) h = found-kept b c s.id b.assignments c.assignments g g.assignments h
StatementSound-kept b c g i (TaskStatement call) h = HasExpr-kept b.nodes c.nodes g.nodes call h
StatementSound-kept b c g i (ConditionalStatement x) h = (nest-kept (is_kind ConditionalKind) b c x.id g never h.0, h.1)
StatementSound-kept b c g i (CasesStatement x) h = (nest-kept (is_kind CaseStatementKind) b c x.id g never h.0, h.1)
StatementSound-kept b c g i (ForStatement l) h = ((HasExpr-kept b.nodes c.nodes g.nodes l.start h.0.0, HasExpr-kept b.nodes c.nodes g.nodes l.end h.0.1), block-kept b c g i l.block h.1)
StatementSound-kept b c g i _ h = tt

pub ElseIfSound-kept : (b c : Bench) → Grows b c → (i : ℕ) (a : ElseIf) → ElseIfSound b i a → ElseIfSound c i a
ElseIfSound-kept b c g i a h = (HasExpr-kept b.nodes c.nodes g.nodes a.condition h.0, block-kept b c g i a.block h.1)

pub CaseArmSound-kept : (b c : Bench) → Grows b c → (i : ℕ) (a : CaseArm) → CaseArmSound b i a → CaseArmSound c i a
CaseArmSound-kept b c g i a h = (maybe-expr-kept b c g a.label h.0, block-kept b c g i a.block h.1)

otherwise-kept : (b c : Bench) → Grows b c → (i : ℕ) (o : Option VastStatementBlock) → IfSome o (HoldsBlock b i) → IfSome o (HoldsBlock c i)
otherwise-kept b c g i None h = tt
otherwise-kept b c g i (Some x) h = block-kept b c g i x h

newer-kept : (i : ℕ) (o p : Option AlwaysRecord) → ((a : AlwaysRecord) → o ≡ Some a → p ≡ Some a) → (o ≡ None → ⊥) → AlwaysNewer i o → AlwaysNewer i p
newer-kept i None p k n h = absurd (n refl)
newer-kept i (Some a) p k n h = rw (k a refl) h

always-there : (xs : List AlwaysRecord) (i : ℕ) → IsTrue (nat_lt i (length xs)) → slice_get xs i ≡ None → ⊥
always-there xs i h e = let below : i < length xs = below-of i (length xs) h in absurd (omega (arith, none-past xs i e))

MemberNewer-kept : (b c : Bench) → Grows b c → (i : ℕ) (m : Member) → MemberSound b m → MemberNewer b i m → MemberNewer c i m
MemberNewer-kept b c g i (DeclarationEntry kind name t) s h = h
MemberNewer-kept b c g i (FunctionEntry f) s h = h
MemberNewer-kept b c g i (AlwaysEntry a) s h =
    newer-kept i (slice_get b.always_blocks a.id.index) (slice_get c.always_blocks a.id.index) (g.always_blocks a.id.index) (always-there b.always_blocks a.id.index s.of_kind) h
MemberNewer-kept b c g i (ConditionalEntry x) s h = h
MemberNewer-kept b c g i (LoopEntry l) s h = h
MemberNewer-kept b c g i _ s h = tt

pub LoopMemberSound-kept : (b c : Bench) → Grows b c → (i : ℕ) (m : Member) → LoopMemberSound b i m → LoopMemberSound c i m
LoopMemberSound-kept b c g i m h = (MemberSound-kept b c g m h.0, MemberNewer-kept b c g i m h.0 h.1)

pub NestSound-kept : (b c : Bench) → Grows b c → (i : ℕ) (n : NestRecord) → NestSound b i n → NestSound c i n
NestSound-kept b c g i (BlockRecord ss) h = Each-map (StatementSound-kept b c g i) ss h
NestSound-kept b c g i (ConditionalNestRecord x) h =
    record {
      condition = HasExpr-kept b.nodes c.nodes g.nodes x.condition h.condition;
      consequent = block-kept b c g i x.consequent h.consequent;
      else_ifs = Each-map (ElseIfSound-kept b c g i) x.else_ifs h.else_ifs;
      otherwise = otherwise-kept b c g i x.otherwise h.otherwise;
    }
NestSound-kept b c g i (CaseNestRecord x) h =
    record { selector = HasExpr-kept b.nodes c.nodes g.nodes x.selector h.selector; arms = Each-map (CaseArmSound-kept b c g i) x.arms h.arms }
NestSound-kept b c g i (LoopNestRecord l) h =
    record {
      genvar = shape_stays is_name b c g l.genvar.id h.genvar;
      start = HasExpr-kept b.nodes c.nodes g.nodes l.start h.start;
      end = HasExpr-kept b.nodes c.nodes g.nodes l.end h.end;
      members = Each-map (LoopMemberSound-kept b c g i) l.members h.members;
    }

NestsSound-kept : (b c : Bench) → Grows b c → (i : ℕ) (ns : List NestRecord) → NestsSound b i ns → NestsSound c i ns
NestsSound-kept b c g i [] h = tt
NestsSound-kept b c g i (n ∷ ns) h = (NestSound-kept b c g i n h.0, NestsSound-kept b c g (suc i) ns h.1)

pub VariableSound-kept : (b c : Bench) → Grows b c → (v : FunctionVariable) → VariableSound b v → VariableSound c v
VariableSound-kept b c g v h = HasType-kept b.nodes c.nodes g.nodes v.data_type h

pub FunctionSound-kept : (b c : Bench) → Grows b c → (f : FunctionRecord) → FunctionSound b f → FunctionSound c f
FunctionSound-kept b c g f h =
    record {
      result_type = HasType-kept b.nodes c.nodes g.nodes f.result_type h.result_type;
      result_name = shape_stays is_name b c g f.result_name.id h.result_name;
      inputs = Each-map (VariableSound-kept b c g) f.inputs h.inputs;
      locals = Each-map (VariableSound-kept b c g) f.locals h.locals;
      body = nest-kept (is_kind BlockKind) b c f.body.id g never h.body;
      distinct = h.distinct;
      taken = h.taken;
    }

EventSound-kept : (b c : Bench) → Grows b c → (e : Expr) → EventSound b e → EventSound c e
EventSound-kept b c g e h = (HasExpr-kept b.nodes c.nodes g.nodes e h.0, rw (expr_in-kept b.nodes c.nodes g.nodes e h.0) h.1)

pub AlwaysSound-kept : (b c : Bench) → Grows b c → (a : AlwaysRecord) → AlwaysSound b a → AlwaysSound c a
AlwaysSound-kept b c g a h = record { events = Each-map (EventSound-kept b c g) a.events h.events; block = nest-kept (is_kind BlockKind) b c a.block.id g never h.block }

pub EntrySound-kept : (b c : Bench) → Grows b c → (e : FileItem) → EntrySound b e → EntrySound c e
EntrySound-kept b c g (ModuleEntry m) h = index-kept b c m.id (length b.modules) (length c.modules) g g.modules h
EntrySound-kept b c g (FileTypedefEntry t) h = TypedefSound-kept b c g t h
EntrySound-kept b c g _ h = tt

-- The records of b are sound in c.
pub record Carried (b c : Bench) : Type 0 where
  pub ports : Each (PortSound c) b.ports
  pub assignments : Each (AssignmentSound c) b.assignments
  pub modules : Each (ModuleSound c) b.modules
  pub definitions : Each (DefinitionSound c) b.definitions
  pub artifacts : Each (ArtifactSound c) b.artifacts
  pub instances : Each (InstanceSound c) b.instances
  pub items : Each (EntrySound c) b.items
  pub nests : NestsSound c 0 b.nests
  pub functions : Each (FunctionSound c) b.functions
  pub always_blocks : Each (AlwaysSound c) b.always_blocks

pub carried : (b c : Bench) → Grows b c → RecordsSound b → Carried b c
carried b c g s =
    record {
      ports = Each-map (PortSound-kept b c g) b.ports s.ports;
      assignments = Each-map (AssignmentSound-kept b c g) b.assignments s.assignments;
      modules = Each-map (ModuleSound-kept b c g) b.modules s.modules;
      definitions = Each-map (DefinitionSound-kept b c g) b.definitions s.definitions;
      artifacts = Each-map (ArtifactSound-kept b c g) b.artifacts s.artifacts;
      instances = Each-map (InstanceSound-kept b c g) b.instances s.instances;
      items = Each-map (EntrySound-kept b c g) b.items s.items;
      nests = NestsSound-kept b c g 0 b.nests s.nests;
      functions = Each-map (FunctionSound-kept b c g) b.functions s.functions;
      always_blocks = Each-map (AlwaysSound-kept b c g) b.always_blocks s.always_blocks;
    }
