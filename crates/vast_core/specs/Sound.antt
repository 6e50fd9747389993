-- What every file keeps: children are older, each expression and type fits, and each handle in its records and lists
-- is its own.
use Rattle.std.specs.Prelude.{◌↔◌, ℕ, suc, ◌<◌, Bool, true, false, IsTrue, List, [], ◌∷◌, Option, Some, None, slice_get, IfSome, All}
use Rattle.vast_literal.specs.Tree.{ExprTree, NameTree, PosEdgeTree, NegEdgeTree}
use Rattle.vast_core.specs.Handles.{Expr, VastStatementBlock}
use Rattle.vast_core.specs.Nests.{CaseArm, ElseIf, Statement, AssignStatement, ContinuousStatement, TaskStatement, ConditionalStatement, CasesStatement, ForStatement, ConditionalRecord, CaseRecord, LoopRecord, NestRecord, BlockRecord, ConditionalNestRecord, CaseNestRecord, LoopNestRecord, FunctionVariable, FunctionRecord, AlwaysRecord, declared_names}
use Rattle.vast_core.specs.Records.{Assignment, Port, ParameterPort, ModuleRecord, ParameterForm, PlainForm, IntForm, DefinedForm, Member, DeclarationEntry, AssignmentEntry, ParameterEntry, BlankEntry, CommentEntry, ImportEntry, TypedefEntry, InlineEntry, MacroEntry, InstanceEntry, FunctionEntry, AlwaysEntry, ConditionalEntry, LoopEntry, FileItem, ModuleEntry, FileTypedefEntry, DeclaredType, EnumType, StructType, Definition, Artifact, MacroArtifact, Connection, InstanceRecord, IsFree}
use Rattle.vast_core.specs.Bench.{Bench, OwnsExpr, OwnsType, OwnsLogicRef, OwnsPort, OwnsContinuous, OwnsModule, OwnsDef, OwnsMacroRef, OwnsComment, OwnsInline, OwnsMacroStatement, OwnsInstantiation, OwnsFunction, OwnsAlways, OwnsStatement, OwnsBlock, OwnsConditional, OwnsCase, OwnsLoop, tree_of}
use Rattle.vast_core.specs.DeclaredNames.{NamesSound}
use Rattle.vast_core.specs.Parents.{HasOneParent}
use Rattle.vast_core.specs.WrittenKinds.{HasOwnKind, HasLocalKind, HasValue}

abbrev pub Each : {A : Type 0} (P : A → Type 0) → List A → Type 0
Each P [] = Unit {0}
Each P (x ∷ xs) = P x × Each P xs

abbrev pub PortSound : Bench → Port → Type 0
PortSound b p = OwnsType b p.data_type × OwnsLogicRef b p.logic_ref

abbrev pub AssignmentSound : Bench → Assignment → Type 0
AssignmentSound b a = OwnsExpr b a.lhs × OwnsExpr b a.rhs

abbrev pub DefinitionSound : Bench → Definition → Type 0
DefinitionSound b d = OwnsType b d.data_type

abbrev pub ArtifactSound : Bench → Artifact → Type 0
ArtifactSound b (MacroArtifact call semicolon) = OwnsMacroRef b call
ArtifactSound b _ = Unit {0}

abbrev pub ConnectionSound : Bench → Connection → Type 0
ConnectionSound b c = IfSome c.value (OwnsExpr b)

pub record InstanceSound (b : Bench) (i : InstanceRecord) : Type 0 where
  pub parameters : Each (ConnectionSound b) i.parameters
  pub connections : Each (ConnectionSound b) i.connections

abbrev pub FormSound : Bench → ParameterForm → Type 0
FormSound b (PlainForm name) = Unit {0}
FormSound b (IntForm name) = Unit {0}
FormSound b (DefinedForm d) = OwnsDef b d

abbrev pub TypedefSound : Bench → DeclaredType → Type 0
TypedefSound b (EnumType data_type name entries) = OwnsType b data_type × All (ConnectionSound b) entries
TypedefSound b (StructType name fields) = All (OwnsDef b) fields

abbrev pub MemberSound : Bench → Member → Type 0
MemberSound b (DeclarationEntry kind name data_type) = OwnsType b data_type
MemberSound b (AssignmentEntry a) = OwnsContinuous b a
MemberSound b (ParameterEntry local form value) = FormSound b form × OwnsExpr b value
MemberSound b BlankEntry = Unit {0}
MemberSound b (CommentEntry a) = OwnsComment b a
MemberSound b (ImportEntry package_name) = Unit {0}
MemberSound b (TypedefEntry t) = TypedefSound b t
MemberSound b (InlineEntry a) = OwnsInline b a
MemberSound b (MacroEntry a) = OwnsMacroStatement b a
MemberSound b (InstanceEntry i) = OwnsInstantiation b i
MemberSound b (FunctionEntry f) = OwnsFunction b f
MemberSound b (AlwaysEntry a) = OwnsAlways b a
MemberSound b (ConditionalEntry c) = OwnsConditional b c
MemberSound b (LoopEntry l) = OwnsLoop b l

-- The container is the file's, and newer than container i, which holds it.
abbrev pub HoldsBlock : Bench → ℕ → VastStatementBlock → Type 0
HoldsBlock b i c = OwnsBlock b c × i < c.id.index

-- What the statement names is the file's, and what it holds is newer than the container of this number.
abbrev pub StatementSound : Bench → ℕ → Statement → Type 0
StatementSound b i (AssignStatement s) = OwnsStatement b s
StatementSound b i (ContinuousStatement s) = OwnsStatement b s
StatementSound b i (TaskStatement call) = OwnsExpr b call
StatementSound b i (ConditionalStatement c) = OwnsConditional b c × i < c.id.index
StatementSound b i (CasesStatement c) = OwnsCase b c × i < c.id.index
StatementSound b i (ForStatement l) = (OwnsExpr b l.start × OwnsExpr b l.end) × HoldsBlock b i l.block
StatementSound b i _ = Unit {0}

abbrev pub ElseIfSound : Bench → ℕ → ElseIf → Type 0
ElseIfSound b i a = OwnsExpr b a.condition × HoldsBlock b i a.block

abbrev pub CaseArmSound : Bench → ℕ → CaseArm → Type 0
CaseArmSound b i a = IfSome a.label (OwnsExpr b) × HoldsBlock b i a.block

pub record ConditionalSound (b : Bench) (i : ℕ) (c : ConditionalRecord) : Type 0 where
  pub condition : OwnsExpr b c.condition
  pub consequent : HoldsBlock b i c.consequent
  pub else_ifs : Each (ElseIfSound b i) c.else_ifs
  pub otherwise : IfSome c.otherwise (HoldsBlock b i)

pub record CaseSound (b : Bench) (i : ℕ) (c : CaseRecord) : Type 0 where
  pub selector : OwnsExpr b c.selector
  pub arms : Each (CaseArmSound b i) c.arms

-- The block of an always block, if there is one, is newer than container i.
abbrev pub AlwaysNewer : ℕ → Option AlwaysRecord → Type 0
AlwaysNewer i None = Unit {0}
AlwaysNewer i (Some a) = i < a.block.id.index

-- What a member of loop i holds is newer than the loop. Loops declare nothing and hold no functions.
abbrev pub MemberNewer : Bench → ℕ → Member → Type 0
MemberNewer b i (DeclarationEntry kind name data_type) = ⊥
MemberNewer b i (FunctionEntry f) = ⊥
MemberNewer b i (AlwaysEntry a) = AlwaysNewer i (slice_get b.always_blocks a.id.index)
MemberNewer b i (ConditionalEntry c) = i < c.id.index
MemberNewer b i (LoopEntry l) = i < l.id.index
MemberNewer b i _ = Unit {0}

abbrev pub LoopMemberSound : Bench → ℕ → Member → Type 0
LoopMemberSound b i entry = MemberSound b entry × MemberNewer b i entry

pub record LoopSound (b : Bench) (i : ℕ) (l : LoopRecord) : Type 0 where
  pub genvar : OwnsLogicRef b l.genvar
  pub start : OwnsExpr b l.start
  pub end : OwnsExpr b l.end
  pub members : Each (LoopMemberSound b i) l.members

-- What container i holds is the file's, and newer than it.
abbrev pub NestSound : Bench → ℕ → NestRecord → Type 0
NestSound b i (BlockRecord statements) = Each (StatementSound b i) statements
NestSound b i (ConditionalNestRecord c) = ConditionalSound b i c
NestSound b i (CaseNestRecord c) = CaseSound b i c
NestSound b i (LoopNestRecord l) = LoopSound b i l

-- The containers from the place i on.
abbrev pub NestsSound : Bench → ℕ → List NestRecord → Type 0
NestsSound b i [] = Unit {0}
NestsSound b i (n ∷ ns) = NestSound b i n × NestsSound b (suc i) ns

abbrev pub VariableSound : Bench → FunctionVariable → Type 0
VariableSound b v = OwnsType b v.data_type

-- No name stands twice.
abbrev pub AreDistinct : List (List ℕ) → Type 0
AreDistinct [] = Unit {0}
AreDistinct (name ∷ names) = IsFree name names × AreDistinct names

-- What a function names is the file's. Its result, inputs and locals have distinct names, and the names that are taken
-- are those.
pub record FunctionSound (b : Bench) (f : FunctionRecord) : Type 0 where
  pub result_type : OwnsType b f.result_type
  pub result_name : OwnsLogicRef b f.result_name
  pub inputs : Each (VariableSound b) f.inputs
  pub locals : Each (VariableSound b) f.locals
  pub body : OwnsBlock b f.body
  pub distinct : AreDistinct (declared_names f)
  pub taken : (name : List ℕ) → IsFree name f.names ↔ IsFree name (declared_names f)

-- An edge or a name.
abbrev pub is_event : ExprTree → Bool
is_event (NameTree name type) = true
is_event (PosEdgeTree operand) = true
is_event (NegEdgeTree operand) = true
is_event _ = false

-- The expression is the file's, and an edge or a name.
abbrev pub EventSound : Bench → Expr → Type 0
EventSound b e = OwnsExpr b e × IsTrue (is_event (tree_of b e))

pub record AlwaysSound (b : Bench) (a : AlwaysRecord) : Type 0 where
  pub events : Each (EventSound b) a.events
  pub block : OwnsBlock b a.block

abbrev pub ParameterPortSound : Bench → ParameterPort → Type 0
ParameterPortSound b p = IfSome p.data_type (OwnsType b) × OwnsExpr b p.value

pub record ModuleSound (b : Bench) (m : ModuleRecord) : Type 0 where
  pub parameters : Each (ParameterPortSound b) m.parameters
  pub ports : Each (OwnsPort b) m.ports
  pub members : Each (MemberSound b) m.members

abbrev pub EntrySound : Bench → FileItem → Type 0
EntrySound b (ModuleEntry m) = OwnsModule b m
EntrySound b (FileTypedefEntry t) = TypedefSound b t
EntrySound b _ = Unit {0}

pub record RecordsSound (b : Bench) : Type 0 where
  pub ports : Each (PortSound b) b.ports
  pub assignments : Each (AssignmentSound b) b.assignments
  pub modules : Each (ModuleSound b) b.modules
  pub definitions : Each (DefinitionSound b) b.definitions
  pub artifacts : Each (ArtifactSound b) b.artifacts
  pub instances : Each (InstanceSound b) b.instances
  pub items : Each (EntrySound b) b.items
  pub nests : NestsSound b 0 b.nests
  pub functions : Each (FunctionSound b) b.functions
  pub always_blocks : Each (AlwaysSound b) b.always_blocks

-- The names that a module declares are distinct, and those are taken in it.
abbrev pub NamesAreSound : Bench → Type 0
NamesAreSound b = Each (NamesSound b.ports b.functions) b.modules

-- The kinds that the grammar has stand in the file, and each parameter of an instance has a value.
abbrev pub DeclaresOwnKinds : ModuleRecord → Type 0
DeclaresOwnKinds m = Each HasOwnKind m.members

abbrev pub HasLocalKinds : FunctionRecord → Type 0
HasLocalKinds f = Each HasLocalKind f.locals

abbrev pub GivesValues : InstanceRecord → Type 0
GivesValues i = Each HasValue i.parameters

pub record KindsSound (modules : List ModuleRecord) (functions : List FunctionRecord) (instances : List InstanceRecord) : Type 0 where
  pub declarations : Each DeclaresOwnKinds modules
  pub locals : Each HasLocalKinds functions
  pub values : Each GivesValues instances

-- What records, lists and the detached block name is the file's; names are distinct, parents single, kinds as the grammar has them.
pub record FileSound (b : Bench) : Type 0 where
  pub records : RecordsSound b
  pub detached : IfSome b.detached (OwnsBlock b)
  pub names : NamesAreSound b
  pub parents : HasOneParent b
  pub kinds : KindsSound b.modules b.functions b.instances
