-- The tree of a file, without handles.
use Rattle.std.specs.Prelude.{ℕ, zero, suc, Bool, true, false, List, [], ◌∷◌, map, length, Option, Some, None, slice_get}
use Rattle.vast_literal.specs.Tree.{ExprTree, StatementTree, AssignTree, TaskTree, CommentTree, BlankTree, InlineTree, ConditionalTree, CaseTree, ForTree, Statements, NoStatements, MoreStatements, Alternates, NoElse, ElseIf, Else, CaseArms, NoCaseArms, CaseArm, MemberTree, DeclarationMember, AssignMember, ParameterMember, CommentMember, BlankMember, ImportMember, TypedefMember, InlineMember, MacroMember, InstanceMember, AlwaysMember, ConditionalMember, FunctionMember, LoopMember, Members, NoMembers, MoreMembers, MissingType, Declaration, ParameterName, PlainParameter, IntParameter, DefinedParameter, TypedefTree, EnumTree, StructTree, Connection as ConnectionTree, PortTree, ParameterPortTree, ModuleTree, FileItemTree, ModuleItem, IncludeItem, ImportItem, TypedefItem, CommentItem, BlankItem, FileTree}
use Rattle.vast_literal.specs.declared.kind.AssignmentForm.{AssignmentForm as AssignForm}
use Rattle.vast_literal.specs.declared.kind.AssignmentForm.TheVariants.{Blocking, Nonblocking, Continuous}
use Rattle.vast_literal.specs.declared.kind.DataKind.TheVariants.{Wire as WireKind}
use Rattle.vast_literal.specs.declared.kind.ModulePortDirection.TheVariants.{Input as InputDirection}
use Rattle.vast_core.specs.Handles.{Def, VastDataType, ModulePort, VastStatementBlock}
use Rattle.vast_literal.specs.declared.kind.DataKind.{DataKind}
use Rattle.vast_core.specs.declared.node.ElseIf.{ElseIf as ElseIfNode}
use Rattle.vast_core.specs.declared.node.CaseArm.{CaseArm as CaseArmNode}
use Rattle.vast_core.specs.Nodes.{maybe_type_in, maybe_expr_in}
use Rattle.vast_core.specs.Records.{Assignment, Port, ParameterPort, ModuleRecord, ParameterForm, PlainForm, IntForm, DefinedForm, Member, DeclarationEntry, AssignmentEntry, ParameterEntry, BlankEntry, CommentEntry, ImportEntry, TypedefEntry, InlineEntry, MacroEntry, InstanceEntry, FunctionEntry, AlwaysEntry, ConditionalEntry, LoopEntry, FileItem, ModuleEntry, IncludeEntry, FileImportEntry, FileTypedefEntry, FileCommentEntry, FileBlankEntry, DeclaredType, EnumType, StructType, Definition, Artifact, BlankArtifact, CommentArtifact, InlineArtifact, MacroArtifact, Connection, InstanceRecord}
use Rattle.vast_core.specs.Nests.{Statement, AssignStatement, ContinuousStatement, TaskStatement, ConditionalStatement, CasesStatement, ForStatement, BlankStatement, CommentStatement, InlineStatement, NestRecord, BlockRecord, ConditionalNestRecord, CaseNestRecord, LoopNestRecord, FunctionVariable, FunctionRecord, AlwaysRecord}
use Rattle.vast_core.specs.Bench.{Bench, tree_of, type_of, maybe_tree_of, trees_of}

abbrev pub declared : Bench → DataKind → List ℕ → VastDataType → Declaration
declared b kind name data_type = record { kind = kind; type = type_of b data_type; name = name }

abbrev pub missing_declaration : Declaration
missing_declaration = record { kind = WireKind; type = MissingType; name = [] }

-- The declaration of a definition.
abbrev pub definition_tree : Bench → Option Definition → Declaration
definition_tree b None = missing_declaration
definition_tree b (Some d) = declared b d.kind d.name d.data_type

abbrev pub form_tree : Bench → ParameterForm → ParameterName
form_tree b (PlainForm name) = PlainParameter name
form_tree b (IntForm name) = IntParameter name
form_tree b (DefinedForm d) = DefinedParameter (definition_tree b (slice_get b.definitions d.id.index))

abbrev pub assignment_member : Bench → Option Assignment → MemberTree
assignment_member b None = BlankMember
assignment_member b (Some a) = AssignMember (tree_of b a.lhs) (tree_of b a.rhs)

abbrev pub artifact_member : Bench → Option Artifact → MemberTree
artifact_member b None = BlankMember
artifact_member b (Some BlankArtifact) = BlankMember
artifact_member b (Some (CommentArtifact text)) = CommentMember text
artifact_member b (Some (InlineArtifact text)) = InlineMember text
artifact_member b (Some (MacroArtifact call semicolon)) = MacroMember (tree_of b (record { id = call.id })) semicolon

abbrev pub connection_tree : Bench → Connection → ConnectionTree
connection_tree b c = record { name = c.name; value = maybe_expr_in b.nodes c.value }

abbrev pub instance_member : Bench → Option InstanceRecord → MemberTree
instance_member b None = BlankMember
instance_member b (Some i) = InstanceMember (record { module_name = i.module_name; instance_name = i.instance_name; parameters = map (connection_tree b) i.parameters; connections = map (connection_tree b) i.connections })

abbrev pub field_tree : Bench → Def → Declaration
field_tree b d = definition_tree b (slice_get b.definitions d.id.index)

abbrev pub typedef_tree : Bench → DeclaredType → TypedefTree
typedef_tree b (EnumType data_type name entries) = EnumTree (type_of b data_type) name (map (connection_tree b) entries)
typedef_tree b (StructType name fields) = StructTree name (map (field_tree b) fields)

-- Statements, containers and members are made of older parts and of newer containers; f has the trees of the containers.

-- The tree of a container: a block, the parts of a conditional, a case statement, or a loop.
pub data Family : Type 0 where
  BlockFamily : Statements → Family
  ConditionalFamily : (condition : ExprTree) (consequent : Statements) (alternates : Alternates) → Family
  CaseFamily : StatementTree → Family
  LoopFamily : MemberTree → Family
  NoFamily : Family

abbrev pub block_in : Family → Statements
block_in (BlockFamily held) = held
block_in _ = NoStatements

abbrev pub conditional_statement : Family → StatementTree
conditional_statement (ConditionalFamily condition consequent alternates) = ConditionalTree condition consequent alternates
conditional_statement _ = BlankTree

abbrev pub case_statement : Family → StatementTree
case_statement (CaseFamily s) = s
case_statement _ = BlankTree

abbrev pub conditional_member : Family → MemberTree
conditional_member (ConditionalFamily condition consequent alternates) = ConditionalMember condition consequent alternates
conditional_member _ = BlankMember

abbrev pub loop_member : Family → MemberTree
loop_member (LoopFamily m) = m
loop_member _ = BlankMember

abbrev pub form_of : Bool → AssignForm
form_of true = Nonblocking
form_of false = Blocking

abbrev pub assigned_tree : Bench → Option Assignment → StatementTree
assigned_tree b None = BlankTree
assigned_tree b (Some a) = AssignTree (form_of a.nonblocking) (tree_of b a.lhs) (tree_of b a.rhs)

abbrev pub continuous_tree : Bench → Option Assignment → StatementTree
continuous_tree b None = BlankTree
continuous_tree b (Some a) = AssignTree Continuous (tree_of b a.lhs) (tree_of b a.rhs)

abbrev pub statement_in : Bench → (ℕ → Family) → Statement → StatementTree
statement_in b f (AssignStatement s) = assigned_tree b (slice_get b.assignments s.id.index)
statement_in b f (ContinuousStatement s) = continuous_tree b (slice_get b.assignments s.id.index)
statement_in b f (TaskStatement call) = TaskTree (tree_of b call)
statement_in b f (ConditionalStatement c) = conditional_statement (f c.id.index)
statement_in b f (CasesStatement c) = case_statement (f c.id.index)
statement_in b f (ForStatement l) = ForTree l.index (tree_of b l.start) (tree_of b l.end) (block_in (f l.block.id.index))
statement_in b f BlankStatement = BlankTree
statement_in b f (CommentStatement text) = CommentTree text
statement_in b f (InlineStatement text) = InlineTree text

abbrev pub statements_in : Bench → (ℕ → Family) → List Statement → Statements
statements_in b f [] = NoStatements
statements_in b f (s ∷ ss) = MoreStatements (statement_in b f s) (statements_in b f ss)

abbrev pub otherwise_in : (ℕ → Family) → Option VastStatementBlock → Alternates
otherwise_in f None = NoElse
otherwise_in f (Some c) = Else (block_in (f c.id.index))

abbrev pub alternates_in : Bench → (ℕ → Family) → List ElseIfNode → Option VastStatementBlock → Alternates
alternates_in b f [] otherwise = otherwise_in f otherwise
alternates_in b f (a ∷ arms) otherwise = ElseIf (tree_of b a.condition) (block_in (f a.block.id.index)) (alternates_in b f arms otherwise)

abbrev pub arms_in : Bench → (ℕ → Family) → List CaseArmNode → CaseArms
arms_in b f [] = NoCaseArms
arms_in b f (a ∷ arms) = CaseArm (maybe_tree_of b a.label) (block_in (f a.block.id.index)) (arms_in b f arms)

abbrev pub always_in : Bench → (ℕ → Family) → Option AlwaysRecord → MemberTree
always_in b f None = BlankMember
always_in b f (Some a) = AlwaysMember a.kind (trees_of b a.events) (block_in (f a.block.id.index))

abbrev pub variable_tree : Bench → FunctionVariable → Declaration
variable_tree b v = declared b v.kind v.name v.data_type

abbrev pub function_in : Bench → (ℕ → Family) → Option FunctionRecord → MemberTree
function_in b f None = BlankMember
function_in b f (Some x) = FunctionMember (record { name = x.name; result = type_of b x.result_type; inputs = map (variable_tree b) x.inputs; locals = map (variable_tree b) x.locals; body = block_in (f x.body.id.index) })

-- The tree of a member; what a member names is read where it stands.
abbrev pub member_in : Bench → (ℕ → Family) → Member → MemberTree
member_in b f (DeclarationEntry kind name data_type) = DeclarationMember (declared b kind name data_type)
member_in b f (AssignmentEntry a) = assignment_member b (slice_get b.assignments a.id.index)
member_in b f (ParameterEntry local form value) = ParameterMember local (form_tree b form) (tree_of b value)
member_in b f BlankEntry = BlankMember
member_in b f (CommentEntry a) = artifact_member b (slice_get b.artifacts a.id.index)
member_in b f (ImportEntry package_name) = ImportMember package_name
member_in b f (TypedefEntry t) = TypedefMember (typedef_tree b t)
member_in b f (InlineEntry a) = artifact_member b (slice_get b.artifacts a.id.index)
member_in b f (MacroEntry a) = artifact_member b (slice_get b.artifacts a.id.index)
member_in b f (InstanceEntry i) = instance_member b (slice_get b.instances i.id.index)
member_in b f (FunctionEntry x) = function_in b f (slice_get b.functions x.id.index)
member_in b f (AlwaysEntry a) = always_in b f (slice_get b.always_blocks a.id.index)
member_in b f (ConditionalEntry c) = conditional_member (f c.id.index)
member_in b f (LoopEntry l) = loop_member (f l.id.index)

abbrev pub members_in : Bench → (ℕ → Family) → List Member → Members
members_in b f [] = NoMembers
members_in b f (entry ∷ entries) = MoreMembers (member_in b f entry) (members_in b f entries)

abbrev pub family : Bench → (ℕ → Family) → Option NestRecord → Family
family b f None = NoFamily
family b f (Some (BlockRecord statements)) = BlockFamily (statements_in b f statements)
family b f (Some (ConditionalNestRecord c)) = ConditionalFamily (tree_of b c.condition) (block_in (f c.consequent.id.index)) (alternates_in b f c.else_ifs c.otherwise)
family b f (Some (CaseNestRecord c)) = CaseFamily (CaseTree c.unique c.kind (tree_of b c.selector) (arms_in b f c.arms))
family b f (Some (LoopNestRecord l)) = LoopFamily (LoopMember l.name (tree_of b l.start) (tree_of b l.end) l.label (members_in b f l.members))

-- The tree of container i, this many levels deep.
abbrev pub unfolded : Bench → ℕ → ℕ → Family
unfolded b zero i = NoFamily
unfolded b (suc n) i = family b (unfolded b n) (slice_get b.nests i)

-- The trees of the containers; they nest no deeper than there are containers.
unfoldable pub families : Bench → ℕ → Family
families b i = unfolded b (length b.nests) i

abbrev pub block_tree : Bench → VastStatementBlock → Statements
block_tree b c = block_in (families b c.id.index)

abbrev pub statements_tree : Bench → List Statement → Statements
statements_tree b statements = statements_in b (families b) statements

abbrev pub alternates_tree : Bench → List ElseIfNode → Option VastStatementBlock → Alternates
alternates_tree b arms otherwise = alternates_in b (families b) arms otherwise

abbrev pub case_arms_tree : Bench → List CaseArmNode → CaseArms
case_arms_tree b arms = arms_in b (families b) arms

abbrev pub member_tree : Bench → Member → MemberTree
member_tree b entry = member_in b (families b) entry

abbrev pub members_tree : Bench → List Member → Members
members_tree b entries = members_in b (families b) entries

abbrev pub declared_port : Bench → Port → PortTree
declared_port b p = record { direction = p.direction; declaration = declared b p.kind p.name p.data_type }

abbrev pub maybe_port_tree : Bench → Option Port → PortTree
maybe_port_tree b None = record { direction = InputDirection; declaration = missing_declaration }
maybe_port_tree b (Some p) = declared_port b p

abbrev pub port_tree : Bench → ModulePort → PortTree
port_tree b p = maybe_port_tree b (slice_get b.ports p.id.index)

abbrev pub parameter_port_tree : Bench → ParameterPort → ParameterPortTree
parameter_port_tree b p = record { name = p.name; type = maybe_type_in b.nodes p.data_type; value = tree_of b p.value }

abbrev pub module_tree : Bench → ModuleRecord → ModuleTree
module_tree b m = record { name = m.name; parameters = map (parameter_port_tree b) m.parameters; ports = map (port_tree b) m.ports; members = members_tree b m.members }

abbrev pub maybe_module_tree : Bench → Option ModuleRecord → FileItemTree
maybe_module_tree b None = BlankItem
maybe_module_tree b (Some m) = ModuleItem (module_tree b m)

abbrev pub item_tree : Bench → FileItem → FileItemTree
item_tree b (ModuleEntry m) = maybe_module_tree b (slice_get b.modules m.id.index)
item_tree b (IncludeEntry path) = IncludeItem path
item_tree b (FileImportEntry package_name) = ImportItem package_name
item_tree b (FileTypedefEntry t) = TypedefItem (typedef_tree b t)
item_tree b (FileCommentEntry text) = CommentItem text
item_tree b FileBlankEntry = BlankItem

-- The dialect and the items of the file, with all that they hold.
unfoldable pub tree : Bench → FileTree
tree b = record { dialect = b.file_type; items = map (item_tree b) b.items }
