-- The normal form of a file's tree: what of it the tokens of its text tell. It tells of plain files alone (`is_plain_file`): in
-- others an inline text, which may stand for anything, is left out, and a name that is no identifier stands as it is written.
use Rattle.std.specs.Prelude.{ℕ, eqb, ℤ, pos, ◌-ℤ◌, Bool, cond, List, [], ◌∷◌, ◌++◌, map, codes, Option, Some, None, if◌then◌else◌}
use Rattle.std.specs.Fmt.{signed_decimal}
use Rattle.vast_literal.specs.Tokens.{Minus, Key, CaseKey, CasezKey, CasexKey, WireKey, RegKey, LogicKey, IntegerKey, IntKey, GenvarKey, ParameterKey, LocalparamKey, PosedgeKey, NegedgeKey, InputKey, OutputKey, InOutKey}
use Rattle.vast_literal.specs.Tree.{Dialect, VerilogDialect, SystemVerilogDialect, ExprTree, NameTree, PosEdgeTree, NegEdgeTree, MacroTree, Exprs, NoExprs, MoreExprs, MaybeExpr, NoExpr, SomeExpr, MaybeExprs, NoArguments, SomeArguments, MaybeType, Untyped, Typed}
use Rattle.vast_literal.specs.Tree.{TypeTree, ScalarTree, VectorTree, IntegerTree, IntTree, ExternalTree, PackageTree}
use Rattle.vast_literal.specs.Tree.{Kind, RegKind, WireKind, LogicKind, IntegerKind, IntKind, GenvarKind, Declaration}
use Rattle.vast_literal.specs.Tree.{AssignForm, Blocking, Nonblocking, Continuous, CaseWord, CaseExact, CaseZ, CaseX, StatementTree, AssignTree, TaskTree, ConditionalTree, CaseTree, ForTree, Statements, NoStatements, MoreStatements, Alternates, NoElse, ElseIf, Else, CaseArms, NoCaseArms, CaseArm}
use Rattle.vast_literal.specs.Tree.{AlwaysWord, ParameterName, PlainParameter, IntParameter, DefinedParameter, Connection, FunctionTree, TypedefTree, EnumTree, StructTree}
use Rattle.vast_literal.specs.Tree.{MemberTree, DeclarationMember, AssignMember, ParameterMember, ImportMember, TypedefMember, MacroMember, InstanceMember, AlwaysMember, ConditionalMember, FunctionMember, LoopMember, Members, NoMembers, MoreMembers}
use Rattle.vast_literal.specs.Tree.{PortDirection, InputDirection, OutputDirection, InOutDirection, PortTree, ParameterPortTree, ModuleTree, FileItemTree, ModuleItem, IncludeItem, ImportItem, TypedefItem, FileTree}
use Rattle.vast_literal.specs.Shape.{literal_value, base_of, packed_dimensions, unpacked_dimensions, port_kind, base_kind, result_kind, name_alone, has_events}
use Rattle.vast_literal.specs.NormalExpr.{NormalExpr, Name, Literal, Binary, NormalExprs, normal_literal, scalar_sign, integer_sign, normal, normals}
use Rattle.vast_literal.specs.NormalFile.{NormalStatement, BlockingStatement, NonblockingStatement, AssignStatement, TaskStatement, ChoiceStatement, CaseStatement, ForStatement, NormalStatements, Done, Then, Arms, Only, Otherwise, Or, Labels, NoLabels, Label, Group, One, Range, NormalDeclaration, Event, EdgeEvent, NameEvent, NormalConnection, NormalMember, DeclarationPart, AssignPart, ParameterPart, MacroPart, ImportPart, EnumPart, StructPart, InstancePart, AlwaysPart, ConditionalPart, FunctionPart, LoopPart, NormalMembers, NoParts, MoreParts, NormalParameter, NormalPort, NormalModule, NormalItem, ModulePart, IncludePart, FileImportPart, MemberPart, NormalFile}

-- Declarations.

-- The word of a kind; user types and untyped enumerations are written without one.
unfoldable pub kind_key : Kind → Option Key
kind_key RegKind = Some RegKey
kind_key WireKind = Some WireKey
kind_key LogicKind = Some LogicKey
kind_key IntegerKind = Some IntegerKey
kind_key IntKind = Some IntKey
kind_key GenvarKind = Some GenvarKey
kind_key _ = None

unfoldable pub package_of : (base : TypeTree) → Option (List ℕ)
package_of (PackageTree package_name name) = Some package_name
package_of _ = None

unfoldable pub type_name_of : (base : TypeTree) → Option (List ℕ)
type_name_of (ExternalTree name) = Some name
type_name_of (PackageTree package_name name) = Some name
type_name_of _ = None

-- The sign that is written; integers are signed unless they say otherwise.
unfoldable pub sign_of : (base : TypeTree) → Option Key
sign_of (ScalarTree signed) = scalar_sign signed
sign_of (VectorTree width value signed) = scalar_sign signed
sign_of (IntegerTree signed) = integer_sign signed
sign_of (IntTree signed) = integer_sign signed
sign_of _ = None

-- A number as it is written.
abbrev pub number_expr : ℤ → NormalExpr
number_expr number = normal_literal (signed_decimal number)

abbrev pub zero_expr : NormalExpr
zero_expr = Literal (codes "0")

-- A vector's highest index: its width minus one, computed where the width has a value.
unfoldable pub highest_index_expr : ExprTree → Option ℤ → NormalExpr
highest_index_expr width (Some value) = number_expr (value -ℤ pos 1)
highest_index_expr width None = Binary Minus (normal width) (Literal (codes "1"))

unfoldable pub vector_groups : (base : TypeTree) → List Group
vector_groups (VectorTree width value signed) = Range (highest_index_expr width value) zero_expr ∷ []
vector_groups _ = []

-- [d-1:0] for each dimension
unfoldable pub packed_groups : Exprs → List Group
packed_groups NoExprs = []
packed_groups (MoreExprs d ds) = Range (highest_index_expr d (literal_value d)) zero_expr ∷ packed_groups ds

-- [d] in SystemVerilog, [0:d-1] in Verilog
unfoldable pub unpacked_group : Dialect → ExprTree → Group
unpacked_group SystemVerilogDialect d = One (normal d)
unpacked_group VerilogDialect d = Range zero_expr (highest_index_expr d (literal_value d))

unfoldable pub unpacked_groups : Dialect → Exprs → List Group
unpacked_groups dialect NoExprs = []
unpacked_groups dialect (MoreExprs d ds) = unpacked_group dialect d ∷ unpacked_groups dialect ds

unfoldable pub normal_declaration : Dialect → Kind → TypeTree → (name : List ℕ) → NormalDeclaration
normal_declaration dialect kind type name = record {
  kind = kind_key kind;
  package_name = package_of (base_of type);
  type_name = type_name_of (base_of type);
  sign = sign_of (base_of type);
  groups = packed_groups (packed_dimensions type) ++ vector_groups (base_of type);
  name = name;
  behind = unpacked_groups dialect (unpacked_dimensions type);
}

-- A name and nothing else.
abbrev pub named_declaration : (kind : Option Key) (name : List ℕ) → NormalDeclaration
named_declaration kind name = record { kind = kind; package_name = None; type_name = None; sign = None; groups = []; name = name; behind = [] }

unfoldable pub normal_declared : Dialect → Declaration → NormalDeclaration
normal_declared dialect d = normal_declaration dialect d.kind d.type d.name

unfoldable pub normal_port_declaration : Dialect → Declaration → NormalDeclaration
normal_port_declaration dialect d = normal_declaration dialect (port_kind d.kind d.type) d.type d.name

-- Statements. Comments, blank lines and inline texts have no normal form.

unfoldable pub case_key : CaseWord → Key
case_key CaseExact = CaseKey
case_key CaseZ = CasezKey
case_key CaseX = CasexKey

unfoldable pub normal_assignment : AssignForm → (left right : NormalExpr) → NormalStatement
normal_assignment Blocking left right = BlockingStatement left right
normal_assignment Nonblocking left right = NonblockingStatement left right
normal_assignment Continuous left right = AssignStatement left right

-- A call as a statement. A task's name alone is a name, but a system task's is a call of nothing.
unfoldable pub normal_task : (alone : Option (List ℕ)) → (call : NormalExpr) → NormalExpr
normal_task None call = call
normal_task (Some []) call = Name []
normal_task (Some (c ∷ cs)) call = cond (eqb c 36) call (Name (c ∷ cs))

unfoldable pub normal_label : MaybeExpr → Option NormalExpr
normal_label NoExpr = None
normal_label (SomeExpr label) = Some (normal label)

unfoldable mutual
  -- A statement before others.
  pub normal_before : StatementTree → NormalStatements → NormalStatements
  normal_before (AssignTree form left right) rest = Then (normal_assignment form (normal left) (normal right)) rest
  normal_before (TaskTree call) rest = Then (TaskStatement (normal_task (name_alone call) (normal call))) rest
  normal_before (ConditionalTree condition consequent alternates) rest = Then (ChoiceStatement (normal_choice (normal condition) (normal_statements consequent) alternates)) rest
  normal_before (CaseTree unique word selector arms) rest = Then (CaseStatement unique (case_key word) (normal selector) (normal_arms arms)) rest
  normal_before (ForTree index start end body) rest = Then (ForStatement index (normal start) (normal end) (normal_statements body)) rest
  normal_before _ rest = rest

  pub normal_statements : Statements → NormalStatements
  normal_statements NoStatements = Done
  normal_statements (MoreStatements statement statements) = normal_before statement (normal_statements statements)

  -- A condition and its block, with what follows the block.
  pub normal_choice : NormalExpr → NormalStatements → Alternates → Arms
  normal_choice condition block NoElse = Only condition block
  normal_choice condition block (ElseIf next next_block rest) = Or condition block (normal_choice (normal next) (normal_statements next_block) rest)
  normal_choice condition block (Else last_block) = Otherwise condition block (normal_statements last_block)

  pub normal_arms : CaseArms → Labels
  normal_arms NoCaseArms = NoLabels
  normal_arms (CaseArm label block arms) = Label (normal_label label) (normal_statements block) (normal_arms arms)

-- Members.

unfoldable pub parameter_key : (local : Bool) → Key
parameter_key local = if local then LocalparamKey else ParameterKey

unfoldable pub normal_parameter_name : Dialect → ParameterName → NormalDeclaration
normal_parameter_name dialect (PlainParameter name) = named_declaration None name
normal_parameter_name dialect (IntParameter name) = named_declaration (Some IntKey) name
normal_parameter_name dialect (DefinedParameter d) = normal_declared dialect d

unfoldable pub normal_arguments : MaybeExprs → Option NormalExprs
normal_arguments NoArguments = None
normal_arguments (SomeArguments arguments) = Some (normals arguments)

-- A macro that stands as a member. Nothing else stands there in a well-formed file: a macro of no bytes says nothing.
unfoldable pub normal_macro : ExprTree → (semicolon : Bool) → NormalMember
normal_macro (MacroTree name arguments) semicolon = MacroPart name (normal_arguments arguments) semicolon
normal_macro _ semicolon = MacroPart [] None semicolon

unfoldable pub normal_connection : Connection → NormalConnection
normal_connection c = record { name = c.name; value = normal_label c.value }

-- An event is an edge of an expression or a name. No other stands in a well-formed file: a name of no bytes says nothing.
unfoldable pub normal_event : ExprTree → Event
normal_event (PosEdgeTree operand) = EdgeEvent PosedgeKey (normal operand)
normal_event (NegEdgeTree operand) = EdgeEvent NegedgeKey (normal operand)
normal_event (NameTree name type) = NameEvent name
normal_event _ = NameEvent []

unfoldable pub normal_events : Exprs → List Event
normal_events NoExprs = []
normal_events (MoreExprs event events) = normal_event event ∷ normal_events events

-- A block without a list of events has none.
unfoldable pub normal_always : AlwaysWord → Exprs → NormalStatements → NormalMember
normal_always word events body = AlwaysPart word (if has_events word then normal_events events else []) body

unfoldable pub normal_function : Dialect → FunctionTree → NormalMember
normal_function dialect f = FunctionPart (normal_declaration dialect (result_kind dialect f.result) f.result f.name) (map (normal_port_declaration dialect) f.inputs) (map (normal_declared dialect) f.locals) (normal_statements f.body)

-- An enumeration is a declaration of its type's kind, with entries.
unfoldable pub normal_typedef : Dialect → TypedefTree → NormalMember
normal_typedef dialect (EnumTree type name entries) = EnumPart (normal_declaration dialect (base_kind (base_of type)) type name) (map normal_connection entries)
normal_typedef dialect (StructTree name fields) = StructPart name (map (normal_declared dialect) fields)

unfoldable mutual
  -- A member before others.
  pub normal_member_before : Dialect → MemberTree → NormalMembers → NormalMembers
  normal_member_before dialect (DeclarationMember d) rest = MoreParts (DeclarationPart (normal_declared dialect d)) rest
  normal_member_before dialect (AssignMember left right) rest = MoreParts (AssignPart (normal left) (normal right)) rest
  normal_member_before dialect (ParameterMember local parameter value) rest = MoreParts (ParameterPart (parameter_key local) (normal_parameter_name dialect parameter) (normal value)) rest
  normal_member_before dialect (ImportMember package_name) rest = MoreParts (ImportPart package_name) rest
  normal_member_before dialect (TypedefMember t) rest = MoreParts (normal_typedef dialect t) rest
  normal_member_before dialect (MacroMember call semicolon) rest = MoreParts (normal_macro call semicolon) rest
  normal_member_before dialect (InstanceMember i) rest = MoreParts (InstancePart i.module_name (map normal_connection i.parameters) i.instance_name (map normal_connection i.connections)) rest
  normal_member_before dialect (AlwaysMember word events body) rest = MoreParts (normal_always word events (normal_statements body)) rest
  normal_member_before dialect (ConditionalMember condition consequent alternates) rest = MoreParts (ConditionalPart (normal_choice (normal condition) (normal_statements consequent) alternates)) rest
  normal_member_before dialect (FunctionMember f) rest = MoreParts (normal_function dialect f) rest
  normal_member_before dialect (LoopMember genvar start end label members) rest = MoreParts (LoopPart genvar (normal start) (normal end) label (normal_members dialect members)) rest
  normal_member_before dialect _ rest = rest

  pub normal_members : Dialect → Members → NormalMembers
  normal_members dialect NoMembers = NoParts
  normal_members dialect (MoreMembers member members) = normal_member_before dialect member (normal_members dialect members)

-- Modules and files.

unfoldable pub direction_key : PortDirection → Key
direction_key InputDirection = InputKey
direction_key OutputDirection = OutputKey
direction_key InOutDirection = InOutKey

unfoldable pub normal_port : Dialect → PortTree → NormalPort
normal_port dialect p = record { direction = direction_key p.direction; declaration = normal_port_declaration dialect p.declaration }

-- A typed parameter is a declaration of its type's kind, an untyped one a name.
unfoldable pub normal_typed : Dialect → MaybeType → (name : List ℕ) → NormalDeclaration
normal_typed dialect Untyped name = named_declaration None name
normal_typed dialect (Typed type) name = normal_declaration dialect (base_kind (base_of type)) type name

unfoldable pub normal_parameter : Dialect → ParameterPortTree → NormalParameter
normal_parameter dialect p = record { declaration = normal_typed dialect p.type p.name; value = normal p.value }

unfoldable pub normal_module : Dialect → ModuleTree → NormalModule
normal_module dialect m = record { name = m.name; parameters = map (normal_parameter dialect) m.parameters; ports = map (normal_port dialect) m.ports; members = normal_members dialect m.members }

-- An item before others.
unfoldable pub normal_item_before : Dialect → FileItemTree → List NormalItem → List NormalItem
normal_item_before dialect (ModuleItem m) rest = ModulePart (normal_module dialect m) ∷ rest
normal_item_before dialect (IncludeItem path) rest = IncludePart path ∷ rest
normal_item_before dialect (ImportItem package_name) rest = FileImportPart package_name ∷ rest
normal_item_before dialect (TypedefItem t) rest = MemberPart (normal_typedef dialect t) ∷ rest
normal_item_before dialect _ rest = rest

unfoldable pub normal_items : Dialect → List FileItemTree → List NormalItem
normal_items dialect [] = []
normal_items dialect (item ∷ items) = normal_item_before dialect item (normal_items dialect items)

-- The normal form of a file. Of a file that is not plain or not well formed it says nothing.
unfoldable pub normal_file : FileTree → NormalFile
normal_file f = record { items = normal_items f.dialect f.items }
