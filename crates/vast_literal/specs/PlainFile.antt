-- Plain files: all names that are printed are identifiers and no keywords, and nothing stands where it has no meaning.
use Rattle.std.specs.Prelude.{ℕ, List, [], ◌∷◌, Bool, true, false, not, ◌&&◌, ◌||◌, eqb, Option, Some, None, if◌then◌else◌}
use Rattle.vast_literal.specs.Tree.{ExprTree, NameTree, IndexTree, SliceTree, PartSelectTree, MemberOfTree, ConcatTree, PosEdgeTree, NegEdgeTree, MacroTree, CallTree, TypeTree, ScalarTree, VectorTree, IntegerTree, IntTree}
use Rattle.vast_literal.specs.Tree.{MaybeExpr, NoExpr, SomeExpr, Exprs, NoExprs, MoreExprs, MaybeType, Untyped, Typed, Declaration}
use Rattle.vast_literal.specs.Tree.{StatementTree, AssignTree, TaskTree, InlineTree, ConditionalTree, CaseTree, ForTree, Statements, NoStatements, MoreStatements, Alternates, NoElse, ElseIf, Else, CaseArms, NoCaseArms, CaseArm}
use Rattle.vast_literal.specs.Tree.{AlwaysWord, Kind, UserKind, UntypedEnumKind, ParameterName, PlainParameter, IntParameter, DefinedParameter, Connection, InstanceTree, FunctionTree, TypedefTree, EnumTree, StructTree}
use Rattle.vast_literal.specs.Tree.{MemberTree, DeclarationMember, AssignMember, ParameterMember, InlineMember, ImportMember, TypedefMember, MacroMember, InstanceMember, AlwaysMember, ConditionalMember, FunctionMember, LoopMember, Members, NoMembers, MoreMembers}
use Rattle.vast_literal.specs.Tree.{PortTree, ParameterPortTree, ModuleTree, FileItemTree, ModuleItem, IncludeItem, ImportItem, TypedefItem, FileTree}
use Rattle.vast_literal.specs.LiteralToken.{every}
use Rattle.vast_literal.specs.Shape.{has_events, base_of, is_external}
use Rattle.vast_literal.specs.Plain.{is_plain_name, is_plain, is_plain_type}

abbrev pub is_plain_maybe : MaybeExpr → Bool
is_plain_maybe NoExpr = true
is_plain_maybe (SomeExpr value) = is_plain value

-- A name, a select, a member or a concatenation.
abbrev pub is_left_side : ExprTree → Bool
is_left_side e = elim e [ NameTree name type ↦ true | IndexTree subject index ↦ true | SliceTree subject high low ↦ true | PartSelectTree subject start width ↦ true | MemberOfTree subject name ↦ true | ConcatTree count parts ↦ true | _ ↦ false ]

-- A call of a function or of a task, or the use of a macro.
abbrev pub is_call : ExprTree → Bool
is_call e = elim e [ CallTree name arguments ↦ true | MacroTree name given ↦ true | _ ↦ false ]

abbrev pub is_plain_assignment : (left right : ExprTree) → Bool
is_plain_assignment left right = (is_left_side left && is_plain left) && is_plain right

abbrev pub is_plain_declaration : TypeTree → (name : List ℕ) → Bool
is_plain_declaration type name = is_plain_name name && is_plain_type type

abbrev pub is_plain_declared : Declaration → Bool
is_plain_declared d = is_plain_declaration d.type d.name

-- A kind that is written as a word.
abbrev pub is_worded : Kind → Bool
is_worded UserKind = false
is_worded UntypedEnumKind = false
is_worded _ = true

-- Before the name that a module declares stands a kind's word or a type's name.
abbrev pub is_plain_variable : Declaration → Bool
is_plain_variable d = (is_worded d.kind || is_external (base_of d.type)) && is_plain_declared d

abbrev mutual
  -- No inline text stands in the statement, and its names are plain.
  pub is_plain_statement : StatementTree → Bool
  is_plain_statement (AssignTree form left right) = is_plain_assignment left right
  is_plain_statement (TaskTree call) = is_call call && is_plain call
  is_plain_statement (InlineTree text) = false
  is_plain_statement (ConditionalTree condition consequent alternates) = is_plain condition && (are_plain_statements consequent && are_plain_alternates alternates)
  is_plain_statement (CaseTree unique word selector arms) = is_plain selector && are_plain_arms arms
  is_plain_statement (ForTree index start end body) = is_plain_name index && ((is_plain start && is_plain end) && are_plain_statements body)
  is_plain_statement _ = true

  pub are_plain_statements : Statements → Bool
  are_plain_statements NoStatements = true
  are_plain_statements (MoreStatements statement statements) = is_plain_statement statement && are_plain_statements statements

  pub are_plain_alternates : Alternates → Bool
  are_plain_alternates NoElse = true
  are_plain_alternates (ElseIf condition block alternates) = is_plain condition && (are_plain_statements block && are_plain_alternates alternates)
  are_plain_alternates (Else block) = are_plain_statements block

  pub are_plain_arms : CaseArms → Bool
  are_plain_arms NoCaseArms = true
  are_plain_arms (CaseArm label block arms) = is_plain_maybe label && (are_plain_statements block && are_plain_arms arms)

-- An edge stands directly in the list of what an always block waits for.
abbrev pub is_plain_event : ExprTree → Bool
is_plain_event (PosEdgeTree operand) = is_plain operand
is_plain_event (NegEdgeTree operand) = is_plain operand
is_plain_event other = is_plain other

abbrev pub are_plain_events : Exprs → Bool
are_plain_events NoExprs = true
are_plain_events (MoreExprs event events) = is_plain_event event && are_plain_events events

-- The events that are printed are plain.
abbrev pub are_plain_awaited : AlwaysWord → Exprs → Bool
are_plain_awaited word events = if has_events word then are_plain_events events else true

abbrev pub is_plain_parameter_name : ParameterName → Bool
is_plain_parameter_name (PlainParameter name) = is_plain_name name
is_plain_parameter_name (IntParameter name) = is_plain_name name
is_plain_parameter_name (DefinedParameter d) = is_plain_declared d

abbrev pub are_plain_connections : List Connection → Bool
are_plain_connections connections = every (λ c. is_plain_name c.name && is_plain_maybe c.value) connections

abbrev pub is_plain_instance : InstanceTree → Bool
is_plain_instance i = (is_plain_name i.module_name && is_plain_name i.instance_name) && (are_plain_connections i.parameters && are_plain_connections i.connections)

abbrev pub is_plain_function : FunctionTree → Bool
is_plain_function f = is_plain_declaration f.result f.name && (every is_plain_declared f.inputs && (every is_plain_declared f.locals && are_plain_statements f.body))

abbrev pub is_plain_label : Option (List ℕ) → Bool
is_plain_label None = true
is_plain_label (Some label) = is_plain_name label

-- A bit, a vector or an integer.
abbrev pub is_built_in : TypeTree → Bool
is_built_in type = elim type [ ScalarTree signed ↦ true | VectorTree width value signed ↦ true | IntegerTree signed ↦ true | IntTree signed ↦ true | _ ↦ false ]

abbrev pub is_plain_typedef : TypedefTree → Bool
is_plain_typedef (EnumTree type name entries) = is_plain_declaration type name && (is_built_in type && are_plain_connections entries)
is_plain_typedef (StructTree name fields) = is_plain_name name && every is_plain_declared fields

abbrev mutual
  pub is_plain_member : MemberTree → Bool
  is_plain_member (DeclarationMember d) = is_plain_variable d
  is_plain_member (AssignMember left right) = is_plain_assignment left right
  is_plain_member (ParameterMember local parameter value) = is_plain_parameter_name parameter && is_plain value
  is_plain_member (InlineMember text) = false
  is_plain_member (ImportMember package_name) = is_plain_name package_name
  is_plain_member (TypedefMember t) = is_plain_typedef t
  is_plain_member (MacroMember call semicolon) = is_plain call
  is_plain_member (InstanceMember i) = is_plain_instance i
  is_plain_member (AlwaysMember word events body) = are_plain_awaited word events && are_plain_statements body
  is_plain_member (ConditionalMember condition consequent alternates) = is_plain condition && (are_plain_statements consequent && are_plain_alternates alternates)
  is_plain_member (FunctionMember f) = is_plain_function f
  is_plain_member (LoopMember genvar start end label members) = (is_plain_name genvar && is_plain_label label) && ((is_plain start && is_plain end) && are_plain_members members)
  is_plain_member _ = true

  pub are_plain_members : Members → Bool
  are_plain_members NoMembers = true
  are_plain_members (MoreMembers member members) = is_plain_member member && are_plain_members members

abbrev pub are_plain_ports : List PortTree → Bool
are_plain_ports ports = every (λ p. is_plain_declared p.declaration) ports

abbrev pub is_plain_typed : MaybeType → (name : List ℕ) → Bool
is_plain_typed Untyped name = is_plain_name name
is_plain_typed (Typed type) name = is_plain_declaration type name

abbrev pub are_plain_parameters : List ParameterPortTree → Bool
are_plain_parameters parameters = every (λ p. is_plain_typed p.type p.name && is_plain p.value) parameters

abbrev pub is_plain_module : ModuleTree → Bool
is_plain_module m = is_plain_name m.name && (are_plain_parameters m.parameters && (are_plain_ports m.ports && are_plain_members m.members))

-- A byte other than a quote, a backslash and a line break.
abbrev pub is_path_byte : ℕ → Bool
is_path_byte c = not (eqb c 34 || (eqb c 92 || eqb c 10))

abbrev pub are_plain_items : List FileItemTree → Bool
are_plain_items [] = true
are_plain_items (ModuleItem m ∷ items) = is_plain_module m && are_plain_items items
are_plain_items (IncludeItem path ∷ items) = every is_path_byte path && are_plain_items items
are_plain_items (ImportItem package_name ∷ items) = is_plain_name package_name && are_plain_items items
are_plain_items (TypedefItem t ∷ items) = is_plain_typedef t && are_plain_items items
are_plain_items (_ ∷ items) = are_plain_items items

-- The names of the file's modules, instances, ports, connections, parameters, labels, loops, packages, types and macros are plain, no
-- inline text stands in it, edges stand only in the lists of events, left sides are names, selects, members and concatenations, what
-- stands as a statement by itself is a call, enumerations are over bits, vectors and integers, and what a module declares without a
-- kind has a type's name. What isn't printed is not asked: the types of names, and events that aren't listed.
abbrev pub is_plain_file : FileTree → Bool
is_plain_file f = are_plain_items f.items
