-- Well-formed files: those whose expressions are well formed and whose kinds, events and macros are such. Each file that was built is one.
use Rattle.std.specs.Prelude.{List, [], ◌∷◌, Bool, true, false, ◌&&◌}
use Rattle.vast_literal.specs.Tree.{ExprTree, NameTree, PosEdgeTree, NegEdgeTree, MacroTree, Kind, WireKind, RegKind, LogicKind, UserKind}
use Rattle.vast_literal.specs.Tree.{MaybeExpr, NoExpr, SomeExpr, Exprs, NoExprs, MoreExprs, MaybeType, Untyped, Typed, Declaration}
use Rattle.vast_literal.specs.Tree.{StatementTree, AssignTree, TaskTree, ConditionalTree, CaseTree, ForTree, Statements, NoStatements, MoreStatements, Alternates, NoElse, ElseIf, Else, CaseArms, NoCaseArms, CaseArm}
use Rattle.vast_literal.specs.Tree.{ParameterName, PlainParameter, IntParameter, DefinedParameter, Connection, FunctionTree, TypedefTree, EnumTree, StructTree}
use Rattle.vast_literal.specs.Tree.{MemberTree, DeclarationMember, AssignMember, ParameterMember, TypedefMember, MacroMember, InstanceMember, AlwaysMember, ConditionalMember, FunctionMember, LoopMember, Members, NoMembers, MoreMembers}
use Rattle.vast_literal.specs.Tree.{PortTree, ParameterPortTree, ModuleTree, FileItemTree, ModuleItem, IncludeItem, ImportItem, TypedefItem, CommentItem, BlankItem, FileTree}
use Rattle.vast_literal.specs.WellFormed.{is_well_formed, is_well_formed_type}

abbrev pub is_well_formed_maybe : MaybeExpr → Bool
is_well_formed_maybe NoExpr = true
is_well_formed_maybe (SomeExpr value) = is_well_formed value

-- The kinds of a module's own declarations, and those of a function's locals.
abbrev pub is_own_kind : Kind → Bool
is_own_kind WireKind = true
is_own_kind RegKind = true
is_own_kind LogicKind = true
is_own_kind UserKind = true
is_own_kind _ = false

abbrev pub is_local_word : Kind → Bool
is_local_word RegKind = true
is_local_word LogicKind = true
is_local_word _ = false

abbrev pub is_macro : ExprTree → Bool
is_macro (MacroTree name _) = true
is_macro _ = false

abbrev mutual
  pub is_well_formed_statement : StatementTree → Bool
  is_well_formed_statement (AssignTree form left right) = is_well_formed left && is_well_formed right
  is_well_formed_statement (TaskTree call) = is_well_formed call
  is_well_formed_statement (ConditionalTree condition consequent alternates) = is_well_formed condition && (are_well_formed_statements consequent && are_well_formed_alternates alternates)
  is_well_formed_statement (CaseTree unique word selector arms) = is_well_formed selector && are_well_formed_arms arms
  is_well_formed_statement (ForTree index start end body) = (is_well_formed start && is_well_formed end) && are_well_formed_statements body
  is_well_formed_statement _ = true

  pub are_well_formed_statements : Statements → Bool
  are_well_formed_statements NoStatements = true
  are_well_formed_statements (MoreStatements statement statements) = is_well_formed_statement statement && are_well_formed_statements statements

  pub are_well_formed_alternates : Alternates → Bool
  are_well_formed_alternates NoElse = true
  are_well_formed_alternates (ElseIf condition block alternates) = is_well_formed condition && (are_well_formed_statements block && are_well_formed_alternates alternates)
  are_well_formed_alternates (Else block) = are_well_formed_statements block

  pub are_well_formed_arms : CaseArms → Bool
  are_well_formed_arms NoCaseArms = true
  are_well_formed_arms (CaseArm label block arms) = is_well_formed_maybe label && (are_well_formed_statements block && are_well_formed_arms arms)

-- An edge or a name.
abbrev pub is_well_formed_event : ExprTree → Bool
is_well_formed_event (PosEdgeTree operand) = is_well_formed operand
is_well_formed_event (NegEdgeTree operand) = is_well_formed operand
is_well_formed_event (NameTree name type) = true
is_well_formed_event _ = false

abbrev pub are_well_formed_events : Exprs → Bool
are_well_formed_events NoExprs = true
are_well_formed_events (MoreExprs event events) = is_well_formed_event event && are_well_formed_events events

abbrev pub is_well_formed_parameter_name : ParameterName → Bool
is_well_formed_parameter_name (PlainParameter name) = true
is_well_formed_parameter_name (IntParameter name) = true
is_well_formed_parameter_name (DefinedParameter d) = is_well_formed_type d.type

abbrev pub are_well_formed_connections : List Connection → Bool
are_well_formed_connections [] = true
are_well_formed_connections (c ∷ cs) = is_well_formed_maybe c.value && are_well_formed_connections cs

-- A value is given to each parameter of an instance.
abbrev pub is_given : MaybeExpr → Bool
is_given NoExpr = false
is_given (SomeExpr value) = is_well_formed value

abbrev pub are_given : List Connection → Bool
are_given [] = true
are_given (c ∷ cs) = is_given c.value && are_given cs

abbrev pub are_well_formed_inputs : List Declaration → Bool
are_well_formed_inputs [] = true
are_well_formed_inputs (d ∷ ds) = is_well_formed_type d.type && are_well_formed_inputs ds

abbrev pub are_well_formed_locals : List Declaration → Bool
are_well_formed_locals [] = true
are_well_formed_locals (d ∷ ds) = (is_local_word d.kind && is_well_formed_type d.type) && are_well_formed_locals ds

abbrev pub is_well_formed_function : FunctionTree → Bool
is_well_formed_function f = is_well_formed_type f.result && (are_well_formed_inputs f.inputs && (are_well_formed_locals f.locals && are_well_formed_statements f.body))

abbrev pub is_well_formed_typedef : TypedefTree → Bool
is_well_formed_typedef (EnumTree type name entries) = is_well_formed_type type && are_well_formed_connections entries
is_well_formed_typedef (StructTree name fields) = are_well_formed_inputs fields

abbrev mutual
  pub is_well_formed_member : MemberTree → Bool
  is_well_formed_member (DeclarationMember d) = is_own_kind d.kind && is_well_formed_type d.type
  is_well_formed_member (AssignMember left right) = is_well_formed left && is_well_formed right
  is_well_formed_member (ParameterMember local parameter value) = is_well_formed_parameter_name parameter && is_well_formed value
  is_well_formed_member (TypedefMember t) = is_well_formed_typedef t
  is_well_formed_member (MacroMember call semicolon) = is_macro call && is_well_formed call
  is_well_formed_member (InstanceMember i) = are_given i.parameters && are_well_formed_connections i.connections
  is_well_formed_member (AlwaysMember word events body) = are_well_formed_events events && are_well_formed_statements body
  is_well_formed_member (ConditionalMember condition consequent alternates) = is_well_formed condition && (are_well_formed_statements consequent && are_well_formed_alternates alternates)
  is_well_formed_member (FunctionMember f) = is_well_formed_function f
  is_well_formed_member (LoopMember genvar start end label members) = (is_well_formed start && is_well_formed end) && are_well_formed_members members
  is_well_formed_member _ = true

  pub are_well_formed_members : Members → Bool
  are_well_formed_members NoMembers = true
  are_well_formed_members (MoreMembers member members) = is_well_formed_member member && are_well_formed_members members

abbrev pub are_well_formed_ports : List PortTree → Bool
are_well_formed_ports [] = true
are_well_formed_ports (p ∷ ps) = is_well_formed_type p.declaration.type && are_well_formed_ports ps

abbrev pub is_well_formed_typed : MaybeType → Bool
is_well_formed_typed Untyped = true
is_well_formed_typed (Typed type) = is_well_formed_type type

abbrev pub are_well_formed_parameters : List ParameterPortTree → Bool
are_well_formed_parameters [] = true
are_well_formed_parameters (p ∷ ps) = (is_well_formed_typed p.type && is_well_formed p.value) && are_well_formed_parameters ps

abbrev pub is_well_formed_module : ModuleTree → Bool
is_well_formed_module m = are_well_formed_parameters m.parameters && (are_well_formed_ports m.ports && are_well_formed_members m.members)

abbrev pub are_well_formed_items : List FileItemTree → Bool
are_well_formed_items [] = true
are_well_formed_items (ModuleItem m ∷ items) = is_well_formed_module m && are_well_formed_items items
are_well_formed_items (IncludeItem path ∷ items) = are_well_formed_items items
are_well_formed_items (ImportItem package_name ∷ items) = are_well_formed_items items
are_well_formed_items (TypedefItem t ∷ items) = is_well_formed_typedef t && are_well_formed_items items
are_well_formed_items (CommentItem text ∷ items) = are_well_formed_items items
are_well_formed_items (BlankItem ∷ items) = are_well_formed_items items

-- All expressions of the file are well formed, declarations of modules are wires, regs, logics and variables without a kind, locals
-- regs and logics, events edges and names, and what stands as a macro is one.
abbrev pub is_well_formed_file : FileTree → Bool
is_well_formed_file f = are_well_formed_items f.items
