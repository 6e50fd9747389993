-- The trace of a file: what is told of it, from the left, each row before its parts. The trace of a part stands before other events.
use Rattle.std.specs.Prelude.{ℕ, List, [], ◌∷◌, Bool, true, false, codes, Option, Some, None, if◌then◌else◌}
use Rattle.vast_literal.specs.NormalExpr.{NormalExpr, NormalExprs, NoNormals, MoreNormals}
use Rattle.vast_literal.specs.NormalFile as normal
use Rattle.vast_literal.specs.NormalFile.{NormalStatement, BlockingStatement, NonblockingStatement, AssignStatement, TaskStatement, ChoiceStatement, CaseStatement, ForStatement, NormalStatements, Done, Then, Arms, Only, Otherwise, Or, Labels, NoLabels, Label, Group, One, Range, NormalDeclaration, EdgeEvent, NameEvent, NormalConnection, NormalMember, DeclarationPart, AssignPart, ParameterPart, MacroPart, ImportPart, EnumPart, StructPart, InstancePart, AlwaysPart, ConditionalPart, FunctionPart, LoopPart, NormalMembers, NoParts, MoreParts, NormalParameter, NormalPort, NormalItem, ModulePart, IncludePart, FileImportPart, MemberPart, NormalFile}
use Rattle.vast_rows.specs.Events.{Event, Makes, Reads, Names}
use Rattle.vast_rows.specs.Numbers.{Key}
use Rattle.vast_rows.specs.Phrases.{IsExpression, IsLoop, IsPath}
use Rattle.vast_rows.specs.declared.action.Action.{Action}
use Rattle.vast_rows.specs.declared.action.Action.TheVariants.{Nothing, Yes, No, NoMore, OneMore, ModuleItem, IncludeItem, ImportItem, MemberItem, HeaderParameter, PortOf, DeclarationMember, AssignMember, ParameterMember, ImportMember, EnumMember, StructMember, MacroMember, NamedMember, AlwaysMember, ConditionalMember, FunctionMember, LoopMember, KindOf, SignOf, NameBefore, Packaged, Declares, Unnamed, GroupOf, Connects, EdgeOf, ChangeOf, Assigns, AssignsByWord, Chooses, Repeats, UniqueCase, CaseOf, Conditional, NoArms, Arm, DefaultArm}
use Rattle.vast_rows.specs.declared.action.Listed.{Listed}
use Rattle.vast_rows.specs.declared.action.Listed.TheVariants as listed

abbrev pub read : NormalExpr → Event
read x = Reads (IsExpression x)

-- Yes or no.
abbrev pub answer : Bool → Event
answer b = Makes (if b then Yes else No)

-- A list, by the trace of what it lists.
unfoldable pub trace_list : {A : Type 0} → Listed → (A → List Event → List Event) → List A → List Event → List Event
trace_list what one [] es = Makes (NoMore what) ∷ es
trace_list what one (x ∷ xs) es = Makes (OneMore what) ∷ one x (trace_list what one xs es)

-- Statements.

unfoldable mutual
  pub trace_statement : NormalStatement → List Event → List Event
  trace_statement (BlockingStatement l r) es = Makes Assigns ∷ read l ∷ answer true ∷ read r ∷ es
  trace_statement (NonblockingStatement l r) es = Makes Assigns ∷ read l ∷ answer false ∷ read r ∷ es
  trace_statement (AssignStatement l r) es = Makes AssignsByWord ∷ read l ∷ read r ∷ es
  trace_statement (TaskStatement x) es = Makes Assigns ∷ read x ∷ Makes Nothing ∷ es
  trace_statement (ChoiceStatement a) es = Makes Chooses ∷ trace_arms a es
  trace_statement (CaseStatement true k x a) es = Makes UniqueCase ∷ Makes (CaseOf k) ∷ read x ∷ trace_labels a es
  trace_statement (CaseStatement false k x a) es = Makes (CaseOf k) ∷ read x ∷ trace_labels a es
  trace_statement (ForStatement i x e b) es = Makes Repeats ∷ Reads (IsLoop i x e) ∷ trace_statements b es

  pub trace_statements : NormalStatements → List Event → List Event
  trace_statements Done es = Makes (NoMore listed.Statement) ∷ es
  trace_statements (Then s ss) es = Makes (OneMore listed.Statement) ∷ trace_statement s (trace_statements ss es)

  pub trace_arms : Arms → List Event → List Event
  trace_arms (Only c b) es = Makes Conditional ∷ read c ∷ trace_statements b (Makes Nothing ∷ es)
  trace_arms (Otherwise c b d) es = Makes Conditional ∷ read c ∷ trace_statements b (trace_statements d es)
  trace_arms (Or c b a) es = Makes Conditional ∷ read c ∷ trace_statements b (trace_arms a es)

  pub trace_labels : Labels → List Event → List Event
  trace_labels NoLabels es = Makes NoArms ∷ es
  trace_labels (Label (Some x) b a) es = Makes Arm ∷ read x ∷ trace_statements b (trace_labels a es)
  trace_labels (Label None b a) es = Makes DefaultArm ∷ trace_statements b (trace_labels a es)

-- Declarations.

unfoldable pub trace_group : Group → List Event → List Event
trace_group (One x) es = Makes GroupOf ∷ read x ∷ Makes Nothing ∷ es
trace_group (Range h l) es = Makes GroupOf ∷ read h ∷ read l ∷ es

abbrev pub trace_groups : List Group → List Event → List Event
trace_groups = trace_list listed.Group trace_group

unfoldable pub trace_key : (Key → Action) → Option Key → List Event → List Event
trace_key of None es = es
trace_key of (Some k) es = Makes (of k) ∷ es

unfoldable pub trace_package : Option (List ℕ) → List Event → List Event
trace_package None es = es
trace_package (Some p) es = Makes NameBefore ∷ Names p ∷ Makes Packaged ∷ es

unfoldable pub trace_type : Option (List ℕ) → List Event → List Event
trace_type None es = es
trace_type (Some t) es = Makes NameBefore ∷ Names t ∷ es

-- What follows the kind. Where a word stands first, it is told as a name before what follows, also where that is but the groups after it.
unfoldable pub trace_named : (package_name type_name : Option (List ℕ)) (sign : Option Key) (groups : List Group) (name : List ℕ) (behind : List Group) → List Event → List Event
trace_named None None None [] n h es = Makes NameBefore ∷ Names n ∷ Makes Declares ∷ trace_groups h (Makes Nothing ∷ es)
trace_named p t s g n h es = trace_package p (trace_type t (trace_key SignOf s (Makes Declares ∷ trace_groups g (Names n ∷ trace_groups h es))))

unfoldable pub trace_declaration : NormalDeclaration → List Event → List Event
trace_declaration d es = trace_key KindOf d.kind (trace_named d.package_name d.type_name d.sign d.groups d.name d.behind es)

abbrev pub trace_declarations : List NormalDeclaration → List Event → List Event
trace_declarations = trace_list listed.Declaration trace_declaration

-- Members.

-- What a module declares: the name of a type that stands first is told as that of a module is, and a name before groups alone as one
-- before the ports of an instance.
unfoldable pub trace_variable : (kind sign : Option Key) (type_name package_name : Option (List ℕ)) (groups : List Group) (name : List ℕ) (behind : List Group) → List Event → List Event
trace_variable None None (Some t) None [] n h es = Makes NamedMember ∷ Names t ∷ Makes NameBefore ∷ Names n ∷ trace_groups h es
trace_variable None None (Some t) None (g ∷ gs) n h es = Makes NamedMember ∷ Names t ∷ Makes Declares ∷ trace_groups (g ∷ gs) (Names n ∷ trace_groups h es)
trace_variable None None (Some t) (Some p) g n h es = Makes NamedMember ∷ Names p ∷ Makes Packaged ∷ Makes NameBefore ∷ Names t ∷ Makes Declares ∷ trace_groups g (Names n ∷ trace_groups h es)
trace_variable k s t p g n h es = Makes DeclarationMember ∷ trace_key KindOf k (trace_named p t s g n h es)

unfoldable pub trace_expressions : NormalExprs → List Event → List Event
trace_expressions NoNormals es = Makes (NoMore listed.Expression) ∷ es
trace_expressions (MoreNormals x xs) es = Makes (OneMore listed.Expression) ∷ read x ∷ trace_expressions xs es

unfoldable pub trace_arguments : Option NormalExprs → List Event → List Event
trace_arguments None es = Makes Nothing ∷ es
trace_arguments (Some xs) es = trace_expressions xs es

unfoldable pub trace_value : Option NormalExpr → List Event → List Event
trace_value None es = Makes Nothing ∷ es
trace_value (Some x) es = read x ∷ es

unfoldable pub trace_connection : NormalConnection → List Event → List Event
trace_connection c es = Makes Connects ∷ Names c.name ∷ trace_value c.value es

abbrev pub trace_connections : List NormalConnection → List Event → List Event
trace_connections = trace_list listed.Connection trace_connection

-- What is given to the parameters of an instance, if anything, and its name.
unfoldable pub trace_given : List NormalConnection → (name : List ℕ) → List Event → List Event
trace_given [] i es = Makes NameBefore ∷ Names i ∷ es
trace_given p i es = trace_connections p (Names i ∷ es)

unfoldable pub trace_event : normal.Event → List Event → List Event
trace_event (EdgeEvent k x) es = Makes (EdgeOf k) ∷ read x ∷ es
trace_event (NameEvent w) es = Makes ChangeOf ∷ Names w ∷ es

abbrev pub trace_events : List normal.Event → List Event → List Event
trace_events = trace_list listed.Event trace_event

unfoldable pub trace_label : Option (List ℕ) → List Event → List Event
trace_label None es = Makes Nothing ∷ es
trace_label (Some w) es = Names w ∷ es

-- What stands before the entries of an enumeration: its declaration, whose name comes after them.
unfoldable pub trace_base : NormalDeclaration → List Event → List Event
trace_base d es = trace_key KindOf d.kind (trace_package d.package_name (trace_type d.type_name (trace_key SignOf d.sign (Makes Unnamed ∷ trace_groups d.groups es))))

unfoldable mutual
  pub trace_member : NormalMember → List Event → List Event
  trace_member (DeclarationPart d) es = trace_variable d.kind d.sign d.type_name d.package_name d.groups d.name d.behind es
  trace_member (AssignPart l r) es = Makes AssignMember ∷ read l ∷ read r ∷ es
  trace_member (ParameterPart k d x) es = Makes (ParameterMember k) ∷ trace_declaration d (read x ∷ es)
  trace_member (MacroPart m a s) es = Makes MacroMember ∷ Names m ∷ trace_arguments a (answer s ∷ es)
  trace_member (ImportPart p) es = Makes ImportMember ∷ Names p ∷ es
  trace_member (EnumPart d e) es = Makes EnumMember ∷ trace_base d (trace_connections e (Names d.name ∷ trace_groups d.behind es))
  trace_member (StructPart n d) es = Makes StructMember ∷ trace_declarations d (Names n ∷ es)
  trace_member (InstancePart m p i c) es = Makes NamedMember ∷ Names m ∷ trace_given p i (trace_connections c es)
  trace_member (AlwaysPart k e b) es = Makes (AlwaysMember k) ∷ trace_events e (trace_statements b es)
  trace_member (ConditionalPart a) es = Makes ConditionalMember ∷ trace_arms a es
  trace_member (FunctionPart d i l b) es = Makes FunctionMember ∷ trace_declaration d (trace_declarations i (trace_declarations l (trace_statements b es)))
  trace_member (LoopPart i x e l m) es = Makes LoopMember ∷ Reads (IsLoop i x e) ∷ trace_label l (trace_members m es)

  pub trace_members : NormalMembers → List Event → List Event
  trace_members NoParts es = Makes (NoMore listed.Member) ∷ es
  trace_members (MoreParts m ms) es = Makes (OneMore listed.Member) ∷ trace_member m (trace_members ms es)

-- Modules and files.

unfoldable pub trace_parameter : NormalParameter → List Event → List Event
trace_parameter p es = Makes HeaderParameter ∷ trace_declaration p.declaration (read p.value ∷ es)

abbrev pub trace_parameters : List NormalParameter → List Event → List Event
trace_parameters = trace_list listed.Parameter trace_parameter

unfoldable pub trace_port : NormalPort → List Event → List Event
trace_port p es = Makes (PortOf p.direction) ∷ trace_declaration p.declaration es

abbrev pub trace_ports : List NormalPort → List Event → List Event
trace_ports = trace_list listed.Port trace_port

-- The macro of an include has a name, which is told as every macro's.
unfoldable pub trace_item : NormalItem → List Event → List Event
trace_item (ModulePart m) es = Makes ModuleItem ∷ Names m.name ∷ trace_parameters m.parameters (trace_ports m.ports (trace_members m.members es))
trace_item (IncludePart path) es = Makes IncludeItem ∷ Names (codes "include") ∷ Reads (IsPath path) ∷ es
trace_item (FileImportPart p) es = Makes ImportItem ∷ Names p ∷ es
trace_item (MemberPart m) es = Makes MemberItem ∷ trace_member m es

abbrev pub trace_items : List NormalItem → List Event → List Event
trace_items = trace_list listed.Item trace_item

unfoldable pub trace : NormalFile → List Event → List Event
trace f es = trace_items f.items es
