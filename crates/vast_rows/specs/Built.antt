-- What the events of a reading build, read from the right.
use Rattle.std.specs.Prelude.{ℕ, List, [], ◌∷◌, Bool, true, false, Option, Some, None, option_map}
use Rattle.vast_literal.specs.FileGrammar.{assignment}
use Rattle.vast_literal.specs.NormalExpr.{NormalExpr, NormalExprs, NoNormals, MoreNormals}
use Rattle.vast_literal.specs.NormalFile as normal
use Rattle.vast_literal.specs.NormalFile.{NormalStatement, AssignStatement, TaskStatement, ChoiceStatement, CaseStatement, ForStatement, NormalStatements, Done, Then, Arms, Only, Otherwise, Or, Labels, NoLabels, Label, Group, One, Range, NormalDeclaration, EdgeEvent, NameEvent, NormalConnection, NormalMember, DeclarationPart, AssignPart, ParameterPart, MacroPart, ImportPart, EnumPart, StructPart, InstancePart, AlwaysPart, ConditionalPart, FunctionPart, LoopPart, NormalMembers, NoParts, MoreParts, NormalParameter, NormalPort, NormalItem, ModulePart, IncludePart, FileImportPart, MemberPart, NormalFile}
use Rattle.vast_rows.specs.Events.{Event, Makes, Reads, Names}
use Rattle.vast_rows.specs.Numbers.{Key}
use Rattle.vast_rows.specs.Phrases.{Meaning, IsExpression, IsLoop, IsPath}
use Rattle.vast_rows.specs.declared.action.Action.{Action}
use Rattle.vast_rows.specs.declared.action.Action.TheVariants.{Nothing, Yes, No, NoMore, OneMore, ModuleItem, IncludeItem, ImportItem, MemberItem, HeaderParameter, PortOf, DeclarationMember, AssignMember, ParameterMember, ImportMember, EnumMember, StructMember, MacroMember, NamedMember, AlwaysMember, ConditionalMember, FunctionMember, LoopMember, KindOf, SignOf, NameBefore, Packaged, Declares, Unnamed, GroupOf, Connects, EdgeOf, ChangeOf, Assigns, AssignsByWord, Chooses, Repeats, UniqueCase, CaseOf, Conditional, NoArms, Arm, DefaultArm}
use Rattle.vast_rows.specs.declared.action.Listed.{Listed}
use Rattle.vast_rows.specs.declared.action.Listed.TheVariants as listed

-- What was built of a part.
pub data Seen : Type 0 where
  SeenNothing : Seen
  SeenAnswer : Bool → Seen
  SeenName SeenPath : List ℕ → Seen
  SeenExpression : NormalExpr → Seen
  SeenLoop : (variable : List ℕ) (start end : NormalExpr) → Seen
  SeenExpressions : NormalExprs → Seen
  SeenGroup : Group → Seen
  SeenGroups : List Group → Seen
  SeenDeclaration : NormalDeclaration → Seen
  SeenDeclarations : List NormalDeclaration → Seen
  SeenConnection : NormalConnection → Seen
  SeenConnections : List NormalConnection → Seen
  SeenEvent : normal.Event → Seen
  SeenEvents : List normal.Event → Seen
  SeenStatement : NormalStatement → Seen
  SeenStatements : NormalStatements → Seen
  SeenArms : Arms → Seen
  SeenLabels : Labels → Seen
  SeenMember : NormalMember → Seen
  SeenMembers : NormalMembers → Seen
  SeenParameter : NormalParameter → Seen
  SeenParameters : List NormalParameter → Seen
  SeenPort : NormalPort → Seen
  SeenPorts : List NormalPort → Seen
  SeenItem : NormalItem → Seen
  SeenFile : NormalFile → Seen

-- Parts one by one, each if it is of the kind that is asked for.

abbrev pub as_answer : Seen → Option Bool
as_answer (SeenAnswer b) = Some b
as_answer _ = None

abbrev pub as_name : Seen → Option (List ℕ)
as_name (SeenName w) = Some w
as_name _ = None

abbrev pub as_path : Seen → Option (List ℕ)
as_path (SeenPath p) = Some p
as_path _ = None

abbrev pub as_expression : Seen → Option NormalExpr
as_expression (SeenExpression x) = Some x
as_expression _ = None

abbrev pub as_loop : Seen → Option (List ℕ × NormalExpr × NormalExpr)
as_loop (SeenLoop i x e) = Some (i, x, e)
as_loop _ = None

abbrev pub as_expressions : Seen → Option NormalExprs
as_expressions (SeenExpressions xs) = Some xs
as_expressions _ = None

abbrev pub as_group : Seen → Option Group
as_group (SeenGroup g) = Some g
as_group _ = None

abbrev pub as_groups : Seen → Option (List Group)
as_groups (SeenGroups gs) = Some gs
as_groups _ = None

abbrev pub as_declaration : Seen → Option NormalDeclaration
as_declaration (SeenDeclaration d) = Some d
as_declaration _ = None

abbrev pub as_declarations : Seen → Option (List NormalDeclaration)
as_declarations (SeenDeclarations ds) = Some ds
as_declarations _ = None

abbrev pub as_connection : Seen → Option NormalConnection
as_connection (SeenConnection c) = Some c
as_connection _ = None

abbrev pub as_connections : Seen → Option (List NormalConnection)
as_connections (SeenConnections cs) = Some cs
as_connections _ = None

abbrev pub as_event : Seen → Option normal.Event
as_event (SeenEvent e) = Some e
as_event _ = None

abbrev pub as_events : Seen → Option (List normal.Event)
as_events (SeenEvents es) = Some es
as_events _ = None

abbrev pub as_statement : Seen → Option NormalStatement
as_statement (SeenStatement s) = Some s
as_statement _ = None

abbrev pub as_statements : Seen → Option NormalStatements
as_statements (SeenStatements ss) = Some ss
as_statements _ = None

abbrev pub as_arms : Seen → Option Arms
as_arms (SeenArms a) = Some a
as_arms _ = None

abbrev pub as_labels : Seen → Option Labels
as_labels (SeenLabels a) = Some a
as_labels _ = None

abbrev pub as_member : Seen → Option NormalMember
as_member (SeenMember m) = Some m
as_member _ = None

abbrev pub as_members : Seen → Option NormalMembers
as_members (SeenMembers ms) = Some ms
as_members _ = None

abbrev pub as_parameter : Seen → Option NormalParameter
as_parameter (SeenParameter p) = Some p
as_parameter _ = None

abbrev pub as_parameters : Seen → Option (List NormalParameter)
as_parameters (SeenParameters ps) = Some ps
as_parameters _ = None

abbrev pub as_port : Seen → Option NormalPort
as_port (SeenPort p) = Some p
as_port _ = None

abbrev pub as_ports : Seen → Option (List NormalPort)
as_ports (SeenPorts ps) = Some ps
as_ports _ = None

abbrev pub as_item : Seen → Option NormalItem
as_item (SeenItem i) = Some i
as_item _ = None

abbrev pub as_file : Seen → Option NormalFile
as_file (SeenFile f) = Some f
as_file _ = None

-- One that may be left out: the mark stands for none.
abbrev pub maybe : {A : Type 0} → (Seen → Option A) → Seen → Option (Option A)
maybe kind SeenNothing = Some None
maybe kind v = option_map Some (kind v)

-- The part that stands first in what was built, and the others.
abbrev pub first : {A : Type 0} → (Seen → Option A) → List Seen → Option (A × List Seen)
first kind [] = None
first kind (v ∷ vs) = option_map (λ x. (x, vs)) (kind v)

abbrev pub and_then : {A B : Type 0} → Option A → (A → Option B) → Option B
and_then None next = None
and_then (Some x) next = next x

-- What is made of the parts that stand first, in their place. Where they are no such parts, nothing is.

unfoldable pub of_one : {A : Type 0} → (Seen → Option A) → (A → Seen) → List Seen → Option (List Seen)
of_one a make vs = and_then (first a vs) (λ x. Some (make x.0 ∷ x.1))

unfoldable pub of_two : {A B : Type 0} → (Seen → Option A) → (Seen → Option B) → (A → B → Seen) → List Seen → Option (List Seen)
of_two a b make vs = and_then (first a vs) (λ x. of_one b (make x.0) x.1)

unfoldable pub of_three : {A B C : Type 0} → (Seen → Option A) → (Seen → Option B) → (Seen → Option C) → (A → B → C → Seen) → List Seen → Option (List Seen)
of_three a b c make vs = and_then (first a vs) (λ x. of_two b c (make x.0) x.1)

unfoldable pub of_four : {A B C D : Type 0} → (Seen → Option A) → (Seen → Option B) → (Seen → Option C) → (Seen → Option D) → (A → B → C → D → Seen) → List Seen → Option (List Seen)
of_four a b c d make vs = and_then (first a vs) (λ x. of_three b c d (make x.0) x.1)

-- Lists, which grow in front.

unfoldable pub make_none : Listed → Seen
make_none listed.Item = SeenFile (record { items = [] })
make_none listed.Parameter = SeenParameters []
make_none listed.Port = SeenPorts []
make_none listed.Member = SeenMembers NoParts
make_none listed.Group = SeenGroups []
make_none listed.Declaration = SeenDeclarations []
make_none listed.Expression = SeenExpressions NoNormals
make_none listed.Connection = SeenConnections []
make_none listed.Event = SeenEvents []
make_none listed.Statement = SeenStatements Done

unfoldable pub make_more : Listed → List Seen → Option (List Seen)
make_more listed.Item vs = of_two as_item as_file (λ i f. SeenFile (record { items = i ∷ f.items })) vs
make_more listed.Parameter vs = of_two as_parameter as_parameters (λ p ps. SeenParameters (p ∷ ps)) vs
make_more listed.Port vs = of_two as_port as_ports (λ p ps. SeenPorts (p ∷ ps)) vs
make_more listed.Member vs = of_two as_member as_members (λ m ms. SeenMembers (MoreParts m ms)) vs
make_more listed.Group vs = of_two as_group as_groups (λ g gs. SeenGroups (g ∷ gs)) vs
make_more listed.Declaration vs = of_two as_declaration as_declarations (λ d ds. SeenDeclarations (d ∷ ds)) vs
make_more listed.Expression vs = of_two as_expression as_expressions (λ x xs. SeenExpressions (MoreNormals x xs)) vs
make_more listed.Connection vs = of_two as_connection as_connections (λ c cs. SeenConnections (c ∷ cs)) vs
make_more listed.Event vs = of_two as_event as_events (λ e es. SeenEvents (e ∷ es)) vs
make_more listed.Statement vs = of_two as_statement as_statements (λ s ss. SeenStatements (Then s ss)) vs

-- Declarations.

abbrev pub group_of : NormalExpr → Option NormalExpr → Group
group_of x None = One x
group_of h (Some l) = Range h l

abbrev pub with_kind : Key → NormalDeclaration → NormalDeclaration
with_kind k d = record { kind = Some k; package_name = d.package_name; type_name = d.type_name; sign = d.sign; groups = d.groups; name = d.name; behind = d.behind }

abbrev pub with_sign : Key → NormalDeclaration → NormalDeclaration
with_sign k d = record { kind = d.kind; package_name = d.package_name; type_name = d.type_name; sign = Some k; groups = d.groups; name = d.name; behind = d.behind }

abbrev pub with_type : (package_name type_name : Option (List ℕ)) → NormalDeclaration → NormalDeclaration
with_type p t d = record { kind = d.kind; package_name = p; type_name = t; sign = d.sign; groups = d.groups; name = d.name; behind = d.behind }

abbrev pub with_name : (name : List ℕ) → List Group → NormalDeclaration → NormalDeclaration
with_name n h d = record { kind = d.kind; package_name = d.package_name; type_name = d.type_name; sign = d.sign; groups = d.groups; name = n; behind = h }

abbrev pub declared : List Group → (name : List ℕ) → List Group → NormalDeclaration
declared g n h = record { kind = None; package_name = None; type_name = None; sign = None; groups = g; name = n; behind = h }

-- A name before a declaration, which may have a package whose name is still to come.
abbrev pub name_type : (name : List ℕ) → NormalDeclaration → NormalDeclaration
name_type w d = elim d.package_name [ None ↦ with_type None (Some w) d | Some p ↦ with_type (Some w) d.type_name d ]

-- Before ports stands the name of an instance whose parameters are given nothing.
unfoldable pub name_before : (name : List ℕ) → List Seen → Option (List Seen)
name_before w (SeenGroups h ∷ vs) = Some (SeenDeclaration (declared [] w h) ∷ vs)
name_before w (SeenDeclaration d ∷ vs) = Some (SeenDeclaration (name_type w d) ∷ vs)
name_before w (SeenConnections c ∷ vs) = Some (SeenConnections [] ∷ SeenName w ∷ SeenConnections c ∷ vs)
name_before w _ = None

unfoldable pub name_behind : List Group → List Seen → Option (List Seen)
name_behind g (SeenNothing ∷ vs) = Some (SeenGroups g ∷ vs)
name_behind g (SeenName n ∷ vs) = of_one as_groups (λ h. SeenDeclaration (declared g n h)) vs
name_behind g _ = None

-- A name before a declaration, and before what is given to parameters, a name and ports.
unfoldable pub named_member : (name : List ℕ) → List Seen → Option (List Seen)
named_member w (SeenDeclaration d ∷ vs) = Some (SeenMember (DeclarationPart (name_type w d)) ∷ vs)
named_member w (SeenConnections p ∷ vs) = of_two as_name as_connections (λ i c. SeenMember (InstancePart w p i c)) vs
named_member w _ = None

-- Statements.

abbrev pub unique_case : NormalStatement → NormalStatement
unique_case (CaseStatement u k x a) = CaseStatement true k x a
unique_case s = s

-- What follows a left side: nothing behind a call, else whether an assignment blocks and its right side.
unfoldable pub assigned : NormalExpr → List Seen → Option (List Seen)
assigned l (SeenNothing ∷ vs) = Some (SeenStatement (TaskStatement l) ∷ vs)
assigned l (SeenAnswer b ∷ vs) = of_one as_expression (λ r. SeenStatement (assignment b l r)) vs
assigned l _ = None

unfoldable pub alternated : NormalExpr → NormalStatements → List Seen → Option (List Seen)
alternated c b (SeenNothing ∷ vs) = Some (SeenArms (Only c b) ∷ vs)
alternated c b (SeenStatements d ∷ vs) = Some (SeenArms (Otherwise c b d) ∷ vs)
alternated c b (SeenArms a ∷ vs) = Some (SeenArms (Or c b a) ∷ vs)
alternated c b _ = None

-- What an action makes.
unfoldable pub make : Action → List Seen → Option (List Seen)
make Nothing vs = Some (SeenNothing ∷ vs)
make Yes vs = Some (SeenAnswer true ∷ vs)
make No vs = Some (SeenAnswer false ∷ vs)
make (NoMore what) vs = Some (make_none what ∷ vs)
make (OneMore what) vs = make_more what vs
make ModuleItem vs = of_four as_name as_parameters as_ports as_members (λ n p q m. SeenItem (ModulePart (record { name = n; parameters = p; ports = q; members = m }))) vs
make IncludeItem vs = of_two as_name as_path (λ macro p. SeenItem (IncludePart p)) vs
make ImportItem vs = of_one as_name (λ p. SeenItem (FileImportPart p)) vs
make MemberItem vs = of_one as_member (λ m. SeenItem (MemberPart m)) vs
make HeaderParameter vs = of_two as_declaration as_expression (λ d x. SeenParameter (record { declaration = d; value = x })) vs
make (PortOf k) vs = of_one as_declaration (λ d. SeenPort (record { direction = k; declaration = d })) vs
make DeclarationMember vs = of_one as_declaration (λ d. SeenMember (DeclarationPart d)) vs
make AssignMember vs = of_two as_expression as_expression (λ l r. SeenMember (AssignPart l r)) vs
make (ParameterMember k) vs = of_two as_declaration as_expression (λ d x. SeenMember (ParameterPart k d x)) vs
make MacroMember vs = of_three as_name (maybe as_expressions) as_answer (λ m a s. SeenMember (MacroPart m a s)) vs
make ImportMember vs = of_one as_name (λ p. SeenMember (ImportPart p)) vs
make EnumMember vs = of_four as_declaration as_connections as_name as_groups (λ d e n h. SeenMember (EnumPart (with_name n h d) e)) vs
make StructMember vs = of_two as_declarations as_name (λ d n. SeenMember (StructPart n d)) vs
make NamedMember vs = and_then (first as_name vs) (λ w. named_member w.0 w.1)
make (AlwaysMember k) vs = of_two as_events as_statements (λ e b. SeenMember (AlwaysPart k e b)) vs
make ConditionalMember vs = of_one as_arms (λ a. SeenMember (ConditionalPart a)) vs
make FunctionMember vs = of_four as_declaration as_declarations as_declarations as_statements (λ d i l b. SeenMember (FunctionPart d i l b)) vs
make LoopMember vs = of_three as_loop (maybe as_name) as_members (λ h l m. SeenMember (LoopPart h.0 h.1 h.2 l m)) vs
make (KindOf k) vs = of_one as_declaration (λ d. SeenDeclaration (with_kind k d)) vs
make (SignOf k) vs = of_one as_declaration (λ d. SeenDeclaration (with_sign k d)) vs
make NameBefore vs = and_then (first as_name vs) (λ w. name_before w.0 w.1)
make Packaged vs = of_one as_declaration (λ d. SeenDeclaration (with_type (Some []) d.type_name d)) vs
make Declares vs = and_then (first as_groups vs) (λ g. name_behind g.0 g.1)
make Unnamed vs = of_one as_groups (λ g. SeenDeclaration (declared g [] [])) vs
make GroupOf vs = of_two as_expression (maybe as_expression) (λ x l. SeenGroup (group_of x l)) vs
make Connects vs = of_two as_name (maybe as_expression) (λ n x. SeenConnection (record { name = n; value = x })) vs
make (EdgeOf k) vs = of_one as_expression (λ x. SeenEvent (EdgeEvent k x)) vs
make ChangeOf vs = of_one as_name (λ w. SeenEvent (NameEvent w)) vs
make Assigns vs = and_then (first as_expression vs) (λ l. assigned l.0 l.1)
make AssignsByWord vs = of_two as_expression as_expression (λ l r. SeenStatement (AssignStatement l r)) vs
make Chooses vs = of_one as_arms (λ a. SeenStatement (ChoiceStatement a)) vs
make Repeats vs = of_two as_loop as_statements (λ h b. SeenStatement (ForStatement h.0 h.1 h.2 b)) vs
make UniqueCase vs = of_one as_statement (λ s. SeenStatement (unique_case s)) vs
make (CaseOf k) vs = of_two as_expression as_labels (λ x a. SeenStatement (CaseStatement false k x a)) vs
make Conditional vs = and_then (first as_expression vs) (λ c. and_then (first as_statements c.1) (λ b. alternated c.0 b.0 b.1))
make NoArms vs = Some (SeenLabels NoLabels ∷ vs)
make Arm vs = of_three as_expression as_statements as_labels (λ x b a. SeenLabels (Label (Some x) b a)) vs
make DefaultArm vs = of_two as_statements as_labels (λ b a. SeenLabels (Label None b a)) vs

abbrev pub seen_phrase : Meaning → Seen
seen_phrase (IsExpression x) = SeenExpression x
seen_phrase (IsLoop i x e) = SeenLoop i x e
seen_phrase (IsPath p) = SeenPath p

-- What an event makes of what those after it built.
abbrev pub happens : Event → List Seen → Option (List Seen)
happens (Makes action) vs = make action vs
happens (Reads m) vs = Some (seen_phrase m ∷ vs)
happens (Names w) vs = Some (SeenName w ∷ vs)

-- What events build, the first part first; nothing where they are no trace of parts.
unfoldable pub built : List Event → Option (List Seen)
built [] = Some []
built (e ∷ es) = and_then (built es) (happens e)
