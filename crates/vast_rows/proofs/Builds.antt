-- Traces build what they are the traces of.
use Rattle.std.proofs.Common.{◌≡◌, ℕ, List, [], ◌∷◌, Bool, true, false, Option, Some, None, refl, sym, ap, ◌∙◌}
use Rattle.vast_literal.specs.FileGrammar.{assignment}
use Rattle.vast_literal.specs.NormalExpr.{NormalExprs, NoNormals, MoreNormals}
use Rattle.vast_literal.specs.NormalFile as normal
use Rattle.vast_literal.specs.NormalFile.{NormalStatement, BlockingStatement, NonblockingStatement, AssignStatement, TaskStatement, ChoiceStatement, CaseStatement, ForStatement, NormalStatements, Done, Then, Arms, Only, Otherwise, Or, Labels, NoLabels, Label, Group, One, Range, NormalDeclaration, EdgeEvent, NameEvent, NormalConnection, NormalMember, DeclarationPart, AssignPart, ParameterPart, MacroPart, ImportPart, EnumPart, StructPart, InstancePart, AlwaysPart, ConditionalPart, FunctionPart, LoopPart, NormalMembers, NoParts, MoreParts, NormalParameter, NormalPort, NormalItem, ModulePart, IncludePart, FileImportPart, MemberPart, NormalFile}
use Rattle.vast_rows.specs.Built.{Seen, SeenAnswer, SeenExpressions, SeenGroup, SeenGroups, SeenDeclaration, SeenDeclarations, SeenConnection, SeenConnections, SeenEvent, SeenEvents, SeenStatement, SeenStatements, SeenArms, SeenLabels, SeenMember, SeenMembers, SeenParameter, SeenParameters, SeenPort, SeenPorts, SeenItem, SeenFile, of_one, of_two, of_three, of_four, make_none, make_more, declared, name_before, name_behind, named_member, assigned, alternated, make, happens, built}
use Rattle.vast_rows.specs.Events.{Event, Makes, Names}
use Rattle.vast_rows.specs.Laws.{TraceBuilds, TraceIsOne}
use Rattle.vast_rows.specs.Numbers.{Key}
use Rattle.vast_rows.specs.Trace.{answer, trace_list, trace_statement, trace_statements, trace_arms, trace_labels, trace_group, trace_groups, trace_key, trace_package, trace_type, trace_named, trace_declaration, trace_declarations, trace_variable, trace_expressions, trace_arguments, trace_value, trace_connection, trace_connections, trace_given, trace_event, trace_events, trace_label, trace_base, trace_member, trace_members, trace_parameter, trace_parameters, trace_port, trace_ports, trace_item, trace}
use Rattle.vast_rows.specs.declared.action.Action.TheVariants.{NamedMember, KindOf, SignOf, Declares}
use Rattle.vast_rows.specs.declared.action.Listed.{Listed}
use Rattle.vast_rows.specs.declared.action.Listed.TheVariants as listed

record Builds (es : List Event) (vs : List Seen) : Type 0 where
  so : built es ≡ Some vs

-- One event more.
on : {e : Event} {es : List Event} {vs ws : List Seen} → Builds es vs → happens e vs ≡ Some ws → Builds (e ∷ es) ws
unfolding built
on p q = record { so = rw p.so q }

list_builds : {A : Type 0} {es : List Event} {vs : List Seen} (what : Listed) (one : A → List Event → List Event) (seen : A → Seen) (all : List A → Seen) → make_none what ≡ all [] →
    ((x : A) (xs : List A) (ws : List Seen) → make_more what (seen x ∷ all xs ∷ ws) ≡ Some (all (x ∷ xs) ∷ ws)) → ((x : A) (fs : List Event) (ws : List Seen) → Builds fs ws → Builds (one x fs) (seen x ∷ ws)) →
    (xs : List A) → Builds es vs → Builds (trace_list what one xs es) (all xs ∷ vs)
unfolding trace_list make
list_builds {vs = vs} what one seen all none more each [] p = on p (ap (λ (v : Seen). Some (v ∷ vs)) none)
list_builds {vs = vs} what one seen all none more each (x ∷ xs) p = on (each x _ _ (list_builds what one seen all none more each xs p)) (more x xs vs)

-- Statements.

mutual
  unfolding trace_statement trace_statements trace_arms trace_labels make make_none make_more of_one of_two of_three assignment assigned alternated

  statement_builds : {es : List Event} {vs : List Seen} (s : NormalStatement) → Builds es vs → Builds (trace_statement s es) (SeenStatement s ∷ vs)
  statement_builds (BlockingStatement l r) p = on (on (on (on p refl) refl) refl) refl
  statement_builds (NonblockingStatement l r) p = on (on (on (on p refl) refl) refl) refl
  statement_builds (AssignStatement l r) p = on (on (on p refl) refl) refl
  statement_builds (TaskStatement x) p = on (on (on p refl) refl) refl
  statement_builds (ChoiceStatement a) p = on (arms_build a p) refl
  statement_builds (CaseStatement true k x a) p = on (on (on (labels_build a p) refl) refl) refl
  statement_builds (CaseStatement false k x a) p = on (on (labels_build a p) refl) refl
  statement_builds (ForStatement i x e b) p = on (on (statements_build b p) refl) refl

  statements_build : {es : List Event} {vs : List Seen} (ss : NormalStatements) → Builds es vs → Builds (trace_statements ss es) (SeenStatements ss ∷ vs)
  statements_build Done p = on p refl
  statements_build (Then s ss) p = on (statement_builds s (statements_build ss p)) refl

  arms_build : {es : List Event} {vs : List Seen} (a : Arms) → Builds es vs → Builds (trace_arms a es) (SeenArms a ∷ vs)
  arms_build (Only c b) p = on (on (statements_build b (on p refl)) refl) refl
  arms_build (Otherwise c b d) p = on (on (statements_build b (statements_build d p)) refl) refl
  arms_build (Or c b a) p = on (on (statements_build b (arms_build a p)) refl) refl

  labels_build : {es : List Event} {vs : List Seen} (a : Labels) → Builds es vs → Builds (trace_labels a es) (SeenLabels a ∷ vs)
  labels_build NoLabels p = on p refl
  labels_build (Label (Some x) b a) p = on (on (statements_build b (labels_build a p)) refl) refl
  labels_build (Label None b a) p = on (statements_build b (labels_build a p)) refl

-- Declarations.

group_builds : (g : Group) (es : List Event) (vs : List Seen) → Builds es vs → Builds (trace_group g es) (SeenGroup g ∷ vs)
unfolding trace_group make of_one of_two
group_builds (One x) es vs p = on (on (on p refl) refl) refl
group_builds (Range h l) es vs p = on (on (on p refl) refl) refl

groups_build : {es : List Event} {vs : List Seen} (g : List Group) → Builds es vs → Builds (trace_groups g es) (SeenGroups g ∷ vs)
unfolding make_none make_more of_one of_two
groups_build g p = list_builds listed.Group trace_group SeenGroup SeenGroups refl (λ x xs vs. refl) group_builds g p

abbrev declared_as : (kind : Option Key) (package_name type_name : Option (List ℕ)) (sign : Option Key) → List Group → (name : List ℕ) → List Group → NormalDeclaration
declared_as k p t s g n h = record { kind = k; package_name = p; type_name = t; sign = s; groups = g; name = n; behind = h }

base_builds : {es : List Event} {vs : List Seen} (g : List Group) (n : List ℕ) (h : List Group) → Builds es vs → Builds (Makes Declares ∷ trace_groups g (Names n ∷ trace_groups h es)) (SeenDeclaration (declared g n h) ∷ vs)
unfolding make of_one name_behind
base_builds g n h p = on (groups_build g (on (groups_build h p) refl)) refl

sign_builds : {es : List Event} {vs : List Seen} {g h : List Group} {n : List ℕ} (s : Option Key) → Builds es (SeenDeclaration (declared g n h) ∷ vs) → Builds (trace_key SignOf s es) (SeenDeclaration (declared_as None None None s g n h) ∷ vs)
unfolding trace_key make of_one
sign_builds None p = p
sign_builds (Some k) p = on p refl

type_builds : {es : List Event} {vs : List Seen} {s : Option Key} {g h : List Group} {n : List ℕ} (t : Option (List ℕ)) → Builds es (SeenDeclaration (declared_as None None None s g n h) ∷ vs) → Builds (trace_type t es) (SeenDeclaration (declared_as None None t s g n h) ∷ vs)
unfolding trace_type make of_one name_before
type_builds None p = p
type_builds (Some t) p = on (on p refl) refl

package_builds : {es : List Event} {vs : List Seen} {t : Option (List ℕ)} {s : Option Key} {g h : List Group} {n : List ℕ} (w : Option (List ℕ)) → Builds es (SeenDeclaration (declared_as None None t s g n h) ∷ vs) → Builds (trace_package w es) (SeenDeclaration (declared_as None w t s g n h) ∷ vs)
unfolding trace_package make of_one name_before
package_builds None p = p
package_builds (Some w) p = on (on (on p refl) refl) refl

kind_builds : {es : List Event} {vs : List Seen} {w t : Option (List ℕ)} {s : Option Key} {g h : List Group} {n : List ℕ} (k : Option Key) → Builds es (SeenDeclaration (declared_as None w t s g n h) ∷ vs) → Builds (trace_key KindOf k es) (SeenDeclaration (declared_as k w t s g n h) ∷ vs)
unfolding trace_key make of_one
kind_builds None p = p
kind_builds (Some k) p = on p refl

named_builds : {es : List Event} {vs : List Seen} (w t : Option (List ℕ)) (s : Option Key) (g : List Group) (n : List ℕ) (h : List Group) → Builds es vs → Builds (trace_named w t s g n h es) (SeenDeclaration (declared_as None w t s g n h) ∷ vs)
unfolding trace_named make name_before name_behind
named_builds None None None [] n h p = on (on (on (groups_build h (on p refl)) refl) refl) refl
named_builds None None None (x ∷ g) n h p = package_builds None (type_builds None (sign_builds None (base_builds (x ∷ g) n h p)))
named_builds None None (Some s) g n h p = package_builds None (type_builds None (sign_builds (Some s) (base_builds g n h p)))
named_builds None (Some t) s g n h p = package_builds None (type_builds (Some t) (sign_builds s (base_builds g n h p)))
named_builds (Some w) t s g n h p = package_builds (Some w) (type_builds t (sign_builds s (base_builds g n h p)))

declaration_builds : (d : NormalDeclaration) (es : List Event) (vs : List Seen) → Builds es vs → Builds (trace_declaration d es) (SeenDeclaration d ∷ vs)
unfolding trace_declaration
declaration_builds d es vs p = kind_builds d.kind (named_builds d.package_name d.type_name d.sign d.groups d.name d.behind p)

declarations_build : {es : List Event} {vs : List Seen} (d : List NormalDeclaration) → Builds es vs → Builds (trace_declarations d es) (SeenDeclarations d ∷ vs)
unfolding make_none make_more of_one of_two
declarations_build d p = list_builds listed.Declaration trace_declaration SeenDeclaration SeenDeclarations refl (λ x xs vs. refl) declaration_builds d p

-- Members.

variable_builds : {es : List Event} {vs : List Seen} (k s : Option Key) (t w : Option (List ℕ)) (g : List Group) (n : List ℕ) (h : List Group) → Builds es vs → Builds (trace_variable k s t w g n h es) (SeenMember (DeclarationPart (declared_as k w t s g n h)) ∷ vs)
unfolding trace_variable make of_one name_before named_member
variable_builds None None (Some t) None [] n h p = on (on (on (on (groups_build h p) refl) refl) refl) refl
variable_builds None None (Some t) None (x ∷ g) n h p = on (on (base_builds (x ∷ g) n h p) refl) refl
variable_builds None None (Some t) (Some w) g n h p = on (on (on (on (on (base_builds g n h p) refl) refl) refl) refl) refl
variable_builds None None None w g n h p = on (kind_builds None (named_builds w None None g n h p)) refl
variable_builds None (Some s) t w g n h p = on (kind_builds None (named_builds w t (Some s) g n h p)) refl
variable_builds (Some k) s t w g n h p = on (kind_builds (Some k) (named_builds w t s g n h p)) refl

expressions_build : {es : List Event} {vs : List Seen} (xs : NormalExprs) → Builds es vs → Builds (trace_expressions xs es) (SeenExpressions xs ∷ vs)
unfolding trace_expressions make make_none make_more of_one of_two
expressions_build NoNormals p = on p refl
expressions_build (MoreNormals x xs) p = on (on (expressions_build xs p) refl) refl

answer_builds : {es : List Event} {vs : List Seen} (s : Bool) → Builds es vs → Builds (answer s ∷ es) (SeenAnswer s ∷ vs)
unfolding make
answer_builds true p = on p refl
answer_builds false p = on p refl

connection_builds : (c : NormalConnection) (es : List Event) (vs : List Seen) → Builds es vs → Builds (trace_connection c es) (SeenConnection c ∷ vs)
unfolding trace_connection trace_value make of_one of_two
connection_builds c es vs p = valued c.value p
  where
    valued : {es : List Event} {vs : List Seen} {n : List ℕ} (x : Option _) → Builds es vs → Builds (trace_connection (record { name = n; value = x }) es) (SeenConnection (record { name = n; value = x }) ∷ vs)
    valued None p = on (on (on p refl) refl) refl
    valued (Some x) p = on (on (on p refl) refl) refl

connections_build : {es : List Event} {vs : List Seen} (c : List NormalConnection) → Builds es vs → Builds (trace_connections c es) (SeenConnections c ∷ vs)
unfolding make_none make_more of_one of_two
connections_build c p = list_builds listed.Connection trace_connection SeenConnection SeenConnections refl (λ x xs vs. refl) connection_builds c p

given_builds : {es : List Event} {vs : List Seen} (m : List ℕ) (q : List NormalConnection) (i : List ℕ) (c : List NormalConnection) → Builds es (SeenConnections c ∷ vs) → Builds (Makes NamedMember ∷ Names m ∷ trace_given q i es) (SeenMember (InstancePart m q i c) ∷ vs)
unfolding trace_given make of_one of_two name_before named_member
given_builds m [] i c p = on (on (on (on p refl) refl) refl) refl
given_builds m (x ∷ q) i c p = on (on (connections_build (x ∷ q) (on p refl)) refl) refl

event_builds : (e : normal.Event) (es : List Event) (vs : List Seen) → Builds es vs → Builds (trace_event e es) (SeenEvent e ∷ vs)
unfolding trace_event make of_one
event_builds (EdgeEvent k x) es vs p = on (on p refl) refl
event_builds (NameEvent w) es vs p = on (on p refl) refl

events_build : {es : List Event} {vs : List Seen} (e : List normal.Event) → Builds es vs → Builds (trace_events e es) (SeenEvents e ∷ vs)
unfolding make_none make_more of_one of_two
events_build e p = list_builds listed.Event trace_event SeenEvent SeenEvents refl (λ x xs vs. refl) event_builds e p

unnamed_builds : {es : List Event} {vs : List Seen} (d : NormalDeclaration) → Builds es vs → Builds (trace_base d es) (SeenDeclaration (declared_as d.kind d.package_name d.type_name d.sign d.groups [] []) ∷ vs)
unfolding trace_base make of_one
unnamed_builds d p = kind_builds d.kind (package_builds d.package_name (type_builds d.type_name (sign_builds d.sign (on (groups_build d.groups p) refl))))

mutual
  unfolding trace_member trace_members trace_arguments trace_label make make_none make_more of_one of_two of_three of_four

  member_builds : {es : List Event} {vs : List Seen} (m : NormalMember) → Builds es vs → Builds (trace_member m es) (SeenMember m ∷ vs)
  member_builds (DeclarationPart d) p = variable_builds d.kind d.sign d.type_name d.package_name d.groups d.name d.behind p
  member_builds (AssignPart l r) p = on (on (on p refl) refl) refl
  member_builds (ParameterPart k d x) p = on (declaration_builds d _ _ (on p refl)) refl
  member_builds (MacroPart m None s) p = on (on (on (answer_builds s p) refl) refl) refl
  member_builds (MacroPart m (Some xs) s) p = on (on (expressions_build xs (answer_builds s p)) refl) refl
  member_builds (ImportPart w) p = on (on p refl) refl
  member_builds (EnumPart d e) p = on (unnamed_builds d (connections_build e (on (groups_build d.behind p) refl))) refl
  member_builds (StructPart n d) p = on (declarations_build d (on p refl)) refl
  member_builds (InstancePart m q i c) p = given_builds m q i c (connections_build c p)
  member_builds (AlwaysPart k e b) p = on (events_build e (statements_build b p)) refl
  member_builds (ConditionalPart a) p = on (arms_build a p) refl
  member_builds (FunctionPart d i l b) p = on (declaration_builds d _ _ (declarations_build i (declarations_build l (statements_build b p)))) refl
  member_builds (LoopPart i x e None m) p = on (on (on (members_build m p) refl) refl) refl
  member_builds (LoopPart i x e (Some l) m) p = on (on (on (members_build m p) refl) refl) refl

  members_build : {es : List Event} {vs : List Seen} (ms : NormalMembers) → Builds es vs → Builds (trace_members ms es) (SeenMembers ms ∷ vs)
  members_build NoParts p = on p refl
  members_build (MoreParts m ms) p = on (member_builds m (members_build ms p)) refl

-- Modules and files.

parameter_builds : (q : NormalParameter) (es : List Event) (vs : List Seen) → Builds es vs → Builds (trace_parameter q es) (SeenParameter q ∷ vs)
unfolding trace_parameter make of_one of_two
parameter_builds q es vs p = on (declaration_builds q.declaration _ _ (on p refl)) refl

port_builds : (q : NormalPort) (es : List Event) (vs : List Seen) → Builds es vs → Builds (trace_port q es) (SeenPort q ∷ vs)
unfolding trace_port make of_one
port_builds q es vs p = on (declaration_builds q.declaration _ _ p) refl

parameters_build : {es : List Event} {vs : List Seen} (q : List NormalParameter) → Builds es vs → Builds (trace_parameters q es) (SeenParameters q ∷ vs)
unfolding make_none make_more of_one of_two
parameters_build q p = list_builds listed.Parameter trace_parameter SeenParameter SeenParameters refl (λ x xs vs. refl) parameter_builds q p

ports_build : {es : List Event} {vs : List Seen} (q : List NormalPort) → Builds es vs → Builds (trace_ports q es) (SeenPorts q ∷ vs)
unfolding make_none make_more of_one of_two
ports_build q p = list_builds listed.Port trace_port SeenPort SeenPorts refl (λ x xs vs. refl) port_builds q p

item_builds : (i : NormalItem) (es : List Event) (vs : List Seen) → Builds es vs → Builds (trace_item i es) (SeenItem i ∷ vs)
unfolding trace_item make of_one of_two of_three of_four
item_builds (ModulePart m) es vs p = on (on (parameters_build m.parameters (ports_build m.ports (members_build m.members p))) refl) refl
item_builds (IncludePart path) es vs p = on (on (on p refl) refl) refl
item_builds (FileImportPart w) es vs p = on (on p refl) refl
item_builds (MemberPart m) es vs p = on (member_builds m p) refl

file_builds : {es : List Event} {vs : List Seen} (t : NormalFile) → Builds es vs → Builds (trace t es) (SeenFile t ∷ vs)
unfolding trace make_none make_more of_one of_two
file_builds t p = list_builds listed.Item trace_item SeenItem (λ is. SeenFile (record { items = is })) refl (λ x xs vs. refl) item_builds t.items p

pub trace_builds : TraceBuilds
trace_builds t es vs p = (file_builds t (record { so = p })).so

pub trace_is_one : TraceIsOne
unfolding built
trace_is_one t u e =
    let a : built (trace t []) ≡ Some (SeenFile t ∷ []) = trace_builds t [] [] refl in
    let b : built (trace u []) ≡ Some (SeenFile u ∷ []) = trace_builds u [] [] refl in
    let c : Some (SeenFile t ∷ []) ≡ Some (SeenFile u ∷ []) = sym a ∙ (ap built e ∙ b) in cc c
