-- What the typed relations say of members, modules and files, the page spells and tells.
use Rattle.std.proofs.Common.{◌≡◌, ℕ, List, [], ◌∷◌, ◌++◌, Bool, true, false, codes, Option, IsTrue, refl, ap, subst, append_assoc, append-nil}
use Rattle.std.specs.Str.{bytes_eq}
use Rattle.vast_literal.specs.FileGrammar.{is_parameter_word, is_edge, is_direction, is_sign, is_local_kind, IsMany, no_items, more_items, IsJoined, last_item, next_item, IsList, empty, full, IsGroup, IsMaybe, absent, present, IsEvent, edge, plain, IsInput, input, IsDeclared, IsGiven, given, IsConnection, connected, unconnected, IsGivenList, no_parameters, with_parameters, IsSemicolon, with_one, without, IsLabel, no_label, labelled, IsFunctionBody, block_body, casez_body, IsEntry, valued, unvalued, IsField, field, IsTypedef, enumeration, structure, IsMember, declaration, of_type, continuous, parameter, macro, macro_with, import_member, typedef_member, instance, unclocked, clocked, conditional, function, loop, IsMembers, closed, and_member, IsParameter, header_parameter, IsPort, port, IsParameters, no_header_parameters, header_parameters, IsPorts, no_ports, ports, IsItem, module_item, include_item, import_item, typedef_item}
use Rattle.vast_literal.specs.Grammar.{Spells, SpellsList, none, some, SpellsJoined, last, next}
use Rattle.vast_literal.specs.NormalExpr.{NormalExpr, NormalExprs}
use Rattle.vast_literal.specs.NormalFile as normal
use Rattle.vast_literal.specs.NormalFile.{NormalStatements, Group, NormalDeclaration, NormalConnection, NormalMember, NormalMembers, NormalParameter, NormalPort, NormalItem}
use Rattle.vast_literal.specs.Shape.{always_words, has_events}
use Rattle.vast_literal.specs.Tokens.{Token, Reserved, Word, MacroWord, Mark}
use Rattle.vast_literal.specs.declared.kind.AlwaysKind.{AlwaysKind as AlwaysWord}
use Rattle.vast_literal.specs.declared.kind.AlwaysKind.TheVariants.{AlwaysFF as AlwaysFFWord, AlwaysAt as AlwaysAtWord, AlwaysComb as AlwaysCombWord, AlwaysStar as AlwaysStarWord, AlwaysLatch as AlwaysLatchWord, Initial as InitialWord}
use Rattle.vast_rows.specs.declared.action.Action.TheVariants.{PortOf, ParameterMember, AlwaysMember, EdgeOf, SignOf, Unnamed}
use Rattle.vast_rows.specs.declared.action.Listed.TheVariants as what
use Rattle.vast_rows.specs.declared.grammar.Item.{Item}
use Rattle.vast_rows.specs.declared.grammar.Item.TheVariants.{Phrase}
use Rattle.vast_rows.specs.declared.grammar.Phrase.TheVariants.{Expression}
use Rattle.vast_rows.specs.declared.rule.Rule.TheVariants.{File, FileItem, Parameters, MoreParameters, Parameter, Ports, MorePorts, Port, Direction, ModuleMembers, LoopMembers, Member, AnyMacro, MacroArguments, Expressions, MoreExpressions, LastSemicolon, AfterName, AfterNames, GivenList, Given, MoreGiven, Connections, Connection, Connected, MoreConnections, Events, OneEvent, MoreEvents, Inputs, Input, MoreInputs, Locals, Declaration, Statements, FunctionBody, NoWait, Awaited, LoopLabel, Typedef, TypeForm, BaseSign, BaseGroups, Entries, Entry, EntryValue, MoreEntries, Fields, Field}
use Rattle.vast_rows.specs.Events.{Event, Makes, Names}
use Rattle.vast_rows.specs.Numbers.{Key, Comma, Hash, OpenParen, Semicolon, Assign, BeginKey, CloseParen, InputKey, OutputKey, InOutKey, ParameterKey, LocalparamKey, PosedgeKey, NegedgeKey, OrKey, EndModuleKey, EndKey, IfKey}
use Rattle.vast_rows.specs.Phrases.{expression, target, loop_head, path}
use Rattle.vast_rows.specs.Symbols.{key, mark, rule}
use Rattle.vast_rows.specs.Trace.{read, answer, trace_list, trace_groups, trace_key, trace_package, trace_type, trace_base, trace_statements, trace_declaration, trace_declarations, trace_expressions, trace_arguments, trace_value, trace_connection, trace_connections, trace_given, trace_event, trace_events, trace_label, trace_member, trace_members, trace_parameter, trace_parameters, trace_port, trace_ports, trace_item, trace_items}
use Rattle.vast_rows.proofs.DeclarationsToRows.{kind_to, sign_to, groups_to, declaration_to, net_to_rows, variable_to, local_declared}
use Rattle.vast_rows.proofs.Spelling.{Node, Spelled, stop, tok, phr, phr_last, nod, at, along, listed, joined_to, closed_by}
use Rattle.vast_rows.proofs.StatementsToRows.{loop_tokens, statements_to, choice_to, lone_to}

direction_to : (k : Key) (es : List Event) → IsTrue (is_direction k) → Node Direction (Reserved k ∷ []) (Makes (PortOf k) ∷ es) es
unfolding is_direction
direction_to InputKey es h = at Direction 0 refl (tok _ refl stop)
direction_to OutputKey es h = at Direction 1 refl (tok _ refl stop)
direction_to InOutKey es h = at Direction 2 refl (tok _ refl stop)
direction_to IfKey es h = absurd (cc h)
direction_to _ es h = absurd (cc h)

parameter_to : (ts : List Token) (p : NormalParameter) (es : List Event) → IsParameter ts p → Node Parameter ts (trace_parameter p es) es
unfolding trace_parameter
parameter_to ts p es (header_parameter d e) = at Parameter 0 refl (tok _ refl (nod (declaration_to d) (tok _ refl (phr_last (expression e)))))

parameters_to : {ts : List Token} {p : List NormalParameter} {es : List Event} → IsParameters ts p → Node Parameters ts (trace_parameters p es) es
unfolding trace_list
parameters_to no_header_parameters = at Parameters 0 refl stop
parameters_to (header_parameters j) = listed what.Parameter trace_parameter j (at Parameters 1 refl (tok _ refl (tok _ refl (closed_by
    (joined_to what.Parameter trace_parameter parameter_to (at MoreParameters 0 refl stop) (λ us fs p. at MoreParameters 1 refl (tok (Mark Comma) refl p)) j)))))

port_to : (ts : List Token) (p : NormalPort) (es : List Event) → IsPort ts p → Node Port ts (trace_port p es) es
unfolding trace_port
port_to ts p es (port k h d) = at Port 0 refl (nod (direction_to k _ h) (declaration_to d))

ports_to : {ts : List Token} {p : List NormalPort} {es : List Event} → IsPorts ts p → Node Ports ts (trace_ports p es) es
unfolding trace_list
ports_to no_ports = at Ports 0 refl stop
ports_to (ports j) = listed what.Port trace_port j (at Ports 1 refl (tok _ refl (closed_by
    (joined_to what.Port trace_port port_to (at MorePorts 0 refl stop) (λ us fs p. at MorePorts 1 refl (tok (Mark Comma) refl p)) j))))

given_to : (ts : List Token) (c : NormalConnection) (es : List Event) → IsGiven ts c → Node Given ts (trace_connection c es) es
unfolding trace_connection trace_value
given_to ts c es (given n e) = at Given 0 refl (tok _ refl (tok (Word n) refl (tok _ refl (phr (expression e) (tok _ refl stop)))))

given_list_to : {ts : List Token} {c : List NormalConnection} {es : List Event} → IsJoined IsGiven (Mark Comma) ts c → Node GivenList (Mark Hash ∷ (Mark OpenParen ∷ (ts ++ (Mark CloseParen ∷ [])))) (trace_connections c es) es
unfolding trace_list
given_list_to j = listed what.Connection trace_connection j (at GivenList 0 refl (tok _ refl (tok _ refl (closed_by
    (joined_to what.Connection trace_connection given_to (at MoreGiven 0 refl stop) (λ us fs p. at MoreGiven 1 refl (tok (Mark Comma) refl p)) j)))))

told_given : {ts : List Token} {c : List NormalConnection} (i : List ℕ) (es : List Event) → IsJoined IsGiven (Mark Comma) ts c → trace_connections c (Names i ∷ es) ≡ trace_given c i es
unfolding trace_given
told_given i es (last_item p) = refl
told_given i es (next_item p ps) = refl

-- What follows the name of an instance's module.
instance_to : {ts us : List Token} {p : List NormalConnection} {es fs : List Event} (i : List ℕ) → IsGivenList ts p → Spelled (mark OpenParen ∷ (rule Connections ∷ (mark CloseParen ∷ (mark Semicolon ∷ [])))) us es fs → Node AfterName (ts ++ (Word i ∷ us)) (trace_given p i es) fs
unfolding trace_given
instance_to i no_parameters q = at AfterName 3 refl (tok (Word i) refl (at AfterNames 2 refl q))
instance_to {us = us} {es = es} {fs = fs} i (with_parameters {ts = gs} j) q = subst (λ (v : List Event). Node AfterName ((Mark Hash ∷ (Mark OpenParen ∷ (gs ++ (Mark CloseParen ∷ [])))) ++ (Word i ∷ us)) v fs) (told_given i es j)
    (at AfterName 2 refl (nod (given_list_to j) (tok (Word i) refl q)))

connection_to : (ts : List Token) (c : NormalConnection) (es : List Event) → IsConnection ts c → Node Connection ts (trace_connection c es) es
unfolding trace_connection trace_value
connection_to ts c es (connected (given n e)) = at Connection 0 refl (tok _ refl (tok (Word n) refl (tok _ refl (nod (at Connected 1 refl (phr_last (expression e))) (tok _ refl stop)))))
connection_to ts c es (unconnected n) = at Connection 0 refl (tok _ refl (tok (Word n) refl (tok _ refl (nod (at Connected 0 refl stop) (tok _ refl stop)))))

connections_to : {ts : List Token} {c : List NormalConnection} {es : List Event} → IsList IsConnection (Mark Comma) ts c → Node Connections ts (trace_connections c es) es
unfolding trace_list
connections_to empty = at Connections 0 refl stop
connections_to (full j) = listed what.Connection trace_connection j (at Connections 1 refl
    (joined_to what.Connection trace_connection connection_to (at MoreConnections 0 refl stop) (λ us fs p. at MoreConnections 1 refl (tok (Mark Comma) refl p)) j))

edge_to : {xs : List Token} {x : NormalExpr} {es : List Event} (k : Key) → IsTrue (is_edge k) → Spells 0 xs x → Node OneEvent (Reserved k ∷ xs) (Makes (EdgeOf k) ∷ read x ∷ es) es
unfolding is_edge
edge_to PosedgeKey h p = at OneEvent 0 refl (tok _ refl (phr_last (expression p)))
edge_to NegedgeKey h p = at OneEvent 1 refl (tok _ refl (phr_last (expression p)))
edge_to IfKey h p = absurd (cc h)
edge_to _ h p = absurd (cc h)

event_to : (ts : List Token) (e : normal.Event) (es : List Event) → IsEvent ts e → Node OneEvent ts (trace_event e es) es
unfolding trace_event
event_to ts e es (edge k h p) = edge_to k h p
event_to ts e es (plain w) = at OneEvent 2 refl (tok (Word w) refl stop)

events_to : {ts : List Token} {e : List normal.Event} {es : List Event} → IsList IsEvent (Reserved OrKey) ts e → Node Events ts (trace_events e es) es
unfolding trace_list
events_to empty = at Events 0 refl stop
events_to (full j) = listed what.Event trace_event j (at Events 1 refl
    (joined_to what.Event trace_event event_to (at MoreEvents 0 refl stop) (λ us fs p. at MoreEvents 1 refl (tok (Reserved OrKey) refl p)) j))

input_to : (ts : List Token) (d : NormalDeclaration) (es : List Event) → IsInput ts d → Node Input ts (trace_declaration d es) es
input_to ts d es (input p) = at Input 0 refl (tok _ refl (declaration_to p))

inputs_to : {ts : List Token} {d : List NormalDeclaration} {es : List Event} → IsList IsInput (Mark Comma) ts d → Node Inputs ts (trace_declarations d es) es
unfolding trace_list
inputs_to empty = at Inputs 0 refl stop
inputs_to (full j) = listed what.Declaration trace_declaration j (at Inputs 1 refl
    (joined_to what.Declaration trace_declaration input_to (at MoreInputs 0 refl stop) (λ us fs p. at MoreInputs 1 refl (tok (Mark Comma) refl p)) j))

locals_to : {ts : List Token} {d : List NormalDeclaration} {es : List Event} → IsMany (IsDeclared is_local_kind) ts d → Node Locals ts (trace_declarations d es) es
unfolding trace_list
locals_to no_items = at Locals 0 refl stop
locals_to (more_items l ls) = at Locals 1 refl (nod (local_declared l) (locals_to ls))

function_body_to : {ts : List Token} {b : NormalStatements} {es : List Event} → IsFunctionBody ts b → Node FunctionBody ts (trace_statements b es) es
unfolding trace_statements
function_body_to (block_body b) = at FunctionBody 0 refl (tok _ refl (statements_to b))
function_body_to (casez_body c) = at FunctionBody 1 refl (lone_to c)

semicolon_to : {ts : List Token} {s : Bool} {es : List Event} → IsSemicolon ts s → Node LastSemicolon ts (answer s ∷ es) es
semicolon_to without = at LastSemicolon 0 refl stop
semicolon_to with_one = at LastSemicolon 1 refl (tok _ refl stop)

label_to : {ts : List Token} {l : Option (List ℕ)} {es : List Event} → IsLabel ts l → Node LoopLabel ts (trace_label l es) es
unfolding trace_label
label_to no_label = at LoopLabel 0 refl stop
label_to (labelled w) = at LoopLabel 1 refl (tok _ refl (tok (Word w) refl stop))

macro_to : {es : List Event} (m : List ℕ) → Node AnyMacro (MacroWord m ∷ []) (Names m ∷ es) es
macro_to {es} m = go (bytes_eq m (codes "include")) refl
  where
    go : (b : Bool) → bytes_eq m (codes "include") ≡ b → Node AnyMacro (MacroWord m ∷ []) (Names m ∷ es) es
    go false e = at AnyMacro 0 refl (tok (MacroWord m) (rw e refl) stop)
    go true e = at AnyMacro 1 refl (tok (MacroWord m) (rw e refl) stop)

more_expressions_to : {ts : List Token} {xs : NormalExprs} {es : List Event} → SpellsJoined ts xs → Node MoreExpressions (Mark Comma ∷ ts) (trace_expressions xs es) es
unfolding trace_expressions
more_expressions_to (last {ts = ts} p) = at MoreExpressions 1 refl (tok _ refl (along (append-nil ts) (phr (expression p) (at MoreExpressions 0 refl stop))))
more_expressions_to (next p j) = at MoreExpressions 1 refl (tok _ refl (phr (expression p) (more_expressions_to j)))

expressions_to : {ts : List Token} {xs : NormalExprs} {es : List Event} → SpellsList ts xs → Node Expressions ts (trace_expressions xs es) es
unfolding trace_expressions
expressions_to none = at Expressions 0 refl stop
expressions_to (some (last {ts = ts} p)) = at Expressions 1 refl (along (append-nil ts) (phr (expression p) (at MoreExpressions 0 refl stop)))
expressions_to (some (next p j)) = at Expressions 1 refl (phr (expression p) (more_expressions_to j))

-- Types that are declared by name.
entry_to : (ts : List Token) (c : NormalConnection) (es : List Event) → IsEntry ts c → Node Entry ts (trace_connection c es) es
unfolding trace_connection trace_value
entry_to ts c es (valued n e) = at Entry 0 refl (tok (Word n) refl (at EntryValue 1 refl (tok _ refl (phr_last (expression e)))))
entry_to ts c es (unvalued n) = at Entry 0 refl (tok (Word n) refl (at EntryValue 0 refl stop))

entries_to : {ts : List Token} {c : List NormalConnection} {es : List Event} → IsList IsEntry (Mark Comma) ts c → Node Entries ts (trace_connections c es) es
unfolding trace_list
entries_to empty = at Entries 0 refl stop
entries_to (full j) = listed what.Connection trace_connection j (at Entries 1 refl
    (joined_to what.Connection trace_connection entry_to (at MoreEntries 0 refl stop) (λ us fs p. at MoreEntries 1 refl (tok (Mark Comma) refl p)) j))

field_to : {ts : List Token} {d : NormalDeclaration} {es : List Event} → IsField ts d → Node Field ts (trace_declaration d es) es
field_to (field d) = at Field 0 refl (nod (declaration_to d) (tok _ refl stop))

fields_to : {ts : List Token} {d : List NormalDeclaration} {es : List Event} → IsMany IsField ts d → Node Fields ts (trace_declarations d es) es
unfolding trace_list
fields_to no_items = at Fields 0 refl stop
fields_to (more_items f fs) = at Fields 1 refl (nod (field_to f) (fields_to fs))

base_to : {items : List Item} {ss gs us : List Token} {s : Option Key} {g : List Group} {es fs : List Event} → IsMaybe is_sign ss s → IsMany IsGroup gs g → Spelled items us es fs →
    Spelled (rule BaseSign ∷ items) (ss ++ (gs ++ us)) (trace_key SignOf s (Makes Unnamed ∷ trace_groups g es)) fs
unfolding trace_key
base_to absent g p = nod (at BaseSign 0 refl (at BaseGroups 0 refl (groups_to g))) p
base_to (present k h) g p = nod (at BaseSign 1 refl (nod (sign_to k _ h) (at BaseGroups 0 refl (groups_to g)))) p

typedef_to : {ts : List Token} {m : NormalMember} {es : List Event} → IsTypedef ts m → Node Typedef ts (trace_member m es) es
unfolding trace_member trace_base trace_key trace_package trace_type
typedef_to (enumeration k n h s g e b) =
    at Typedef 0 refl (tok _ refl (at TypeForm 0 refl (tok _ refl (nod (kind_to k _ h) (base_to s g (tok _ refl (nod (entries_to e) (tok _ refl (tok (Word n) refl (nod (groups_to b) (tok _ refl stop)))))))))))
typedef_to (structure n d) = at Typedef 0 refl (tok _ refl (at TypeForm 1 refl (tok _ refl (tok _ refl (tok _ refl (nod (fields_to d) (tok _ refl (tok (Word n) refl (tok _ refl stop)))))))))

-- After a word of a parameter, and after the words of an always block.
parameter_member : {us : List Token} {es fs : List Event} (k : Key) → IsTrue (is_parameter_word k) → Spelled (rule Declaration ∷ (mark Assign ∷ (Phrase Expression ∷ (mark Semicolon ∷ [])))) us es fs → Node Member (Reserved k ∷ us) (Makes (ParameterMember k) ∷ es) fs
unfolding is_parameter_word
parameter_member ParameterKey h p = at Member 2 refl (tok _ refl p)
parameter_member LocalparamKey h p = at Member 3 refl (tok _ refl p)
parameter_member IfKey h p = absurd (cc h)
parameter_member _ h p = absurd (cc h)

clocked_to : {us : List Token} {es fs : List Event} (w : AlwaysWord) → IsTrue (has_events w) → Spelled (rule Events ∷ (mark CloseParen ∷ (key BeginKey ∷ (rule Statements ∷ [])))) us es fs → Node Member (always_words w ++ us) (Makes (AlwaysMember w) ∷ es) fs
clocked_to AlwaysFFWord h p = at Member 9 refl (tok _ refl (tok _ refl (tok _ refl p)))
clocked_to AlwaysAtWord h p = at Member 10 refl (tok _ refl (tok _ refl (at Awaited 0 refl (tok _ refl p))))
clocked_to AlwaysCombWord h p = absurd (cc h)
clocked_to _ h p = absurd (cc h)

unclocked_to : {us : List Token} {es fs : List Event} (w : AlwaysWord) → has_events w ≡ false → Spelled (rule NoWait ∷ (key BeginKey ∷ (rule Statements ∷ []))) us es fs → Node Member (always_words w ++ us) (Makes (AlwaysMember w) ∷ es) fs
unclocked_to AlwaysCombWord h p = at Member 6 refl (tok _ refl p)
unclocked_to AlwaysLatchWord h p = at Member 7 refl (tok _ refl p)
unclocked_to InitialWord h p = at Member 8 refl (tok _ refl p)
unclocked_to AlwaysStarWord h p = at Member 10 refl (tok _ refl (tok _ refl (at Awaited 1 refl (tok _ refl p))))
unclocked_to AlwaysFFWord h p = absurd (cc h)
unclocked_to AlwaysAtWord h p = absurd (cc h)

mutual
  unfolding trace_member trace_members trace_arguments trace_list

  member_to : {ts : List Token} {m : NormalMember} {es : List Event} → IsMember ts m → Node Member ts (trace_member m es) es
  member_to (declaration d) = net_to_rows d
  member_to (of_type d) = variable_to d
  member_to (continuous p q) = at Member 1 refl (tok _ refl (phr (target p) (tok _ refl (phr (expression q) (tok _ refl stop)))))
  member_to (parameter k h d p) = parameter_member k h (nod (declaration_to d) (tok _ refl (phr (expression p) (tok _ refl stop))))
  member_to (macro m s) = at Member 4 refl (nod (macro_to m) (nod (at MacroArguments 0 refl stop) (semicolon_to s)))
  member_to (macro_with {ts = ts} {ss = ss} m es s) = at Member 4 refl (nod (macro_to m) (along (ap (λ (v : List Token). Mark OpenParen ∷ v) (append_assoc ts (Mark CloseParen ∷ []) ss)) (nod (at MacroArguments 1 refl (tok _ refl (nod (expressions_to es) (tok _ refl stop)))) (semicolon_to s))))
  member_to (instance m i p c) = at Member 5 refl (tok (Word m) refl (instance_to i p (tok _ refl (nod (connections_to c) (tok _ refl (tok _ refl stop))))))
  member_to (unclocked w h b) = unclocked_to w h (nod (at NoWait 0 refl stop) (tok _ refl (statements_to b)))
  member_to (clocked w h e b) = clocked_to w h (nod (events_to e) (tok _ refl (tok _ refl (statements_to b))))
  member_to (conditional a) = at Member 11 refl (choice_to a)
  member_to (function d i l b) = at Member 12 refl (tok _ refl (tok _ refl (nod (declaration_to d) (tok _ refl (nod (inputs_to i) (tok _ refl (tok _ refl (nod (locals_to l) (nod (function_body_to b) (tok _ refl stop))))))))))
  member_to (loop {xs = xs} {cs = cs} i p q l m) = at Member 13 refl (tok _ refl (tok _ refl (tok _ refl (along (loop_tokens xs cs _ i) (phr (loop_head i p q) (tok _ refl (nod (label_to l) (loop_members_to m))))))))
  member_to (import_member p) = at Member 14 refl (tok _ refl (tok (Word p) refl (tok _ refl (tok _ refl (tok _ refl stop)))))
  member_to (typedef_member t) = at Member 15 refl (typedef_to t)

  loop_members_to : {ts : List Token} {m : NormalMembers} {es : List Event} → IsMembers EndKey ts m → Node LoopMembers ts (trace_members m es) es
  loop_members_to (closed k) = at LoopMembers 0 refl (tok _ refl stop)
  loop_members_to (and_member m ms) = at LoopMembers 1 refl (nod (member_to m) (loop_members_to ms))

module_members_to : {ts : List Token} {m : NormalMembers} {es : List Event} → IsMembers EndModuleKey ts m → Node ModuleMembers ts (trace_members m es) es
unfolding trace_members
module_members_to (closed k) = at ModuleMembers 0 refl (tok _ refl stop)
module_members_to (and_member m ms) = at ModuleMembers 1 refl (nod (member_to m) (module_members_to ms))

item_to : {ts : List Token} {i : NormalItem} {es : List Event} → IsItem ts i → Node FileItem ts (trace_item i es) es
unfolding trace_item
item_to (module_item n p q m) = at FileItem 0 refl (tok _ refl (tok (Word n) refl (nod (parameters_to p) (nod (ports_to q) (tok _ refl (module_members_to m))))))
item_to (include_item p) = at FileItem 1 refl (tok (MacroWord (codes "include")) refl (phr_last (path p)))
item_to (import_item p) = at FileItem 2 refl (tok _ refl (tok (Word p) refl (tok _ refl (tok _ refl (tok _ refl stop)))))
item_to (typedef_item t) = at FileItem 3 refl (typedef_to t)

pub items_to : {ts : List Token} {is : List NormalItem} {es : List Event} → IsMany IsItem ts is → Node File ts (trace_items is es) es
unfolding trace_list
items_to no_items = at File 0 refl stop
items_to (more_items i is) = at File 1 refl (nod (item_to i) (items_to is))
