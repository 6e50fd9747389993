-- The rows of members, modules and files make what the typed relations say.
use Rattle.std.proofs.Common.{[], ◌∷◌, Some, refl, append_assoc, append-nil}
use Rattle.vast_literal.specs.FileGrammar.{is_parameter_word, is_edge, no_items, more_items, empty, full, absent, present, own_type, packaged, declares, edge, plain, input, declared, variable, given, connected, unconnected, no_parameters, with_parameters, with_one, without, no_label, labelled, block_body, casez_body, valued, unvalued, field, enumeration, structure, declaration, of_type, continuous, parameter, macro, macro_with, import_member, typedef_member, instance, unclocked, clocked, conditional, function, loop, closed, and_member, header_parameter, port, no_header_parameters, header_parameters, no_ports, ports, module_item, include_item, import_item, typedef_item}
use Rattle.vast_literal.specs.Grammar.{none, some, last, next}
use Rattle.vast_literal.specs.NormalFile.{LoopPart}
use Rattle.vast_literal.specs.Tokens.{Word, Mark}
use Rattle.vast_literal.specs.declared.kind.AlwaysKind.TheVariants.{AlwaysFF as AlwaysFFWord, AlwaysAt as AlwaysAtWord, AlwaysComb as AlwaysCombWord, AlwaysStar as AlwaysStarWord, AlwaysLatch as AlwaysLatchWord, Initial as InitialWord}
use Rattle.vast_rows.specs.declared.rule.Rule.TheVariants.{File, FileItem, Parameters, Parameter, Ports, Port, ModuleMembers, LoopMembers, Member, Awaited, AnyMacro, MacroArguments, Expressions, MoreExpressions, LastSemicolon, AfterName, TypedName, AfterNames, GivenList, Given, Connections, Connection, Connected, Events, OneEvent, Inputs, Input, Locals, Local, FunctionBody, LoopLabel, Typedef, TypeForm, BaseSign, BaseGroups, Entries, Entry, EntryValue, Fields, Field}
use Rattle.vast_rows.specs.Numbers.{CloseParen, Semicolon, ParameterKey, LocalparamKey, PosedgeKey, NegedgeKey, EndModuleKey, EndKey}
use Rattle.vast_rows.specs.Phrases.{expression, target, loop_head, path}
use Rattle.vast_rows.proofs.Meant.{Makes, is_key, is_macro, is_nothing, is_grouped}
use Rattle.vast_rows.proofs.MakesDeclarations.{net_is_kind, local_is_kind}

pub file0 : Makes File 0
file0 = (_, no_items)

pub file1 : Makes File 1
file1 ts i us is = (_, more_items i.1 is.1)

pub item0 : Makes FileItem 0
item0 n ps p qs q ms m = (_, module_item n p.1 q.1 m.1)

pub item1 : Makes FileItem 1
item1 ts m (path p) = (_, include_item p)

pub item2 : Makes FileItem 2
item2 p = (_, import_item p)

pub item3 : Makes FileItem 3
item3 ts t = (_, typedef_item t.1)

pub parameters0 : Makes Parameters 0
parameters0 = (_, no_header_parameters)

pub parameters1 : Makes Parameters 1
parameters1 ts p us more = let r = more ts p.0 p.1 in rw (← append_assoc ts us (Mark CloseParen ∷ [])) (_, header_parameters r.1)

pub parameter0 : Makes Parameter 0
parameter0 ds d xs m (expression p) = (_, header_parameter d.1 p)

pub ports0 : Makes Ports 0
ports0 = (_, no_ports)

pub ports1 : Makes Ports 1
ports1 ts p us more = let r = more ts p.0 p.1 in rw (← append_assoc ts us (Mark CloseParen ∷ [])) (_, ports r.1)

pub port0 : Makes Port 0
port0 ks (is_key k h) ds d = (_, port k h d.1)

pub module_members0 : Makes ModuleMembers 0
module_members0 = (_, closed EndModuleKey)

pub module_members1 : Makes ModuleMembers 1
module_members1 ts m us ms = (_, and_member m.1 ms.1)

pub loop_members0 : Makes LoopMembers 0
loop_members0 = (_, closed EndKey)

pub loop_members1 : Makes LoopMembers 1
loop_members1 ts m us ms = (_, and_member m.1 ms.1)

pub member0 : Makes Member 0
member0 ks (is_key k h) ds d = let r = d ks (Some k) (present k (net_is_kind k h)) in (_, declaration (declared k r.2 h r.1))

pub member1 : Makes Member 1
member1 ls m (target p) rs n (expression q) = (_, continuous p q)

pub member2 : Makes Member 2
unfolding is_parameter_word
member2 ds d xs m (expression p) = (_, parameter ParameterKey refl d.1 p)

pub member3 : Makes Member 3
unfolding is_parameter_word
member3 ds d xs m (expression p) = (_, parameter LocalparamKey refl d.1 p)

pub member4 : Makes Member 4
member4 ts (is_macro m) us after ss s = after m ss s.0 s.1

pub member5 : Makes Member 5
member5 w us after = after w

pub member6 : Makes Member 6
member6 ns is_nothing bs b = (_, unclocked AlwaysCombWord refl b.1)

pub member7 : Makes Member 7
member7 ns is_nothing bs b = (_, unclocked AlwaysLatchWord refl b.1)

pub member8 : Makes Member 8
member8 ns is_nothing bs b = (_, unclocked InitialWord refl b.1)

pub member9 : Makes Member 9
member9 es e bs b = (_, clocked AlwaysFFWord refl e.1 b.1)

pub member10 : Makes Member 10
member10 us m = m

pub member11 : Makes Member 11
member11 ts a = (_, conditional a.1)

pub member12 : Makes Member 12
member12 ds d is i ls l bs b = (_, function d.1 i.1 l.1 b.1)

pub member13 : Makes Member 13
member13 ts n (loop_head {x = x} {e = e} i p q) ls l ms m = (LoopPart i x e l.0 m.0, simp append_assoc (loop i p q l.1 m.1))

pub member14 : Makes Member 14
member14 p = (_, import_member p)

pub member15 : Makes Member 15
member15 ts t = (_, typedef_member t.1)

pub awaited0 : Makes Awaited 0
awaited0 es e bs b = (_, clocked AlwaysAtWord refl e.1 b.1)

pub awaited1 : Makes Awaited 1
awaited1 ns is_nothing bs b = (_, unclocked AlwaysStarWord refl b.1)

pub macro0 : Makes AnyMacro 0
macro0 m = is_macro m

pub arguments0 : Makes MacroArguments 0
arguments0 m ss s h = (_, macro m h)

pub arguments1 : Makes MacroArguments 1
arguments1 ts es m ss s h = rw (append_assoc ts (Mark CloseParen ∷ []) ss) (_, macro_with m es.1 h)

pub expressions0 : Makes Expressions 0
expressions0 = (_, none)

pub expressions1 : Makes Expressions 1
expressions1 ts m (expression {x = x} p) us more = let r = more ts x p in (_, some r.1)

pub more_expressions0 : Makes MoreExpressions 0
more_expressions0 ts x p = rw (append-nil ts) (_, last p)

pub more_expressions1 : Makes MoreExpressions 1
more_expressions1 us m (expression {x = y} q) vs more ts x p = let r = more us y q in (_, next p r.1)

pub semicolon0 : Makes LastSemicolon 0
semicolon0 = (_, without)

pub semicolon1 : Makes LastSemicolon 1
semicolon1 = (_, with_one)

pub after_name0 : Makes AfterName 0
after_name0 us typed w = typed w

pub after_name1 : Makes AfterName 1
after_name1 fs f n hs b w = rw (← append_assoc fs (Word n ∷ hs) (Mark Semicolon ∷ [])) (_, of_type (variable w refl refl refl (declares n absent (own_type w) absent f.1 b.1)))

pub after_name2 : Makes AfterName 2
after_name2 ps p i cs c w = (_, instance w i p.1 c.1)

pub after_name3 : Makes AfterName 3
after_name3 v us after w = after w v

pub typed_name0 : Makes TypedName 0
typed_name0 t us (is_grouped n g b) p = (_, of_type (variable t refl refl refl (declares n absent (packaged p t) absent g b)))

pub after_names0 : Makes AfterNames 0
after_names0 w v = (_, of_type (variable w refl refl refl (declares v absent (own_type w) absent no_items no_items)))

pub after_names1 : Makes AfterNames 1
after_names1 gs g w v = (_, of_type (variable w refl refl refl (declares v absent (own_type w) absent no_items g.1)))

pub after_names2 : Makes AfterNames 2
after_names2 cs c w v = (_, instance w v no_parameters c.1)

pub given_list0 : Makes GivenList 0
given_list0 ts c us more = let r = more ts c.0 c.1 in rw (← append_assoc ts us (Mark CloseParen ∷ [])) (_, with_parameters r.1)

pub given0 : Makes Given 0
given0 n xs m (expression p) = (_, given n p)

pub connections0 : Makes Connections 0
connections0 = (_, empty)

pub connections1 : Makes Connections 1
connections1 ts c us more = let r = more ts c.0 c.1 in (_, full r.1)

pub connection0 : Makes Connection 0
connection0 n us after = after n

pub connected0 : Makes Connected 0
connected0 n = (_, unconnected n)

pub connected1 : Makes Connected 1
connected1 xs m (expression p) n = (_, connected (given n p))

pub events0 : Makes Events 0
events0 = (_, empty)

pub events1 : Makes Events 1
events1 ts c us more = let r = more ts c.0 c.1 in (_, full r.1)

pub event0 : Makes OneEvent 0
unfolding is_edge
event0 xs m (expression p) = (_, edge PosedgeKey refl p)

pub event1 : Makes OneEvent 1
unfolding is_edge
event1 xs m (expression p) = (_, edge NegedgeKey refl p)

pub event2 : Makes OneEvent 2
event2 w = (_, plain w)

pub inputs0 : Makes Inputs 0
inputs0 = (_, empty)

pub inputs1 : Makes Inputs 1
inputs1 ts c us more = let r = more ts c.0 c.1 in (_, full r.1)

pub input0 : Makes Input 0
input0 ds d = (_, input d.1)

pub locals0 : Makes Locals 0
locals0 = (_, no_items)

pub locals1 : Makes Locals 1
locals1 ts l us ls = (_, more_items l.1 ls.1)

pub local0 : Makes Local 0
local0 ks (is_key k h) ds d = let r = d ks (Some k) (present k (local_is_kind k h)) in (_, declared k r.2 h r.1)

pub function_body0 : Makes FunctionBody 0
function_body0 bs b = (_, block_body b.1)

pub function_body1 : Makes FunctionBody 1
function_body1 us u ts after es is_nothing = let s = after us u.0 u.1 in rw (append-nil ts) (_, casez_body s.1)

pub label0 : Makes LoopLabel 0
label0 = (_, no_label)

pub label1 : Makes LoopLabel 1
label1 w = (_, labelled w)

pub typedef0 : Makes Typedef 0
typedef0 us m = m

pub type_form0 : Makes TypeForm 0
type_form0 ks (is_key k i) us enumerates es e n hs h = enumerates k n es hs e.0 h.0 i e.1 h.1

pub type_form1 : Makes TypeForm 1
type_form1 ds d n = (_, structure n d.1)

pub base_sign0 : Makes BaseSign 0
base_sign0 gs g k n es hs e h i entries behind = (_, enumeration k n i absent g.1 entries behind)

pub base_sign1 : Makes BaseSign 1
base_sign1 ss (is_key s j) gs g k n es hs e h i entries behind = (_, enumeration k n i (present s j) g.1 entries behind)

pub base_groups0 : Makes BaseGroups 0
base_groups0 gs g = g

pub entries0 : Makes Entries 0
entries0 = (_, empty)

pub entries1 : Makes Entries 1
entries1 ts c us more = let r = more ts c.0 c.1 in (_, full r.1)

pub entry0 : Makes Entry 0
entry0 n us after = after n

pub entry_value0 : Makes EntryValue 0
entry_value0 n = (_, unvalued n)

pub entry_value1 : Makes EntryValue 1
entry_value1 xs m (expression p) n = (_, valued n p)

pub fields0 : Makes Fields 0
fields0 = (_, no_items)

pub fields1 : Makes Fields 1
fields1 ts f us fs = (_, more_items f.1 fs.1)

pub field0 : Makes Field 0
field0 ds d = (_, field d.1)
