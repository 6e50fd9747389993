-- The tokens of a member's page spell its normal form.
use Rattle.std.proofs.Common.{◌≡◌, ℕ, List, [], ◌∷◌, ◌++◌, map, Bool, true, false, ◌&&◌, ◌||◌, Option, Some, None, IsTrue, refl, append_assoc, append-nil}
use Rattle.vast_literal.specs.Tokens.{OpenParen, CloseParen, OpenBrace, CloseBrace, Comma, Semicolon, Dot, Key, BeginKey, EndKey, WireKey, RegKey, LogicKey, IntegerKey, IntKey, TypedefKey, EnumKey, PosedgeKey, NegedgeKey, OrKey, Token, Reserved, Word, Mark}
use Rattle.vast_literal.specs.Tree.{Dialect, ExprTree, NameTree, PosEdgeTree, NegEdgeTree, MacroTree, TypeTree, ScalarTree, VectorTree, IntegerTree, IntTree, PackedTree, UnpackedTree, MaybeExpr, NoExpr, SomeExpr, Exprs, NoExprs, MoreExprs, NoArguments, SomeArguments, ExternalTree, PackageTree, Kind, RegKind, WireKind, LogicKind, UserKind, Declaration, Continuous, AlwaysWord, AlwaysFFWord, AlwaysAtWord, AlwaysCombWord, AlwaysStarWord, AlwaysLatchWord, InitialWord, ParameterName, PlainParameter, IntParameter, DefinedParameter, Connection, InstanceTree, FunctionTree, TypedefTree, EnumTree, StructTree, MemberTree, DeclarationMember, AssignMember, ParameterMember, CommentMember, BlankMember, InlineMember, ImportMember, TypedefMember, MacroMember, InstanceMember, AlwaysMember, ConditionalMember, FunctionMember, LoopMember, Members, NoMembers, MoreMembers}
use Rattle.vast_literal.specs.NormalExpr.{NormalExpr}
use Rattle.vast_literal.specs.NormalFile.{NormalStatements, Group, Event, NormalConnection, DeclarationPart, AssignPart, EnumPart, InstancePart, NormalMembers}
use Rattle.vast_literal.specs.Grammar.{Spells, name}
use Rattle.vast_literal.specs.FileGrammar.{IsMany, no_items, more_items, IsJoined, last_item, next_item, IsList, empty, full, IsStatements, is_kind, IsGroup, absent, present, no_type, IsDeclaration, declares, is_member_kind, is_local_kind, is_parameter_word, is_edge, IsEvent, edge, plain, IsInput, input, IsDeclared, declared, variable, IsGiven, given, IsConnection, connected, unconnected, IsGivenList, no_parameters, with_parameters, IsSemicolon, with_one, without, IsLabel, no_label, labelled, IsEntry, valued, unvalued, IsField, field, IsTypedef, enumeration, structure, IsMember, declaration, of_type, continuous, parameter, macro, macro_with, import_member, typedef_member, instance, unclocked, clocked, conditional, function, loop, IsMembers, closed, and_member}
use Rattle.vast_literal.specs.Plain.{is_plain_name, is_plain, are_plain}
use Rattle.vast_literal.specs.Shape.{base_of, base_kind, is_external, result_kind}
use Rattle.vast_literal.proofs.ExprTokens.{expr_tokens}
use Rattle.vast_literal.specs.WellFormed.{is_well_formed, is_well_formed_type}
use Rattle.vast_literal.specs.NormalTree.{kind_key, package_of, type_name_of, sign_of, normal_declaration, normal_declared, normal_label, parameter_key, normal_parameter_name, normal_arguments, normal_macro, normal_connection, normal_event, normal_events, normal_always, normal_port_declaration, normal_function, normal_typedef, normal_member_before, normal_members}
use Rattle.vast_literal.proofs.FileTokens.{maybe_tokens, type_name_tokens, declared_tokens, assignment_tokens, separated, parameter_name_tokens, semicolon_tokens, value_tokens, connection_tokens, each_connection, given_tokens, instance_tokens, more_event_tokens, event_tokens, always_tokens, each_input, local_tokens, function_tokens, loop_label_tokens, entry_value_tokens, each_entry, typedef_tokens, member_tokens, members_tokens}
use Rattle.vast_literal.specs.PlainFile.{is_plain_maybe, is_left_side, is_plain_declaration, is_plain_declared, is_worded, is_plain_variable, are_plain_statements, are_plain_alternates, is_plain_event, are_plain_events, are_plain_awaited, is_plain_parameter_name, are_plain_connections, is_plain_instance, is_plain_function, is_plain_label, is_built_in, is_plain_typedef, is_plain_member, are_plain_members}
use Rattle.vast_literal.specs.WellFormedFile.{is_well_formed_maybe, is_own_kind, is_local_word, is_macro, are_well_formed_statements, are_well_formed_alternates, is_well_formed_event, are_well_formed_events, is_well_formed_parameter_name, are_well_formed_connections, is_given, are_given, are_well_formed_inputs, are_well_formed_locals, is_well_formed_function, is_well_formed_typedef, is_well_formed_member, are_well_formed_members}
use Rattle.vast_literal.proofs.ScanLaws.{and_left, and_right}
use Rattle.vast_literal.proofs.Spelled.{list_spells, each_spelled}
use Rattle.vast_literal.proofs.DeclarationSpelled.{value_spelled, left_spelled, test_spelled, sign_spelled, groups_spelled, behind_spelled, declared_type, declared_spelled, port_declaration_spelled, named_spelled}
use Rattle.vast_literal.proofs.StatementsSpelled.{statements_spelled, choice_spelled, function_body_spelled}
use Rattle.vast_literal.specs.LiteralToken.{every}

-- lists of items with commas

pub data Each {A : Type 0} (P : List Token → A → Type 0) : List (List Token) → List A → Type 0 where
  each_none : Each P [] []
  each_more : {ts : List Token} {x : A} {parts : List (List Token)} {xs : List A} → P ts x → Each P parts xs → Each P (ts ∷ parts) (x ∷ xs)

pub each_joined : {A : Type 0} {P : List Token → A → Type 0} (ts : List Token) (x : A) {parts : List (List Token)} {xs : List A} → P ts x → Each P parts xs → IsJoined P (Mark Comma) (separated (ts ∷ parts)) (x ∷ xs)
unfolding separated
each_joined ts x p each_none = last_item p
each_joined ts x p (each_more {ts = us} {x = y} q more) = next_item p (each_joined us y q more)

pub each_list : {A : Type 0} {P : List Token → A → Type 0} {parts : List (List Token)} {xs : List A} → Each P parts xs → IsList P (Mark Comma) (separated parts) xs
unfolding separated
each_list each_none = empty
each_list (each_more {ts = ts} {x = x} p more) = full (each_joined ts x p more)

-- connections

value_connected : (n : List ℕ) (v : MaybeExpr) → is_plain_maybe v ≡ true → is_well_formed_maybe v ≡ true → IsConnection (Mark Dot ∷ (Word n ∷ (Mark OpenParen ∷ (value_tokens v ++ (Mark CloseParen ∷ []))))) (record { name = n; value = normal_label v })
unfolding value_tokens normal_label
value_connected n NoExpr p w = unconnected n
value_connected n (SomeExpr e) p w = connected (given n (value_spelled e p w))

connection_spelled : (c : Connection) → is_plain_maybe c.value ≡ true → is_well_formed_maybe c.value ≡ true → IsConnection (connection_tokens c) (normal_connection c)
unfolding connection_tokens normal_connection
connection_spelled c p w = value_connected c.name c.value p w

connections_spelled : (cs : List Connection) → are_plain_connections cs ≡ true → are_well_formed_connections cs ≡ true → Each IsConnection (each_connection cs) (map normal_connection cs)
unfolding each_connection
connections_spelled [] p w = each_none
connections_spelled (c ∷ cs) p w = each_more (connection_spelled c (and_right (is_plain_name c.name) (is_plain_maybe c.value) (and_left _ _ p)) (and_left _ _ w))
    (connections_spelled cs (and_right (is_plain_name c.name && is_plain_maybe c.value) (are_plain_connections cs) p) (and_right (is_well_formed_maybe c.value) (are_well_formed_connections cs) w))

value_given : (n : List ℕ) (v : MaybeExpr) → is_plain_maybe v ≡ true → is_given v ≡ true → IsGiven (Mark Dot ∷ (Word n ∷ (Mark OpenParen ∷ (value_tokens v ++ (Mark CloseParen ∷ []))))) (record { name = n; value = normal_label v })
unfolding value_tokens normal_label
value_given n NoExpr p w = absurd (cc w)
value_given n (SomeExpr e) p w = given n (value_spelled e p w)

given_spelled : (c : Connection) → is_plain_maybe c.value ≡ true → is_given c.value ≡ true → IsGiven (connection_tokens c) (normal_connection c)
unfolding connection_tokens normal_connection
given_spelled c p w = value_given c.name c.value p w

each_given : (cs : List Connection) → are_plain_connections cs ≡ true → are_given cs ≡ true → Each IsGiven (each_connection cs) (map normal_connection cs)
unfolding each_connection
each_given [] p w = each_none
each_given (c ∷ cs) p w = each_more (given_spelled c (and_right (is_plain_name c.name) (is_plain_maybe c.value) (and_left _ _ p)) (and_left _ _ w))
    (each_given cs (and_right (is_plain_name c.name && is_plain_maybe c.value) (are_plain_connections cs) p) (and_right (is_given c.value) (are_given cs) w))

givens_spelled : (cs : List Connection) → are_plain_connections cs ≡ true → are_given cs ≡ true → IsGivenList (given_tokens cs) (map normal_connection cs)
unfolding given_tokens each_connection
givens_spelled [] p w = no_parameters
givens_spelled (c ∷ cs) p w = with_parameters (each_joined _ _ (given_spelled c (and_right (is_plain_name c.name) (is_plain_maybe c.value) (and_left _ _ p)) (and_left _ _ w))
    (each_given cs (and_right (is_plain_name c.name && is_plain_maybe c.value) (are_plain_connections cs) p) (and_right (is_given c.value) (are_given cs) w)))

instance_spelled : (i : InstanceTree) → is_plain_instance i ≡ true → (are_given i.parameters && are_well_formed_connections i.connections) ≡ true →
    IsMember (instance_tokens i) (InstancePart i.module_name (map normal_connection i.parameters) i.instance_name (map normal_connection i.connections))
unfolding instance_tokens
instance_spelled i p w =
    let p1 = and_right (is_plain_name i.module_name && is_plain_name i.instance_name) (are_plain_connections i.parameters && are_plain_connections i.connections) p in
    instance i.module_name i.instance_name (givens_spelled i.parameters (and_left _ _ p1) (and_left _ _ w))
    (each_list (connections_spelled i.connections (and_right (are_plain_connections i.parameters) (are_plain_connections i.connections) p1) (and_right (are_given i.parameters) (are_well_formed_connections i.connections) w)))

-- events

event_spelled : (e : ExprTree) → is_plain_event e ≡ true → is_well_formed_event e ≡ true → IsEvent (expr_tokens e) (normal_event e)
unfolding expr_tokens normal_event is_edge
event_spelled (PosEdgeTree e) p w = edge PosedgeKey refl (value_spelled e p w)
event_spelled (NegEdgeTree e) p w = edge NegedgeKey refl (value_spelled e p w)
event_spelled (NameTree n type) p w = plain n
event_spelled _ p w = absurd (cc w)

more_events_spelled : (es : Exprs) {ts : List Token} {x : Event} → IsEvent ts x → are_plain_events es ≡ true → are_well_formed_events es ≡ true → IsJoined IsEvent (Reserved OrKey) (ts ++ more_event_tokens es) (x ∷ normal_events es)
unfolding more_event_tokens normal_events
more_events_spelled NoExprs h p w = rw append-nil (last_item h)
more_events_spelled (MoreExprs e es) h p w = next_item h (more_events_spelled es (event_spelled e (and_left _ _ p) (and_left _ _ w)) (and_right (is_plain_event e) (are_plain_events es) p) (and_right (is_well_formed_event e) (are_well_formed_events es) w))

events_spelled : (es : Exprs) → are_plain_events es ≡ true → are_well_formed_events es ≡ true → IsList IsEvent (Reserved OrKey) (event_tokens es) (normal_events es)
unfolding event_tokens normal_events
events_spelled NoExprs p w = empty
events_spelled (MoreExprs e es) p w = full (more_events_spelled es (event_spelled e (and_left _ _ p) (and_left _ _ w)) (and_right (is_plain_event e) (are_plain_events es) p) (and_right (is_well_formed_event e) (are_well_formed_events es) w))

always_spelled : (word : AlwaysWord) (es : Exprs) {bs : List Token} {b : NormalStatements} → are_plain_awaited word es ≡ true → are_well_formed_events es ≡ true → IsStatements bs b → IsMember (always_tokens word es (Reserved BeginKey ∷ bs)) (normal_always word es b)
unfolding always_tokens normal_always
always_spelled AlwaysFFWord es p w h = clocked AlwaysFFWord refl (events_spelled es p w) h
always_spelled AlwaysAtWord es p w h = clocked AlwaysAtWord refl (events_spelled es p w) h
always_spelled AlwaysCombWord es p w h = unclocked AlwaysCombWord refl h
always_spelled AlwaysStarWord es p w h = unclocked AlwaysStarWord refl h
always_spelled AlwaysLatchWord es p w h = unclocked AlwaysLatchWord refl h
always_spelled InitialWord es p w h = unclocked InitialWord refl h

-- declarations

-- A member is declared with the word of its kind, or with the name of its type.
data Opening : Kind → Bool → Type 0 where
  by_kind : {kind : Kind} {external : Bool} (k : Key) → kind_key kind ≡ Some k → IsTrue (is_member_kind k) → Opening kind external
  by_type : {kind : Kind} → kind_key kind ≡ None → Opening kind true

opening : (kind : Kind) (external : Bool) → is_own_kind kind ≡ true → (is_worded kind || external) ≡ true → Opening kind external
unfolding kind_key is_member_kind
opening WireKind external h p = by_kind WireKey refl refl
opening RegKind external h p = by_kind RegKey refl refl
opening LogicKind external h p = by_kind LogicKey refl refl
opening UserKind true h p = by_type refl
opening UserKind false h p = absurd (cc p)
opening _ external h p = absurd (cc h)

external_name : (base : TypeTree) → is_external base ≡ true → (t : List ℕ) × (type_name_of base ≡ Some t) × (sign_of base ≡ None)
unfolding type_name_of sign_of
external_name (ExternalTree n) h = (n, refl, refl)
external_name (PackageTree p n) h = (n, refl, refl)
external_name _ h = absurd (cc h)

local_kind : (kind : Kind) → is_local_word kind ≡ true → (k : Key) × (kind_key kind ≡ Some k) × IsTrue (is_local_kind k)
unfolding kind_key is_local_kind
local_kind RegKind h = (RegKey, refl, refl)
local_kind LogicKind h = (LogicKey, refl, refl)
local_kind _ h = absurd (cc h)

kind_of : (dialect : Dialect) (d : Declaration) → (normal_declared dialect d).kind ≡ kind_key d.kind
unfolding normal_declared normal_declaration
kind_of dialect d = refl

type_of : (dialect : Dialect) (d : Declaration) → ((normal_declared dialect d).type_name ≡ type_name_of (base_of d.type)) × ((normal_declared dialect d).sign ≡ sign_of (base_of d.type))
unfolding normal_declared normal_declaration
type_of dialect d = (refl, refl)

own_spelled : (dialect : Dialect) (d : Declaration) → is_plain_variable d ≡ true → (is_own_kind d.kind && is_well_formed_type d.type) ≡ true → IsMember (declared_tokens dialect d ++ (Mark Semicolon ∷ [])) (DeclarationPart (normal_declared dialect d))
own_spelled dialect d p w = opened (is_external (base_of d.type)) refl (opening d.kind _ (and_left _ _ w) (and_left _ (is_plain_declared d) p))
  where
    spelled_parts : IsDeclaration (declared_tokens dialect d) (normal_declared dialect d)
    spelled_parts = declared_spelled dialect d (and_right (is_worded d.kind || is_external (base_of d.type)) (is_plain_declared d) p) (and_right (is_own_kind d.kind) (is_well_formed_type d.type) w)

    opened : (external : Bool) → is_external (base_of d.type) ≡ external → Opening d.kind external → IsMember (declared_tokens dialect d ++ (Mark Semicolon ∷ [])) (DeclarationPart (normal_declared dialect d))
    opened external x (by_kind k e h) = let f = kind_of dialect d in declaration (declared k (cc (e, f)) h spelled_parts)
    opened true x (by_type e) = let f = kind_of dialect d in let g = type_of dialect d in let g0 = g.0 in let g1 = g.1 in let (t, n, s) = external_name (base_of d.type) x in
        of_type (variable t (cc (e, f)) (cc (n, g0)) (cc (s, g1)) spelled_parts)

local_spelled : (dialect : Dialect) (d : Declaration) → is_plain_declared d ≡ true → (is_local_word d.kind && is_well_formed_type d.type) ≡ true → IsDeclared is_local_kind (declared_tokens dialect d ++ (Mark Semicolon ∷ [])) (normal_declared dialect d)
local_spelled dialect d p w = let (k, e, h) = local_kind d.kind (and_left _ _ w) in let f = kind_of dialect d in
    declared k (cc (e, f)) h (declared_spelled dialect d p (and_right (is_local_word d.kind) (is_well_formed_type d.type) w))

locals_spelled : (dialect : Dialect) (ds : List Declaration) → every is_plain_declared ds ≡ true → are_well_formed_locals ds ≡ true → IsMany (IsDeclared is_local_kind) (local_tokens dialect ds) (map (normal_declared dialect) ds)
unfolding local_tokens
locals_spelled dialect [] p w = no_items
locals_spelled dialect (d ∷ ds) p w = more_items (local_spelled dialect d (and_left _ _ p) (and_left _ _ w)) (locals_spelled dialect ds (and_right (is_plain_declared d) (every is_plain_declared ds) p) (and_right (is_local_word d.kind && is_well_formed_type d.type) (are_well_formed_locals ds) w))

inputs_spelled : (dialect : Dialect) (ds : List Declaration) → every is_plain_declared ds ≡ true → are_well_formed_inputs ds ≡ true → Each IsInput (each_input dialect ds) (map (normal_port_declaration dialect) ds)
unfolding each_input
inputs_spelled dialect [] p w = each_none
inputs_spelled dialect (d ∷ ds) p w = each_more (input (port_declaration_spelled dialect d (and_left _ _ p) (and_left _ _ w))) (inputs_spelled dialect ds (and_right (is_plain_declared d) (every is_plain_declared ds) p) (and_right (is_well_formed_type d.type) (are_well_formed_inputs ds) w))

function_spelled : (dialect : Dialect) (f : FunctionTree) → is_plain_function f ≡ true → is_well_formed_function f ≡ true → IsMember (function_tokens dialect f) (normal_function dialect f)
unfolding function_tokens normal_function
function_spelled dialect f p w =
    let p1 = and_right (is_plain_declaration f.result f.name) (every is_plain_declared f.inputs && (every is_plain_declared f.locals && are_plain_statements f.body)) p in
    let w1 = and_right (is_well_formed_type f.result) (are_well_formed_inputs f.inputs && (are_well_formed_locals f.locals && are_well_formed_statements f.body)) w in
    let p2 = and_right (every is_plain_declared f.inputs) (every is_plain_declared f.locals && are_plain_statements f.body) p1 in
    let w2 = and_right (are_well_formed_inputs f.inputs) (are_well_formed_locals f.locals && are_well_formed_statements f.body) w1 in
    function (named_spelled dialect f.result (result_kind dialect f.result) f.name (and_left _ _ p) (and_left _ _ w)) (each_list (inputs_spelled dialect f.inputs (and_left _ _ p1) (and_left _ _ w1)))
    (locals_spelled dialect f.locals (and_left _ _ p2) (and_left _ _ w2)) (function_body_spelled f.body (and_right (every is_plain_declared f.locals) (are_plain_statements f.body) p2) (and_right (are_well_formed_locals f.locals) (are_well_formed_statements f.body) w2))

-- types that are declared by name

entry_spelled : (n : List ℕ) (v : MaybeExpr) → is_plain_maybe v ≡ true → is_well_formed_maybe v ≡ true → IsEntry (Word n ∷ entry_value_tokens v) (record { name = n; value = normal_label v })
unfolding entry_value_tokens normal_label
entry_spelled n NoExpr p w = unvalued n
entry_spelled n (SomeExpr e) p w = valued n (value_spelled e p w)

entries_spelled : (cs : List Connection) → are_plain_connections cs ≡ true → are_well_formed_connections cs ≡ true → Each IsEntry (each_entry cs) (map normal_connection cs)
unfolding each_entry normal_connection
entries_spelled [] p w = each_none
entries_spelled (c ∷ cs) p w = each_more (entry_spelled c.name c.value (and_right (is_plain_name c.name) (is_plain_maybe c.value) (and_left _ _ p)) (and_left _ _ w))
    (entries_spelled cs (and_right (is_plain_name c.name && is_plain_maybe c.value) (are_plain_connections cs) p) (and_right (is_well_formed_maybe c.value) (are_well_formed_connections cs) w))

fields_spelled : (dialect : Dialect) (ds : List Declaration) → every is_plain_declared ds ≡ true → are_well_formed_inputs ds ≡ true → IsMany IsField (local_tokens dialect ds) (map (normal_declared dialect) ds)
unfolding local_tokens
fields_spelled dialect [] p w = no_items
fields_spelled dialect (d ∷ ds) p w = more_items (field (declared_spelled dialect d (and_left _ _ p) (and_left _ _ w))) (fields_spelled dialect ds (and_right (is_plain_declared d) (every is_plain_declared ds) p) (and_right (is_well_formed_type d.type) (are_well_formed_inputs ds) w))

built_in_base : (t : TypeTree) → is_built_in t ≡ true → is_built_in (base_of t) ≡ true
built_in_base (PackedTree t ds) h = absurd (cc h)
built_in_base (UnpackedTree t ds) h = absurd (cc h)
built_in_base _ h = h

enum_spelled : (base : TypeTree) (n : List ℕ) {gs es hs : List Token} {g h : List Group} {e : List NormalConnection} → is_built_in base ≡ true → IsMany IsGroup gs g → IsList IsEntry (Mark Comma) es e → IsMany IsGroup hs h →
    IsTypedef (Reserved TypedefKey ∷ (Reserved EnumKey ∷ (maybe_tokens (kind_key (base_kind base)) ++ (type_name_tokens base ++ (maybe_tokens (sign_of base) ++ (gs ++ (Mark OpenBrace ∷ (es ++ (Mark CloseBrace ∷ (Word n ∷ (hs ++ (Mark Semicolon ∷ []))))))))))))
    (EnumPart (record { kind = kind_key (base_kind base); package_name = package_of base; type_name = type_name_of base; sign = sign_of base; groups = g; name = n; behind = h }) e)
unfolding kind_key type_name_tokens package_of type_name_of is_kind
enum_spelled (ScalarTree signed) n b g e h = enumeration LogicKey n refl (sign_spelled (ScalarTree signed)) g e h
enum_spelled (VectorTree width value signed) n b g e h = enumeration LogicKey n refl (sign_spelled (VectorTree width value signed)) g e h
enum_spelled (IntegerTree signed) n b g e h = enumeration IntegerKey n refl (sign_spelled (IntegerTree signed)) g e h
enum_spelled (IntTree signed) n b g e h = enumeration IntKey n refl (sign_spelled (IntTree signed)) g e h
enum_spelled _ n b g e h = absurd (cc b)

pub typedef_spelled : (dialect : Dialect) (t : TypedefTree) → is_plain_typedef t ≡ true → is_well_formed_typedef t ≡ true → IsTypedef (typedef_tokens dialect t) (normal_typedef dialect t)
unfolding typedef_tokens normal_typedef normal_declaration
typedef_spelled dialect (EnumTree type n es) p w =
    let l = declared_type type n (and_left _ _ p) in
    let f = and_left _ _ w in
    let q = and_right (is_plain_declaration type n) (is_built_in type && are_plain_connections es) p in
    enum_spelled (base_of type) n (built_in_base type (and_left _ _ q)) (groups_spelled type l f)
    (each_list (entries_spelled es (and_right (is_built_in type) (are_plain_connections es) q) (and_right (is_well_formed_type type) (are_well_formed_connections es) w))) (behind_spelled dialect type l f)
typedef_spelled dialect (StructTree n ds) p w = structure n (fields_spelled dialect ds (and_right (is_plain_name n) (every is_plain_declared ds) p) w)

-- parameters, macros and loops

parameter_name_spelled : (dialect : Dialect) (n : ParameterName) → is_plain_parameter_name n ≡ true → is_well_formed_parameter_name n ≡ true → IsDeclaration (parameter_name_tokens dialect n) (normal_parameter_name dialect n)
unfolding parameter_name_tokens normal_parameter_name is_kind
parameter_name_spelled dialect (PlainParameter n) p w = declares n absent no_type absent no_items no_items
parameter_name_spelled dialect (IntParameter n) p w = declares n (present IntKey refl) no_type absent no_items no_items
parameter_name_spelled dialect (DefinedParameter d) p w = declared_spelled dialect d p w

parameter_word : (local : Bool) → IsTrue (is_parameter_word (parameter_key local))
unfolding parameter_key is_parameter_word
parameter_word true = refl
parameter_word false = refl

semicolon_spelled : (s : Bool) → IsSemicolon (semicolon_tokens s) s
semicolon_spelled true = with_one
semicolon_spelled false = without

macro_spelled : (call : ExprTree) (s : Bool) → is_plain call ≡ true → (is_macro call && is_well_formed call) ≡ true → IsMember (expr_tokens call ++ semicolon_tokens s) (normal_macro call s)
unfolding expr_tokens normal_macro normal_arguments
macro_spelled (MacroTree m NoArguments) s p w = macro m (semicolon_spelled s)
macro_spelled (MacroTree m (SomeArguments es)) s p w = simp append_assoc (macro_with m (list_spells (each_spelled es (and_right (is_plain_name m) (are_plain es) p) w)) (semicolon_spelled s))
macro_spelled _ s p w = absurd (cc w)

label_spelled : (l : Option (List ℕ)) → IsLabel (loop_label_tokens l) l
unfolding loop_label_tokens
label_spelled None = no_label
label_spelled (Some w) = labelled w

assign_member : {ls rs : List Token} {l r : NormalExpr} → Spells 13 ls l → Spells 0 rs r → IsMember (assignment_tokens Continuous ls rs) (AssignPart l r)
unfolding assignment_tokens
assign_member l r = continuous l r

mutual
  unfolding member_tokens normal_member_before

  pub members_spelled : (dialect : Dialect) (k : Key) (ms : Members) → are_plain_members ms ≡ true → are_well_formed_members ms ≡ true → IsMembers k (members_tokens dialect ms ++ (Reserved k ∷ [])) (normal_members dialect ms)
  members_spelled dialect k NoMembers p w = closed k
  members_spelled dialect k (MoreMembers m ms) p w = rw append_assoc
      (before_spelled dialect m (and_left _ _ p) (and_left _ _ w) (members_spelled dialect k ms (and_right (is_plain_member m) (are_plain_members ms) p) (and_right (is_well_formed_member m) (are_well_formed_members ms) w)))

  before_spelled : (dialect : Dialect) (m : MemberTree) {k : Key} {us : List Token} {xs : NormalMembers} → is_plain_member m ≡ true → is_well_formed_member m ≡ true → IsMembers k us xs → IsMembers k (member_tokens dialect m ++ us) (normal_member_before dialect m xs)
  before_spelled dialect (DeclarationMember d) p w rest = and_member (own_spelled dialect d p w) rest
  before_spelled dialect (AssignMember l r) p w rest =
      and_member (assign_member (left_spelled l (and_left (is_left_side l && is_plain l) (is_plain r) p) (and_left _ _ w)) (value_spelled r (and_right (is_left_side l && is_plain l) (is_plain r) p) (and_right (is_well_formed l) (is_well_formed r) w))) rest
  before_spelled dialect (ParameterMember local n v) p w rest =
      and_member (parameter (parameter_key local) (parameter_word local) (parameter_name_spelled dialect n (and_left _ _ p) (and_left _ _ w)) (value_spelled v (and_right (is_plain_parameter_name n) (is_plain v) p) (and_right (is_well_formed_parameter_name n) (is_well_formed v) w))) rest
  before_spelled dialect (CommentMember text) p w rest = rest
  before_spelled dialect BlankMember p w rest = rest
  before_spelled dialect (InlineMember text) p w rest = rest
  before_spelled dialect (ImportMember package_name) p w rest = and_member (import_member package_name) rest
  before_spelled dialect (TypedefMember t) p w rest = and_member (typedef_member (typedef_spelled dialect t p w)) rest
  before_spelled dialect (MacroMember e s) p w rest = and_member (macro_spelled e s p w) rest
  before_spelled dialect (InstanceMember i) p w rest = and_member (instance_spelled i p w) rest
  before_spelled dialect (AlwaysMember word es b) p w rest =
      and_member (always_spelled word es (and_left _ _ p) (and_left _ _ w) (statements_spelled b (and_right (are_plain_awaited word es) (are_plain_statements b) p) (and_right (are_well_formed_events es) (are_well_formed_statements b) w))) rest
  before_spelled dialect (ConditionalMember c b alternates) p w rest =
      let p1 = and_right (is_plain c) (are_plain_statements b && are_plain_alternates alternates) p in
      let w1 = and_right (is_well_formed c) (are_well_formed_statements b && are_well_formed_alternates alternates) w in
      and_member (conditional (choice_spelled alternates (value_spelled c (and_left _ _ p) (and_left _ _ w)) (statements_spelled b (and_left _ _ p1) (and_left _ _ w1))
      (and_right (are_plain_statements b) (are_plain_alternates alternates) p1) (and_right (are_well_formed_statements b) (are_well_formed_alternates alternates) w1))) rest
  before_spelled dialect (FunctionMember f) p w rest = and_member (function_spelled dialect f p w) rest
  before_spelled dialect (LoopMember i s e l ms) p w rest =
      let p1 = and_right (is_plain_name i && is_plain_label l) ((is_plain s && is_plain e) && are_plain_members ms) p in
      let p2 = and_left (is_plain s && is_plain e) (are_plain_members ms) p1 in
      let w2 = and_left (is_well_formed s && is_well_formed e) (are_well_formed_members ms) w in
      and_member (loop i (value_spelled s (and_left _ _ p2) (and_left _ _ w2)) (test_spelled i e (and_right (is_plain s) (is_plain e) p2) (and_right (is_well_formed s) (is_well_formed e) w2)) (label_spelled l)
      (members_spelled dialect EndKey ms (and_right (is_plain s && is_plain e) (are_plain_members ms) p1) (and_right (is_well_formed s && is_well_formed e) (are_well_formed_members ms) w))) rest
