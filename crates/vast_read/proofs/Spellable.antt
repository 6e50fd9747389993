-- What the grammar derives has no keyword that it does not use, and so none of the tokens that stand for a fault of the text.
use Rattle.std.proofs.Common.{◌≡◌, ℕ, List, [], ◌∷◌, ◌++◌, Bool, true, false, ◌&&◌, Option, refl}
use Rattle.vast_literal.specs.Shape.{always_words}
use Rattle.vast_literal.specs.Tokens.{Token, Keyword}
use Rattle.vast_literal.specs.declared.kind.AlwaysKind.{AlwaysKind as AlwaysWord}
use Rattle.vast_literal.specs.declared.kind.AlwaysKind.TheVariants.{AlwaysFF as AlwaysFFWord, AlwaysAt as AlwaysAtWord, AlwaysStar as AlwaysStarWord}
use Rattle.vast_literal.specs.declared.token.Key.{Key}
use Rattle.vast_literal.specs.NormalExpr.{NormalExpr, NormalExprs}
use Rattle.vast_literal.specs.NormalFile.{NormalStatement, NormalStatements, Arms, Labels, Group, NormalDeclaration, Event, NormalConnection, NormalMember, NormalMembers, NormalParameter, NormalPort, NormalItem, NormalFile}
use Rattle.vast_literal.specs.Grammar.{Spells, up, ternary, binary, unary, index, slice, part_select, member_of, name, number, based, quoted, paren, call, system_alone, system_call, concat, replicated, array_pattern, macro_alone, macro_call, number_cast, name_cast, package_cast, paren_cast, word_cast, SpellsList, none, some, SpellsJoined, last, next}
use Rattle.vast_literal.specs.FileGrammar.{IsMany, no_items, more_items, IsJoined, last_item, next_item, IsList, empty, full, arrow, IsUnique, unique, not_unique, IsStatement, simple, assigned, task, choice, cases, counted, IsCases, cased, IsAssign, assigns, IsStatements, done, then, IsChoice, only, otherwise, or, IsLabels, no_labels, label, default, IsBody, body, bare, IsGroup, one, range, IsMaybe, absent, present, IsTypeName, no_type, own_type, packaged, IsDeclaration, declares, IsEvent, edge, plain, IsInput, input, IsDeclared, declared, variable, IsGiven, given, IsConnection, connected, unconnected, IsGivenList, no_parameters, with_parameters, IsSemicolon, with_one, without, IsLabel, no_label, labelled, IsFunctionBody, block_body, casez_body, IsEntry, valued, unvalued, IsField, field, IsTypedef, enumeration, structure, IsMember, declaration, of_type, continuous, parameter, macro, macro_with, import_member, typedef_member, instance, unclocked, clocked, conditional, function, loop, IsMembers, closed, and_member, IsParameter, header_parameter, IsPort, port, IsParameters, no_header_parameters, header_parameters, IsPorts, no_ports, ports, IsItem, module_item, include_item, import_item, typedef_item, IsFile, file}

-- Whether a token is one of the grammar's.
abbrev pub is_used : Token → Bool
is_used (Keyword w) = false
is_used _ = true

-- Whether all are.
abbrev pub are_used : List Token → Bool
are_used [] = true
are_used (t ∷ ts) = is_used t && are_used ts

-- The tokens are the grammar's.
pub data Used : List Token → Type 0 where
  nothing : Used []
  and : {t : Token} {ts : List Token} → is_used t ≡ true → Used ts → Used (t ∷ ts)

pub used : (ts : List Token) → Used ts → are_used ts ≡ true
used ts nothing = refl
used ts (and e h) = rw e (used _ h)

both : {ts us : List Token} → Used ts → Used us → Used (ts ++ us)
both nothing g = g
both (and e h) g = and e (both h g)

mutual
  expression_used : {k : ℕ} {ts : List Token} {x : NormalExpr} → Spells k ts x → Used ts
  expression_used (up l s) = expression_used s
  expression_used (ternary c a b) = both (expression_used c) (and refl (both (expression_used a) (and refl (expression_used b))))
  expression_used (binary op p l r) = both (expression_used l) (and refl (expression_used r))
  expression_used (unary op p s) = and refl (expression_used s)
  expression_used (index s i) = both (expression_used s) (and refl (both (expression_used i) (and refl nothing)))
  expression_used (slice s h l) = both (expression_used s) (and refl (both (expression_used h) (and refl (both (expression_used l) (and refl nothing)))))
  expression_used (part_select n s i) = both (expression_used s) (and refl (both (expression_used i) (and refl (and refl (and refl nothing)))))
  expression_used (member_of m s) = both (expression_used s) (and refl (and refl nothing))
  expression_used (name w) = and refl nothing
  expression_used (number w) = and refl nothing
  expression_used (based w) = and refl nothing
  expression_used (quoted w) = and refl nothing
  expression_used (paren s) = and refl (both (expression_used s) (and refl nothing))
  expression_used (call f s) = and refl (and refl (both (list_used s) (and refl nothing)))
  expression_used (system_call f s) = and refl (and refl (both (list_used s) (and refl nothing)))
  expression_used (concat s) = and refl (both (list_used s) (and refl nothing))
  expression_used (replicated n s) = and refl (both (expression_used n) (and refl (both (list_used s) (and refl (and refl nothing)))))
  expression_used (array_pattern s) = and refl (and refl (both (list_used s) (and refl nothing)))
  expression_used (system_alone f) = and refl nothing
  expression_used (macro_alone m) = and refl nothing
  expression_used (macro_call m s) = and refl (and refl (both (list_used s) (and refl nothing)))
  expression_used (number_cast n s) = and refl (and refl (and refl (both (expression_used s) (and refl nothing))))
  expression_used (name_cast n s) = and refl (and refl (and refl (both (expression_used s) (and refl nothing))))
  expression_used (package_cast p n s) = and refl (and refl (and refl (and refl (and refl (both (expression_used s) (and refl nothing))))))
  expression_used (paren_cast h s) = and refl (both (expression_used h) (and refl (and refl (and refl (both (expression_used s) (and refl nothing))))))
  expression_used (word_cast w p s) = and refl (and refl (and refl (both (expression_used s) (and refl nothing))))

  list_used : {ts : List Token} {xs : NormalExprs} → SpellsList ts xs → Used ts
  list_used none = nothing
  list_used (some s) = joined_used s

  joined_used : {ts : List Token} {xs : NormalExprs} → SpellsJoined ts xs → Used ts
  joined_used (last s) = expression_used s
  joined_used (next s more) = both (expression_used s) (and refl (joined_used more))

-- Lists of what is spelled.

module _ {A : Type 0} {P : List Token → A → Type 0} (each : (ts : List Token) (x : A) → P ts x → Used ts) where
  many_used : {ts : List Token} {xs : List A} → IsMany P ts xs → Used ts
  many_used no_items = nothing
  many_used (more_items p ps) = both (each _ _ p) (many_used ps)

  items_used : {between : Token} {ts : List Token} {xs : List A} → is_used between ≡ true → IsJoined P between ts xs → Used ts
  items_used b (last_item p) = each _ _ p
  items_used b (next_item p ps) = both (each _ _ p) (and b (items_used b ps))

  listed_used : {between : Token} {ts : List Token} {xs : List A} → is_used between ≡ true → IsList P between ts xs → Used ts
  listed_used b empty = nothing
  listed_used b (full ps) = items_used b ps

-- Statements.

unique_used : {ts : List Token} {b : Bool} → IsUnique ts b → Used ts
unique_used unique = and refl nothing
unique_used not_unique = nothing

arrow_used : (b : Bool) → is_used (arrow b) ≡ true
unfolding arrow
arrow_used true = refl
arrow_used false = refl

assign_used : {ts : List Token} {s : NormalStatement} → IsAssign ts s → Used ts
assign_used (assigns b l r) = both (expression_used l) (and (arrow_used b) (both (expression_used r) (and refl nothing)))

mutual
  statement_used : {ts : List Token} {s : NormalStatement} → IsStatement ts s → Used ts
  statement_used (simple a) = assign_used a
  statement_used (assigned l r) = and refl (both (expression_used l) (and refl (both (expression_used r) (and refl nothing))))
  statement_used (task x) = both (expression_used x) (and refl nothing)
  statement_used (choice c) = choice_used c
  statement_used (cases k is c) = cases_used c
  statement_used (counted i x c b) =
      and refl (and refl (and refl (and refl (and refl (both (expression_used x) (and refl (both (expression_used c)
      (and refl (and refl (and refl (and refl (and refl (and refl (and refl (and refl (statements_used b))))))))))))))))

  cases_used : {k : Key} {z : Bool} {ts : List Token} {s : NormalStatement} → IsCases k z ts s → Used ts
  cases_used (cased u x a) = both (unique_used u) (and refl (and refl (both (expression_used x) (and refl (labels_used a)))))

  statements_used : {ts : List Token} {ss : NormalStatements} → IsStatements ts ss → Used ts
  statements_used done = and refl nothing
  statements_used (then s more) = both (statement_used s) (statements_used more)

  choice_used : {ts : List Token} {a : Arms} → IsChoice ts a → Used ts
  choice_used (only c b) = and refl (and refl (both (expression_used c) (and refl (and refl (statements_used b)))))
  choice_used (otherwise c b d) = and refl (and refl (both (expression_used c) (and refl (and refl (both (statements_used b) (and refl (and refl (statements_used d))))))))
  choice_used (or c b more) = and refl (and refl (both (expression_used c) (and refl (and refl (both (statements_used b) (and refl (choice_used more)))))))

  labels_used : {z : Bool} {ts : List Token} {a : Labels} → IsLabels z ts a → Used ts
  labels_used no_labels = and refl nothing
  labels_used (label x b more) = both (expression_used x) (and refl (both (body_used b) (labels_used more)))
  labels_used (default b more) = and refl (and refl (both (body_used b) (labels_used more)))

  body_used : {z : Bool} {ts : List Token} {b : NormalStatements} → IsBody z ts b → Used ts
  body_used (body s) = and refl (statements_used s)
  body_used (bare a) = assign_used a

-- Declarations.

group_used : {ts : List Token} {g : Group} → IsGroup ts g → Used ts
group_used (one x) = and refl (both (expression_used x) (and refl nothing))
group_used (range h l) = and refl (both (expression_used h) (and refl (both (expression_used l) (and refl nothing))))

maybe_used : {test : Key → Bool} {ts : List Token} {k : Option Key} → IsMaybe test ts k → Used ts
maybe_used absent = nothing
maybe_used (present w p) = and refl nothing

type_used : {ts : List Token} {p t : Option (List ℕ)} → IsTypeName ts p t → Used ts
type_used no_type = nothing
type_used (own_type w) = and refl nothing
type_used (packaged v w) = and refl (and refl (and refl nothing))

declaration_used : {ts : List Token} {d : NormalDeclaration} → IsDeclaration ts d → Used ts
declaration_used (declares n k t s gs hs) = both (maybe_used k) (both (type_used t) (both (maybe_used s) (both (many_used (λ us y p. group_used p) gs) (and refl (many_used (λ us y p. group_used p) hs)))))

-- Members.

event_used : {ts : List Token} {e : Event} → IsEvent ts e → Used ts
event_used (edge k p x) = and refl (expression_used x)
event_used (plain w) = and refl nothing

input_used : {ts : List Token} {d : NormalDeclaration} → IsInput ts d → Used ts
input_used (input i) = and refl (declaration_used i)

declared_used : {test : Key → Bool} {ts : List Token} {d : NormalDeclaration} → IsDeclared test ts d → Used ts
declared_used (declared k e p i) = both (declaration_used i) (and refl nothing)

given_used : {ts : List Token} {c : NormalConnection} → IsGiven ts c → Used ts
given_used (given n x) = and refl (and refl (and refl (both (expression_used x) (and refl nothing))))

connection_used : {ts : List Token} {c : NormalConnection} → IsConnection ts c → Used ts
connection_used (connected g) = given_used g
connection_used (unconnected n) = and refl (and refl (and refl (and refl nothing)))

givens_used : {ts : List Token} {c : List NormalConnection} → IsGivenList ts c → Used ts
givens_used no_parameters = nothing
givens_used (with_parameters g) = and refl (and refl (both (items_used (λ us y p. given_used p) refl g) (and refl nothing)))

semicolon_used : {ts : List Token} {b : Bool} → IsSemicolon ts b → Used ts
semicolon_used with_one = and refl nothing
semicolon_used without = nothing

block_label_used : {ts : List Token} {l : Option (List ℕ)} → IsLabel ts l → Used ts
block_label_used no_label = nothing
block_label_used (labelled w) = and refl (and refl nothing)

function_body_used : {ts : List Token} {b : NormalStatements} → IsFunctionBody ts b → Used ts
function_body_used (block_body s) = and refl (statements_used s)
function_body_used (casez_body c) = cases_used c

entry_used : {ts : List Token} {c : NormalConnection} → IsEntry ts c → Used ts
entry_used (valued n x) = and refl (and refl (expression_used x))
entry_used (unvalued n) = and refl nothing

field_used : {ts : List Token} {d : NormalDeclaration} → IsField ts d → Used ts
field_used (field i) = both (declaration_used i) (and refl nothing)

typedef_used : {ts : List Token} {m : NormalMember} → IsTypedef ts m → Used ts
typedef_used (enumeration k n p s gs es hs) =
    and refl (and refl (and refl (both (maybe_used s) (both (many_used (λ us y p. group_used p) gs) (and refl
    (both (listed_used (λ us y p. entry_used p) refl es) (and refl (and refl (both (many_used (λ us y p. group_used p) hs) (and refl nothing))))))))))
typedef_used (structure n ds) = and refl (and refl (and refl (and refl (both (many_used (λ us y p. field_used p) ds) (and refl (and refl (and refl nothing)))))))

words_used : (w : AlwaysWord) → Used (always_words w)
words_used AlwaysFFWord = and refl (and refl (and refl nothing))
words_used AlwaysAtWord = and refl (and refl (and refl nothing))
words_used AlwaysStarWord = and refl (and refl (and refl nothing))
words_used _ = and refl nothing

mutual
  member_used : {ts : List Token} {m : NormalMember} → IsMember ts m → Used ts
  member_used (declaration d) = declared_used d
  member_used (of_type (variable t k w s d)) = both (declaration_used d) (and refl nothing)
  member_used (continuous l r) = and refl (both (expression_used l) (and refl (both (expression_used r) (and refl nothing))))
  member_used (parameter k p d x) = and refl (both (declaration_used d) (and refl (both (expression_used x) (and refl nothing))))
  member_used (macro n s) = and refl (semicolon_used s)
  member_used (macro_with n xs s) = and refl (and refl (both (list_used xs) (and refl (semicolon_used s))))
  member_used (import_member p) = and refl (and refl (and refl (and refl (and refl nothing))))
  member_used (typedef_member t) = typedef_used t
  member_used (instance n i ps cs) = and refl (both (givens_used ps) (and refl (and refl (both (listed_used (λ us y p. connection_used p) refl cs) (and refl (and refl nothing))))))
  member_used (unclocked w h b) = both (words_used w) (and refl (statements_used b))
  member_used (clocked w h es b) = both (words_used w) (both (listed_used (λ us y p. event_used p) refl es) (and refl (and refl (statements_used b))))
  member_used (conditional c) = choice_used c
  member_used (function d is ls b) =
      and refl (and refl (both (declaration_used d) (and refl (both (listed_used (λ us y p. input_used p) refl is)
      (and refl (and refl (both (many_used (λ us y p. declared_used p) ls) (both (function_body_used b) (and refl nothing)))))))))
  member_used (loop i x c l ms) =
      and refl (and refl (and refl (and refl (and refl (both (expression_used x) (and refl (both (expression_used c)
      (and refl (and refl (and refl (and refl (and refl (and refl (and refl (and refl (both (block_label_used l) (members_used ms)))))))))))))))))

  members_used : {k : Key} {ts : List Token} {ms : NormalMembers} → IsMembers k ts ms → Used ts
  members_used (closed w) = and refl nothing
  members_used (and_member m more) = both (member_used m) (members_used more)

-- Modules and files.

parameter_used : {ts : List Token} {p : NormalParameter} → IsParameter ts p → Used ts
parameter_used (header_parameter d x) = and refl (both (declaration_used d) (and refl (expression_used x)))

port_used : {ts : List Token} {p : NormalPort} → IsPort ts p → Used ts
port_used (port k is d) = and refl (declaration_used d)

parameters_used : {ts : List Token} {ps : List NormalParameter} → IsParameters ts ps → Used ts
parameters_used no_header_parameters = nothing
parameters_used (header_parameters l) = and refl (and refl (both (items_used (λ us y p. parameter_used p) refl l) (and refl nothing)))

ports_used : {ts : List Token} {ps : List NormalPort} → IsPorts ts ps → Used ts
ports_used no_ports = nothing
ports_used (ports l) = and refl (both (items_used (λ us y p. port_used p) refl l) (and refl nothing))

item_used : {ts : List Token} {i : NormalItem} → IsItem ts i → Used ts
item_used (module_item n ps qs ms) = and refl (and refl (both (parameters_used ps) (both (ports_used qs) (and refl (members_used ms)))))
item_used (include_item path) = and refl (and refl nothing)
item_used (import_item p) = and refl (and refl (and refl (and refl (and refl nothing))))
item_used (typedef_item t) = typedef_used t

pub file_used : (ts : List Token) (f : NormalFile) → IsFile ts f → are_used ts ≡ true
file_used ts f (file is) = used ts (many_used (λ us y p. item_used p) is)
