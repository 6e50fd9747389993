-- What the typed relations say of declarations, the page spells and tells.
use Rattle.std.proofs.Common.{◌≡◌, ℕ, List, [], ◌∷◌, ◌++◌, Bool, Option, IsTrue, refl, subst, append-nil}
use Rattle.vast_literal.specs.FileGrammar.{is_kind, is_sign, is_member_kind, is_local_kind, IsMany, no_items, more_items, IsGroup, one, range, IsMaybe, absent, present, IsTypeName, no_type, own_type, packaged, IsDeclaration, declares, IsDeclared, declared, IsVariable, variable}
use Rattle.vast_literal.specs.NormalFile.{Group, NormalDeclaration}
use Rattle.vast_literal.specs.Tokens.{Token, Reserved, Word, Mark}
use Rattle.vast_rows.specs.declared.action.Action.TheVariants.{KindOf, SignOf, Declares}
use Rattle.vast_rows.specs.declared.rule.Rule.{Rule as RuleName}
use Rattle.vast_rows.specs.declared.rule.Rule.TheVariants.{Declaration, KindWord, Declarator, SignWord, AfterWord, OwnType, SignedName, GroupedName, AfterGroups, FirstGroups, Groups, BracketGroup, GroupEnd, Member, NetKind, AfterName, TypedName, AfterNames, LocalKind, Local}
use Rattle.vast_rows.specs.Events.{Event, Makes, Names}
use Rattle.vast_rows.specs.Numbers.{Key, WireKey, RegKey, LogicKey, IntegerKey, IntKey, GenvarKey, SignedKey, UnsignedKey, IfKey, Semicolon}
use Rattle.vast_rows.specs.Phrases.{expression}
use Rattle.vast_rows.specs.Symbols.{word, mark, rule}
use Rattle.vast_rows.specs.Trace.{trace_list, trace_group, trace_groups, trace_key, trace_package, trace_type, trace_named, trace_declaration, trace_variable}
use Rattle.vast_rows.proofs.Spelling.{Node, Spelled, stop, tok, phr, thens, nod, at, along}

pub kind_to : (k : Key) (es : List Event) → IsTrue (is_kind k) → Node KindWord (Reserved k ∷ []) (Makes (KindOf k) ∷ es) es
unfolding is_kind
kind_to WireKey es h = at KindWord 0 refl (tok _ refl stop)
kind_to RegKey es h = at KindWord 1 refl (tok _ refl stop)
kind_to LogicKey es h = at KindWord 2 refl (tok _ refl stop)
kind_to IntegerKey es h = at KindWord 3 refl (tok _ refl stop)
kind_to IntKey es h = at KindWord 4 refl (tok _ refl stop)
kind_to GenvarKey es h = at KindWord 5 refl (tok _ refl stop)
kind_to IfKey es h = absurd (cc h)
kind_to _ es h = absurd (cc h)

net_to : (k : Key) (es : List Event) → IsTrue (is_member_kind k) → Node NetKind (Reserved k ∷ []) (Makes (KindOf k) ∷ es) es
unfolding is_member_kind
net_to WireKey es h = at NetKind 0 refl (tok _ refl stop)
net_to RegKey es h = at NetKind 1 refl (tok _ refl stop)
net_to LogicKey es h = at NetKind 2 refl (tok _ refl stop)
net_to IfKey es h = absurd (cc h)
net_to _ es h = absurd (cc h)

local_to : (k : Key) (es : List Event) → IsTrue (is_local_kind k) → Node LocalKind (Reserved k ∷ []) (Makes (KindOf k) ∷ es) es
unfolding is_local_kind
local_to RegKey es h = at LocalKind 0 refl (tok _ refl stop)
local_to LogicKey es h = at LocalKind 1 refl (tok _ refl stop)
local_to IfKey es h = absurd (cc h)
local_to _ es h = absurd (cc h)

pub sign_to : (k : Key) (es : List Event) → IsTrue (is_sign k) → Node SignWord (Reserved k ∷ []) (Makes (SignOf k) ∷ es) es
unfolding is_sign
sign_to SignedKey es h = at SignWord 0 refl (tok _ refl stop)
sign_to UnsignedKey es h = at SignWord 1 refl (tok _ refl stop)
sign_to IfKey es h = absurd (cc h)
sign_to _ es h = absurd (cc h)

group_to : {ts : List Token} {g : Group} {es : List Event} → IsGroup ts g → Node BracketGroup ts (trace_group g es) es
unfolding trace_group
group_to (one p) = at BracketGroup 0 refl (tok _ refl (phr (expression p) (at GroupEnd 0 refl (tok _ refl stop))))
group_to (range p q) = at BracketGroup 0 refl (tok _ refl (phr (expression p) (at GroupEnd 1 refl (tok _ refl (phr (expression q) (tok _ refl stop))))))

pub groups_to : {ts : List Token} {g : List Group} {es : List Event} → IsMany IsGroup ts g → Node Groups ts (trace_groups g es) es
unfolding trace_list
groups_to no_items = at Groups 0 refl stop
groups_to (more_items x xs) = at Groups 1 refl (nod (group_to x) (groups_to xs))

first_groups_to : {ts us : List Token} {g : Group} {gs : List Group} {es : List Event} → IsGroup ts g → IsMany IsGroup us gs → Node FirstGroups (ts ++ us) (trace_groups (g ∷ gs) es) es
unfolding trace_list
first_groups_to x xs = at FirstGroups 0 refl (nod (group_to x) (groups_to xs))

-- A name and the groups after it, with groups before it, and with a sign before those.
name_to : {hs : List Token} {h : List Group} {es : List Event} (n : List ℕ) → IsMany IsGroup hs h → Spelled (word ∷ (rule Groups ∷ [])) (Word n ∷ hs) (Names n ∷ trace_groups h es) es
name_to n h = tok (Word n) refl (groups_to h)

grouped_to : {gs hs : List Token} {g h : List Group} {es : List Event} (n : List ℕ) → IsMany IsGroup gs g → IsMany IsGroup hs h → Node GroupedName (gs ++ (Word n ∷ hs)) (Makes Declares ∷ trace_groups g (Names n ∷ trace_groups h es)) es
grouped_to n g h = at GroupedName 0 refl (nod (groups_to g) (name_to n h))

signed_to : {us : List Token} {es fs : List Event} (k : Key) → IsTrue (is_sign k) → Node GroupedName us es fs → Spelled (rule SignWord ∷ (rule GroupedName ∷ [])) (Reserved k ∷ us) (Makes (SignOf k) ∷ es) fs
signed_to k s p = nod (sign_to k _ s) p

declarator_to : {ts ss gs hs : List Token} {p t : Option (List ℕ)} {s : Option Key} {g h : List Group} {es : List Event} (n : List ℕ) → IsTypeName ts p t → IsMaybe is_sign ss s → IsMany IsGroup gs g → IsMany IsGroup hs h →
    Node Declarator (ts ++ (ss ++ (gs ++ (Word n ∷ hs)))) (trace_named p t s g n h es) es
unfolding trace_named trace_package trace_type trace_key trace_list
declarator_to n no_type (present k s) g h = at Declarator 0 refl (signed_to k s (grouped_to n g h))
declarator_to {hs = hs} n no_type absent no_items h = at Declarator 2 refl (tok (Word n) refl (at AfterWord 2 refl (along (append-nil hs) (nod (groups_to h) (at AfterGroups 0 refl stop)))))
declarator_to n no_type absent (more_items x xs) h = at Declarator 1 refl (nod (first_groups_to x xs) (name_to n h))
declarator_to n (own_type t) absent g h = at Declarator 2 refl (tok (Word t) refl (at AfterWord 2 refl (nod (groups_to g) (at AfterGroups 1 refl (name_to n h)))))
declarator_to n (own_type t) (present k s) g h = at Declarator 2 refl (tok (Word t) refl (at AfterWord 1 refl (signed_to k s (grouped_to n g h))))
declarator_to n (packaged p t) absent g h = at Declarator 2 refl (tok (Word p) refl (at AfterWord 0 refl (tok _ refl (at OwnType 0 refl (tok (Word t) refl (at SignedName 0 refl (grouped_to n g h)))))))
declarator_to n (packaged p t) (present k s) g h = at Declarator 2 refl (tok (Word p) refl (at AfterWord 0 refl (tok _ refl (at OwnType 0 refl (tok (Word t) refl (at SignedName 1 refl (signed_to k s (grouped_to n g h))))))))

pub declaration_to : {ts : List Token} {d : NormalDeclaration} {es : List Event} → IsDeclaration ts d → Node Declaration ts (trace_declaration d es) es
unfolding trace_declaration trace_key
declaration_to (declares n absent t s g h) = at Declaration 0 refl (declarator_to n t s g h)
declaration_to (declares n (present k i) t s g h) = at Declaration 1 refl (nod (kind_to k _ i) (declarator_to n t s g h))

-- A declaration with a kind of its own, and a semicolon.
with_kind : {test : Key → Bool} {ts : List Token} {d : NormalDeclaration} {es : List Event} (name : RuleName) → ((k : Key) (fs : List Event) → IsTrue (test k) → Node name (Reserved k ∷ []) (Makes (KindOf k) ∷ fs) fs) →
    IsDeclared test ts d → Spelled (rule name ∷ (rule Declarator ∷ (mark Semicolon ∷ []))) ts (trace_declaration d es) es
unfolding trace_declaration trace_key
with_kind name kind (declared k e i (declares n absent t s g h)) = absurd (cc e)
with_kind {test} name kind (declared k e i (declares n (present j w) t s g h)) = let same : k ≡ j = cc e in
    nod (kind j _ (subst (λ (v : Key). IsTrue (test v)) same i)) (nod (declarator_to n t s g h) (tok (Mark Semicolon) refl stop))

pub variable_to : {ts : List Token} {d : NormalDeclaration} {es : List Event} → IsVariable ts d → Node Member ts (trace_variable d.kind d.sign d.type_name d.package_name d.groups d.name d.behind es) es
unfolding trace_variable trace_list
variable_to (variable t k w s (declares n (present _ _) y i g h)) = absurd (cc k)
variable_to (variable t k w s (declares n absent y (present _ _) g h)) = absurd (cc s)
variable_to (variable t k w s (declares n absent no_type absent g h)) = absurd (cc w)
variable_to (variable t k w s (declares n absent (own_type v) absent no_items no_items)) = at Member 5 refl (tok (Word v) refl (at AfterName 3 refl (tok (Word n) refl (at AfterNames 0 refl (tok _ refl stop)))))
variable_to (variable t k w s (declares n absent (own_type v) absent no_items (more_items x xs))) = at Member 5 refl (tok (Word v) refl (at AfterName 3 refl (tok (Word n) refl (at AfterNames 1 refl (nod (first_groups_to x xs) (tok _ refl stop))))))
variable_to (variable t k w s (declares n absent (own_type v) absent (more_items x xs) h)) = at Member 5 refl (tok (Word v) refl (at AfterName 1 refl (thens (nod (first_groups_to x xs) (name_to n h)) (tok (Mark Semicolon) refl stop))))
variable_to (variable t k w s (declares n absent (packaged p v) absent g h)) = at Member 5 refl (tok (Word p) refl (at AfterName 0 refl (tok _ refl (nod (at TypedName 0 refl (tok (Word v) refl (grouped_to n g h))) (tok _ refl stop)))))

pub net_to_rows : {ts : List Token} {d : NormalDeclaration} {es : List Event} → IsDeclared is_member_kind ts d → Node Member ts (trace_variable d.kind d.sign d.type_name d.package_name d.groups d.name d.behind es) es
unfolding trace_variable trace_declaration trace_key
net_to_rows {es = es} (declared k e i (declares n absent t s g h)) = absurd (cc e)
net_to_rows {es = es} (declared k e i (declares n (present j w) t s g h)) = at Member 0 refl (with_kind NetKind net_to (declared k e i (declares n (present j w) t s g h)))

pub local_declared : {ts : List Token} {d : NormalDeclaration} {es : List Event} → IsDeclared is_local_kind ts d → Node Local ts (trace_declaration d es) es
local_declared d = at Local 0 refl (with_kind LocalKind local_to d)
