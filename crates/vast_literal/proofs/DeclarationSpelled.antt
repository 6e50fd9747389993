-- The tokens of a declaration's text spell its normal form.
use Rattle.std.proofs.Common.{◌≡◌, ℕ, ℤ, pos, ◌-ℤ◌, List, [], ◌∷◌, ◌++◌, Bool, true, false, ◌&&◌, eqb, codes, Option, Some, None, refl, subst, append_assoc, append-nil, arith}
use Rattle.std.proofs.lemmas.Bool.{and_from}
use Rattle.std.specs.Fmt.{signed_decimal}
use Rattle.vast_literal.specs.Tokens.{Less, Minus, level, WireKey, RegKey, LogicKey, IntegerKey, IntKey, GenvarKey, SignedKey, UnsignedKey, Token}
use Rattle.vast_literal.specs.Tree.{Dialect, VerilogDialect, SystemVerilogDialect, LtOp, ExprTree, Exprs, NoExprs, MoreExprs, NameTree, IndexTree, SliceTree, PartSelectTree, MemberOfTree, ConcatTree, MacroTree, CallTree, TypeTree, ScalarTree, VectorTree, IntegerTree, IntTree, ExternalTree, PackageTree, PackedTree, UnpackedTree, Kind, RegKind, WireKind, LogicKind, IntegerKind, IntKind, UserKind, UntypedEnumKind, GenvarKind, Declaration}
use Rattle.vast_literal.specs.NormalExpr.{Name, Binary, scalar_sign, integer_sign, binary_operator_token, normal}
use Rattle.vast_literal.specs.Grammar.{Spells, binary, number, name as a_name, system_alone}
use Rattle.vast_literal.specs.FileGrammar.{IsMany, no_items, more_items, is_kind, is_sign, IsGroup, one, range, IsMaybe, absent, present, IsTypeName, no_type, own_type, packaged, IsDeclaration, declares}
use Rattle.vast_literal.specs.Plain.{is_plain_name, is_plain, is_plain_type, are_plain}
use Rattle.vast_literal.specs.Shape.{right_child_wraps, name_alone, starts_with_minus, literal_value, highest_index_wraps, joined, base_of, packed_dimensions, unpacked_dimensions, port_kind}
use Rattle.vast_literal.proofs.ExprTokens.{called_token, expr_tokens}
use Rattle.vast_literal.specs.WellFormed.{is_well_formed, is_well_formed_type, are_well_formed}
use Rattle.vast_literal.specs.NormalTree.{normal_task, kind_key, package_of, type_name_of, sign_of, number_expr, zero_expr, highest_index_expr, vector_groups, packed_groups, unpacked_group, unpacked_groups, normal_declaration, normal_declared, normal_port_declaration}
use Rattle.vast_literal.proofs.FileTokens.{called_tokens, test_tokens, maybe_tokens, type_name_tokens, number_tokens, zero_tokens, highest_index_tokens, vector_tokens, packed_tokens, unpacked_dimension_tokens, unpacked_tokens, declaration_tokens, declared_tokens, port_declaration_tokens}
use Rattle.vast_literal.specs.PlainFile.{is_left_side, is_call, is_plain_declaration, is_plain_declared}
use Rattle.vast_literal.proofs.ScanLaws.{and_left, and_right, by_test}
use Rattle.vast_literal.proofs.Levels.{lower}
use Rattle.vast_literal.proofs.Precedence.{literal_level, spelled_level, literal_bound, level_bound, right_bound, highest_index_bound}
use Rattle.vast_literal.proofs.Spelled.{wrapped_spells, literal_spells, low, spelled}

pub many_append : {A : Type 0} {P : List Token → A → Type 0} {ts us : List Token} {xs ys : List A} → IsMany P ts xs → IsMany P us ys → IsMany P (ts ++ us) (xs ++ ys)
many_append no_items more = more
many_append (more_items p ps) more = rw append_assoc (more_items p (many_append ps more))

pub many_one : {A : Type 0} {P : List Token → A → Type 0} {ts : List Token} {x : A} → P ts x → IsMany P ts (x ∷ [])
many_one {P = P} {ts = ts} {x = x} p = subst (λ (us : List Token). IsMany P us (x ∷ [])) (append-nil ts) (more_items p no_items)

-- expressions

pub value_spelled : (e : ExprTree) → is_plain e ≡ true → is_well_formed e ≡ true → Spells 0 (expr_tokens e) (normal e)
value_spelled e p w = low e (spelled e p w)

left_level : (e : ExprTree) → is_left_side e ≡ true → Spells (spelled_level e) (expr_tokens e) (normal e) → Spells 13 (expr_tokens e) (normal e)
left_level (NameTree n type) h s = s
left_level (IndexTree s i) h e = e
left_level (SliceTree s a b) h e = e
left_level (PartSelectTree s i n) h e = e
left_level (MemberOfTree s n) h e = e
left_level (ConcatTree count parts) h e = e
left_level _ h s = absurd (cc h)

pub left_spelled : (e : ExprTree) → (is_left_side e && is_plain e) ≡ true → is_well_formed e ≡ true → Spells 13 (expr_tokens e) (normal e)
left_spelled e p w = left_level e (and_left (is_left_side e) (is_plain e) p) (spelled e (and_right (is_left_side e) (is_plain e) p) w)

-- a call as a statement

call_level : (e : ExprTree) → is_call e ≡ true → Spells (spelled_level e) (expr_tokens e) (normal e) → Spells 13 (expr_tokens e) (normal e)
call_level (CallTree name arguments) h s = s
call_level (MacroTree name given) h s = s
call_level _ h s = absurd (cc h)

call_spelled : (e : ExprTree) → (is_call e && is_plain e) ≡ true → is_well_formed e ≡ true → Spells 13 (expr_tokens e) (normal e)
call_spelled e p w = call_level e (and_left (is_call e) (is_plain e) p) (spelled e (and_right (is_call e) (is_plain e) p) w)

alone_spelled : (name : List ℕ) → Spells 14 (called_token name ∷ []) (normal_task (Some name) (normal (CallTree name NoExprs)))
unfolding normal_task normal
alone_spelled [] = a_name []
alone_spelled (c ∷ cs) = by_test (eqb c 36) (λ e. rw e (system_alone (c ∷ cs))) (λ e. rw e (a_name (c ∷ cs)))

pub task_spelled : (e : ExprTree) → (is_call e && is_plain e) ≡ true → is_well_formed e ≡ true → Spells 13 (called_tokens (name_alone e) (expr_tokens e)) (normal_task (name_alone e) (normal e))
unfolding called_tokens normal_task
task_spelled (CallTree name NoExprs) p w = lower 14 13 _ _ (omega arith) (omega arith) (alone_spelled name)
task_spelled (CallTree name (MoreExprs part parts)) p w = call_spelled (CallTree name (MoreExprs part parts)) p w
task_spelled (MacroTree name arguments) p w = call_spelled (MacroTree name arguments) p w
task_spelled _ p w = absurd (cc p)

-- the condition of a loop

pub test_spelled : (i : List ℕ) (e : ExprTree) → is_plain e ≡ true → is_well_formed e ≡ true → Spells 0 (test_tokens i e) (Binary Less (Name i) (normal e))
unfolding level binary_operator_token
test_spelled i e p w = let b = level_bound e in
    lower 7 0 _ _ (omega arith) (omega arith) (binary Less (omega arith) (lower 14 7 _ _ (omega arith) (omega arith) (a_name i))
    (wrapped_spells (right_child_wraps LtOp e) (spelled_level e) 8 _ _ (omega arith) (omega arith) (right_bound LtOp e) (spelled e p w)))

-- numbers

number_spelled : (z : ℤ) → Spells 0 (number_tokens z) (number_expr z)
number_spelled z = let t = signed_decimal z in let b = literal_bound (starts_with_minus t) in lower (literal_level t) 0 _ _ (omega arith) (omega arith) (literal_spells t)

zero_spelled : Spells 0 zero_tokens zero_expr
zero_spelled = lower 14 0 _ _ (omega arith) (omega arith) (number (codes "0"))

highest_index_spelled : (w : ExprTree) (v : Option ℤ) → is_plain w ≡ true → is_well_formed w ≡ true → Spells 0 (highest_index_tokens w v) (highest_index_expr w v)
unfolding highest_index_tokens highest_index_expr level
highest_index_spelled w (Some v) l f = number_spelled (v -ℤ pos 1)
highest_index_spelled w None l f = let b = level_bound w in
    lower 9 0 _ _ (omega arith) (omega arith) (binary Minus (omega arith) (wrapped_spells (highest_index_wraps w) (spelled_level w) 9 _ _ (omega arith) (omega arith) (highest_index_bound w) (spelled w l f)) (lower 14 10 _ _ (omega arith) (omega arith) (number (codes "1"))))

-- groups

vector_spelled : (base : TypeTree) → is_plain_type base ≡ true → is_well_formed_type base ≡ true → IsMany IsGroup (vector_tokens base) (vector_groups base)
unfolding vector_tokens vector_groups
vector_spelled (VectorTree w v signed) l f = many_one (range (highest_index_spelled w v l f) zero_spelled)
vector_spelled _ l f = no_items

top_spelled : (d : ExprTree) → is_plain d ≡ true → is_well_formed d ≡ true → Spells 0 (highest_index_tokens d (literal_value d)) (highest_index_expr d (literal_value d))
top_spelled d p w = highest_index_spelled d (literal_value d) p w

packed_spelled : (ds : Exprs) → are_plain ds ≡ true → are_well_formed ds ≡ true → IsMany IsGroup (packed_tokens ds) (packed_groups ds)
unfolding packed_tokens packed_groups
packed_spelled NoExprs p w = no_items
packed_spelled (MoreExprs d ds) p w = more_items (range (top_spelled d (and_left _ _ p) (and_left _ _ w)) zero_spelled) (packed_spelled ds (and_right (is_plain d) _ p) (and_right (is_well_formed d) _ w))

dimension_spelled : (dialect : Dialect) (d : ExprTree) → is_plain d ≡ true → is_well_formed d ≡ true → IsGroup (unpacked_dimension_tokens dialect d) (unpacked_group dialect d)
unfolding unpacked_dimension_tokens unpacked_group
dimension_spelled SystemVerilogDialect d p w = one (value_spelled d p w)
dimension_spelled VerilogDialect d p w = range zero_spelled (top_spelled d p w)

unpacked_spelled : (dialect : Dialect) (ds : Exprs) → are_plain ds ≡ true → are_well_formed ds ≡ true → IsMany IsGroup (unpacked_tokens dialect ds) (unpacked_groups dialect ds)
unfolding unpacked_tokens unpacked_groups
unpacked_spelled dialect NoExprs p w = no_items
unpacked_spelled dialect (MoreExprs d ds) p w = more_items (dimension_spelled dialect d (and_left _ _ p) (and_left _ _ w)) (unpacked_spelled dialect ds (and_right (is_plain d) _ p) (and_right (is_well_formed d) _ w))

-- declarations

pub base_plain : (t : TypeTree) → is_plain_type t ≡ true → is_plain_type (base_of t) ≡ true
base_plain (PackedTree t ds) h = base_plain t (and_left (is_plain_type t) (are_plain ds) h)
base_plain (UnpackedTree t ds) h = base_plain t (and_left (is_plain_type t) (are_plain ds) h)
base_plain _ h = h

pub base_formed : (t : TypeTree) → is_well_formed_type t ≡ true → is_well_formed_type (base_of t) ≡ true
base_formed (PackedTree t ds) h = base_formed t (and_left (is_well_formed_type t) (are_well_formed ds) h)
base_formed (UnpackedTree t ds) h = base_formed t (and_left (is_well_formed_type t) (are_well_formed ds) h)
base_formed _ h = h

joined_plain : (ds es : Exprs) → are_plain ds ≡ true → are_plain es ≡ true → are_plain (joined ds es) ≡ true
joined_plain NoExprs es p q = q
joined_plain (MoreExprs d ds) es p q = and_from _ _ (and_left (is_plain d) (are_plain ds) p) (joined_plain ds es (and_right (is_plain d) (are_plain ds) p) q)

joined_formed : (ds es : Exprs) → are_well_formed ds ≡ true → are_well_formed es ≡ true → are_well_formed (joined ds es) ≡ true
joined_formed NoExprs es p q = q
joined_formed (MoreExprs d ds) es p q = and_from _ _ (and_left (is_well_formed d) (are_well_formed ds) p) (joined_formed ds es (and_right (is_well_formed d) (are_well_formed ds) p) q)

pub packed_plain : (t : TypeTree) → is_plain_type t ≡ true → are_plain (packed_dimensions t) ≡ true
packed_plain (PackedTree t ds) h = joined_plain ds (packed_dimensions t) (and_right (is_plain_type t) (are_plain ds) h) (packed_plain t (and_left (is_plain_type t) (are_plain ds) h))
packed_plain (UnpackedTree t ds) h = packed_plain t (and_left (is_plain_type t) (are_plain ds) h)
packed_plain _ h = refl

pub packed_formed : (t : TypeTree) → is_well_formed_type t ≡ true → are_well_formed (packed_dimensions t) ≡ true
packed_formed (PackedTree t ds) h = joined_formed ds (packed_dimensions t) (and_right (is_well_formed_type t) (are_well_formed ds) h) (packed_formed t (and_left (is_well_formed_type t) (are_well_formed ds) h))
packed_formed (UnpackedTree t ds) h = packed_formed t (and_left (is_well_formed_type t) (are_well_formed ds) h)
packed_formed _ h = refl

pub unpacked_plain : (t : TypeTree) → is_plain_type t ≡ true → are_plain (unpacked_dimensions t) ≡ true
unpacked_plain (UnpackedTree t ds) h = joined_plain ds (unpacked_dimensions t) (and_right (is_plain_type t) (are_plain ds) h) (unpacked_plain t (and_left (is_plain_type t) (are_plain ds) h))
unpacked_plain (PackedTree t ds) h = unpacked_plain t (and_left (is_plain_type t) (are_plain ds) h)
unpacked_plain _ h = refl

pub unpacked_formed : (t : TypeTree) → is_well_formed_type t ≡ true → are_well_formed (unpacked_dimensions t) ≡ true
unpacked_formed (UnpackedTree t ds) h = joined_formed ds (unpacked_dimensions t) (and_right (is_well_formed_type t) (are_well_formed ds) h) (unpacked_formed t (and_left (is_well_formed_type t) (are_well_formed ds) h))
unpacked_formed (PackedTree t ds) h = unpacked_formed t (and_left (is_well_formed_type t) (are_well_formed ds) h)
unpacked_formed _ h = refl

kind_spelled : (kind : Kind) → IsMaybe is_kind (maybe_tokens (kind_key kind)) (kind_key kind)
unfolding kind_key is_kind
kind_spelled RegKind = present RegKey refl
kind_spelled WireKind = present WireKey refl
kind_spelled LogicKind = present LogicKey refl
kind_spelled IntegerKind = present IntegerKey refl
kind_spelled IntKind = present IntKey refl
kind_spelled GenvarKind = present GenvarKey refl
kind_spelled UserKind = absent
kind_spelled UntypedEnumKind = absent

type_spelled : (base : TypeTree) → IsTypeName (type_name_tokens base) (package_of base) (type_name_of base)
unfolding type_name_tokens package_of type_name_of
type_spelled (ExternalTree n) = own_type n
type_spelled (PackageTree p n) = packaged p n
type_spelled _ = no_type

scalar_sign_spelled : (signed : Bool) → IsMaybe is_sign (maybe_tokens (scalar_sign signed)) (scalar_sign signed)
unfolding scalar_sign is_sign
scalar_sign_spelled true = present SignedKey refl
scalar_sign_spelled false = absent

integer_sign_spelled : (signed : Bool) → IsMaybe is_sign (maybe_tokens (integer_sign signed)) (integer_sign signed)
unfolding integer_sign is_sign
integer_sign_spelled true = absent
integer_sign_spelled false = present UnsignedKey refl

pub sign_spelled : (base : TypeTree) → IsMaybe is_sign (maybe_tokens (sign_of base)) (sign_of base)
unfolding sign_of
sign_spelled (ScalarTree signed) = scalar_sign_spelled signed
sign_spelled (VectorTree w v signed) = scalar_sign_spelled signed
sign_spelled (IntegerTree signed) = integer_sign_spelled signed
sign_spelled (IntTree signed) = integer_sign_spelled signed
sign_spelled _ = absent

pub groups_spelled : (t : TypeTree) → is_plain_type t ≡ true → is_well_formed_type t ≡ true → IsMany IsGroup (packed_tokens (packed_dimensions t) ++ vector_tokens (base_of t)) (packed_groups (packed_dimensions t) ++ vector_groups (base_of t))
groups_spelled t l f = many_append (packed_spelled (packed_dimensions t) (packed_plain t l) (packed_formed t f)) (vector_spelled (base_of t) (base_plain t l) (base_formed t f))

pub behind_spelled : (dialect : Dialect) (t : TypeTree) → is_plain_type t ≡ true → is_well_formed_type t ≡ true → IsMany IsGroup (unpacked_tokens dialect (unpacked_dimensions t)) (unpacked_groups dialect (unpacked_dimensions t))
behind_spelled dialect t l f = unpacked_spelled dialect (unpacked_dimensions t) (unpacked_plain t l) (unpacked_formed t f)

-- The tokens of a declaration spell its written parts.
pub declaration_spelled : (dialect : Dialect) (kind : Kind) (t : TypeTree) (n : List ℕ) → is_plain_type t ≡ true → is_well_formed_type t ≡ true → IsDeclaration (declaration_tokens dialect kind t n) (normal_declaration dialect kind t n)
unfolding declaration_tokens normal_declaration
declaration_spelled dialect kind t n l f = declares n (kind_spelled kind) (type_spelled (base_of t)) (sign_spelled (base_of t)) (groups_spelled t l f) (behind_spelled dialect t l f)

pub declared_type : (t : TypeTree) (n : List ℕ) → is_plain_declaration t n ≡ true → is_plain_type t ≡ true
declared_type t n p = and_right (is_plain_name n) (is_plain_type t) p

pub declared_spelled : (dialect : Dialect) (d : Declaration) → is_plain_declared d ≡ true → is_well_formed_type d.type ≡ true → IsDeclaration (declared_tokens dialect d) (normal_declared dialect d)
unfolding declared_tokens normal_declared
declared_spelled dialect d p w = declaration_spelled dialect d.kind d.type d.name (declared_type d.type d.name p) w

pub port_declaration_spelled : (dialect : Dialect) (d : Declaration) → is_plain_declared d ≡ true → is_well_formed_type d.type ≡ true → IsDeclaration (port_declaration_tokens dialect d) (normal_port_declaration dialect d)
unfolding port_declaration_tokens normal_port_declaration
port_declaration_spelled dialect d p w = declaration_spelled dialect (port_kind d.kind d.type) d.type d.name (declared_type d.type d.name p) w

pub named_spelled : (dialect : Dialect) (t : TypeTree) (kind : Kind) (n : List ℕ) → is_plain_declaration t n ≡ true → is_well_formed_type t ≡ true → IsDeclaration (declaration_tokens dialect kind t n) (normal_declaration dialect kind t n)
named_spelled dialect t kind n p w = declaration_spelled dialect kind t n (declared_type t n p) w
