-- The tokens of an expression's text spell its normal expression.
use Rattle.std.proofs.Common.{◌≡◌, ℕ, suc, ◌≤◌, List, [], ◌∷◌, ◌++◌, Bool, true, false, cond, not, ◌&&◌, eqb, IsTrue, refl, append_assoc, append-nil, arith}
use Rattle.std.specs.Fmt.{signed_decimal}
use Rattle.vast_literal.specs.Tokens.{Minus, level, is_unary, OpenParen, CloseParen, Key, LogicKey, SignedKey, UnsignedKey, IntegerKey, IntKey, Token, Word, Number, Mark}
use Rattle.vast_literal.specs.Tree.{UnaryOp, NegateOp, ExprTree, NameTree, LiteralTree, StringTree, UnaryTree, BinaryTree, TernaryTree, IndexTree, SliceTree, PartSelectTree, MemberOfTree, ConcatTree, PatternTree, WidthCastTree, TypeCastTree, PosEdgeTree, NegEdgeTree, MacroTree, CallTree, MissingExpr, TypeTree, ScalarTree, VectorTree, IntegerTree, IntTree, ExternalTree, PackageTree, NoExpr, SomeExpr, Exprs, NoExprs, MoreExprs, NoArguments, SomeArguments}
use Rattle.vast_literal.specs.Shape.{is_scalar_name, is_zero, is_elided_index, is_elided_slice, unary_wraps, left_child_wraps, right_child_wraps, ternary_wraps, select_wraps}
use Rattle.vast_literal.specs.NormalExpr.{NormalExpr, Name, Literal, Call, Cast, NormalExprs, NoNormals, MoreNormals, unary_operator_token, binary_operator_token, normal_literal, signing_key, normal_word_cast, scalar_sign, integer_sign, normal, normal_cast, normals}
use Rattle.vast_literal.specs.Grammar.{is_cast_word, Spells, ternary, binary, unary, index, slice, part_select, member_of, name, number, based, quoted, paren, call, system_call, concat, replicated, array_pattern, macro_alone, macro_call, number_cast, name_cast, package_cast, paren_cast, word_cast, SpellsList, none, some, SpellsJoined, last, next}
use Rattle.vast_literal.specs.LiteralToken.{is_number}
use Rattle.vast_literal.proofs.LiteralToken.{bare_token, literal_tokens}
use Rattle.vast_literal.specs.Plain.{is_plain, is_plain_type, are_plain, is_plain_name, is_called_name}
use Rattle.vast_literal.proofs.ExprTokens.{is_bare_head, wrapped_tokens, cast_operand, comma_tail_tokens, comma_tokens, called_token, word_cast_tokens, expr_tokens, cast_tokens, each_tokens}
use Rattle.vast_literal.specs.WellFormed.{is_positive, is_cast_type, is_well_formed, is_well_formed_type, are_well_formed}
use Rattle.vast_literal.proofs.ScanLaws.{and_left, and_right, by_test}
use Rattle.vast_literal.proofs.NumberLaws.{no_minus}
use Rattle.vast_literal.proofs.Levels.{level_small, lower}
use Rattle.vast_literal.proofs.Precedence.{literal_level, spelled_level, positive, level_bound, left_bound, right_bound, operand_bound, subject_bound, ternary_bound}

pub wrapped_spells : (b : Bool) (m k : ℕ) (ts : List Token) (t : NormalExpr) → m ≤ 14 → k ≤ 14 → (b ≡ false → k ≤ m) → Spells m ts t → Spells k (wrapped_tokens b ts) t
wrapped_spells true m k ts t small low f e = lower 14 k _ t low (omega arith) (paren (lower m 0 ts t (omega arith) small e))
wrapped_spells false m k ts t small low f e = lower m k ts t (f refl) small e

-- literals

bare_spells : (text : List ℕ) → Spells 14 (bare_token text ∷ []) (Literal text)
bare_spells text = by_test (is_number text) (λ e. rw e (number text)) (λ e. rw e (based text))

pub literal_spells : (text : List ℕ) → Spells (literal_level text) (literal_tokens text) (normal_literal text)
unfolding normal_literal is_unary
literal_spells [] = lower 14 13 _ _ (omega arith) (omega arith) (based [])
literal_spells (c ∷ cs) = by_test (eqb c 45) (λ e. rw e (unary Minus refl (lower 14 12 _ _ (omega arith) (omega arith) (bare_spells cs))))
    (λ e. rw e (lower 14 13 _ _ (omega arith) (omega arith) (bare_spells (c ∷ cs))))

-- lists

pub data EachSpelled : List (List Token) → NormalExprs → Type 0 where
  no_parts : EachSpelled [] NoNormals
  more_parts : {ts : List Token} {t : NormalExpr} {parts : List (List Token)} {xs : NormalExprs} → Spells 0 ts t → EachSpelled parts xs → EachSpelled (ts ∷ parts) (MoreNormals t xs)

joined_spells : {ts : List Token} {t : NormalExpr} {parts : List (List Token)} {xs : NormalExprs} → Spells 0 ts t → EachSpelled parts xs → SpellsJoined (ts ++ comma_tail_tokens parts) (MoreNormals t xs)
joined_spells e no_parts = rw append-nil (last e)
joined_spells e (more_parts f more) = next e (joined_spells f more)

pub list_spells : {parts : List (List Token)} {xs : NormalExprs} → EachSpelled parts xs → SpellsList (comma_tokens parts) xs
list_spells no_parts = none
list_spells (more_parts e more) = some (joined_spells e more)

called_spells : (name : List ℕ) {ts : List Token} {xs : NormalExprs} → SpellsList ts xs → Spells 14 (called_token name ∷ (Mark OpenParen ∷ (ts ++ (Mark CloseParen ∷ [])))) (Call name xs)
called_spells [] es = call [] es
called_spells (c ∷ cs) es = by_test (eqb c 36) (λ e. rw e (system_call (c ∷ cs) es)) (λ e. rw e (call (c ∷ cs) es))

-- elided selects

scalar_spells : (s : ExprTree) → is_scalar_name s ≡ true → Spells 13 (expr_tokens s) (normal s)
unfolding expr_tokens normal
scalar_spells (NameTree n type) h = lower 14 13 _ _ (omega arith) (omega arith) (name n)
scalar_spells _ h = absurd (cc h)

select_spells : (b : Bool) (s : ExprTree) {ts : List Token} {t : NormalExpr} → (b ≡ true → is_scalar_name s ≡ true) → Spells 13 ts t → Spells 13 (cond b (expr_tokens s) ts) (cond b (normal s) t)
select_spells true s f e = scalar_spells s (f refl)
select_spells false s f e = e

elided_index : (s i : ExprTree) → is_elided_index s i ≡ true → is_scalar_name s ≡ true
elided_index s i h = and_left (is_scalar_name s) (is_zero i) h

elided_slice : (s h l : ExprTree) → is_elided_slice s h l ≡ true → is_scalar_name s ≡ true
elided_slice s a b h = and_left (is_scalar_name s) (is_zero a && is_zero b) h

-- the heads of casts

pub data BareHead : List Token → NormalExpr → Type 0 where
  word_head : (w : List ℕ) → BareHead (Word w ∷ []) (Name w)
  number_head : (w : List ℕ) → BareHead (Number w ∷ []) (Literal w)

number_literal : (text : List ℕ) → is_number text ≡ true → BareHead (literal_tokens text) (normal_literal text)
unfolding normal_literal
number_literal [] h = absurd (cc h)
number_literal (c ∷ cs) h = rw (no_minus c (and_left _ _ h), h) (number_head (c ∷ cs))

bare_head : (w : ExprTree) → is_bare_head w ≡ true → BareHead (expr_tokens w) (normal w)
unfolding is_bare_head expr_tokens normal
bare_head (NameTree n type) h = word_head n
bare_head (LiteralTree text value) h = number_literal text h
bare_head (IndexTree s i) h = rw (and_left (is_elided_index s i) (is_bare_head s) h) (bare_head s (and_right (is_elided_index s i) (is_bare_head s) h))
bare_head (SliceTree s a b) h = rw (and_left (is_elided_slice s a b) (is_bare_head s) h) (bare_head s (and_right (is_elided_slice s a b) (is_bare_head s) h))
bare_head _ h = absurd (cc h)

head_spells : {hs ts : List Token} {h x : NormalExpr} → BareHead hs h → Spells 0 ts x → Spells 14 (hs ++ cast_operand ts) (Cast h x)
head_spells (word_head w) e = name_cast w e
head_spells (number_head w) e = number_cast w e

width_spells : (w : ExprTree) (m : ℕ) {ts : List Token} {x : NormalExpr} → m ≤ 14 → Spells m (expr_tokens w) (normal w) → Spells 0 ts x →
    Spells 14 (wrapped_tokens (not (is_bare_head w)) (expr_tokens w) ++ cast_operand ts) (Cast (normal w) x)
width_spells w m small f e = by_test (is_bare_head w) (λ h. rw h (head_spells (bare_head w h) e)) (λ h. rw h (simp append_assoc (paren_cast (lower m 0 _ _ (omega arith) small f) e)))

scalar_spells_cast : (signed : Bool) {ts : List Token} {x : NormalExpr} → Spells 0 ts x → Spells 14 (word_cast_tokens (scalar_sign signed) LogicKey ts) (normal_word_cast (scalar_sign signed) LogicKey x)
unfolding scalar_sign normal_word_cast is_cast_word
scalar_spells_cast true e = word_cast SignedKey refl (lower 14 0 _ _ (omega arith) (omega arith) (word_cast LogicKey refl e))
scalar_spells_cast false e = word_cast LogicKey refl e

integer_spells_cast : (signed : Bool) (k : Key) {ts : List Token} {x : NormalExpr} → IsTrue (is_cast_word k) → Spells 0 ts x → Spells 14 (word_cast_tokens (integer_sign signed) k ts) (normal_word_cast (integer_sign signed) k x)
unfolding integer_sign normal_word_cast is_cast_word
integer_spells_cast true k h e = word_cast k h e
integer_spells_cast false k h e = word_cast UnsignedKey refl (lower 14 0 _ _ (omega arith) (omega arith) (word_cast k h e))

sign_word : (signed : Bool) → IsTrue (is_cast_word (signing_key signed))
unfolding signing_key is_cast_word
sign_word true = refl
sign_word false = refl

unary_word : (op : UnaryOp) → IsTrue (is_unary (unary_operator_token op))
unfolding is_unary unary_operator_token
unary_word NegateOp = refl
unary_word _ = refl

-- at level 0
pub low : (e : ExprTree) {ts : List Token} {t : NormalExpr} → Spells (spelled_level e) ts t → Spells 0 ts t
low e s = lower (spelled_level e) 0 _ _ (omega arith) (let b = level_bound e in omega arith) s

pub below : {ts : List Token} {t : NormalExpr} → Spells 14 ts t → Spells 13 ts t
below s = lower 14 13 _ _ (omega arith) (omega arith) s

-- the subject of a select
subject_spells : (s : ExprTree) {ts : List Token} {t : NormalExpr} → Spells (spelled_level s) ts t → Spells 13 (wrapped_tokens (select_wraps s) ts) t
subject_spells s e = let b = level_bound s in wrapped_spells (select_wraps s) (spelled_level s) 13 _ _ (omega arith) (omega arith) (subject_bound s) e

part_of_ternary : (s : ExprTree) (k : ℕ) {ts : List Token} {t : NormalExpr} → k ≤ 1 → Spells (spelled_level s) ts t → Spells k (wrapped_tokens (ternary_wraps s) ts) t
part_of_ternary s k small e = let b = level_bound s in
    wrapped_spells (ternary_wraps s) (spelled_level s) k _ _ (omega arith) (omega arith) (λ h. let p = ternary_bound s h in omega arith) e

mutual
  unfolding expr_tokens normal is_cast_word

  -- The tokens of a well-formed expression's text spell its normal expression.
  pub spelled : (e : ExprTree) → is_plain e ≡ true → is_well_formed e ≡ true → Spells (spelled_level e) (expr_tokens e) (normal e)
  spelled (NameTree n type) l w = below (name n)
  spelled (LiteralTree text value) l w = literal_spells text
  spelled (StringTree text) l w = below (quoted text)
  spelled (UnaryTree op e) l w = let b = level_bound e in
      unary (unary_operator_token op) (unary_word op) (wrapped_spells (unary_wraps e) (spelled_level e) 12 _ _ (omega arith) (omega arith) (λ h. let c = operand_bound e h in omega arith) (spelled e l w))
  spelled (BinaryTree op a c) l w =
      let small = level_small (binary_operator_token op) in
      let ba = level_bound a in
      let bc = level_bound c in
      binary (binary_operator_token op) (positive op)
      (wrapped_spells (left_child_wraps op a) (spelled_level a) (level (binary_operator_token op)) _ _ (omega arith) (omega arith) (left_bound op a) (spelled a (and_left _ _ l) (and_left _ _ w)))
      (wrapped_spells (right_child_wraps op c) (spelled_level c) (suc (level (binary_operator_token op))) _ _ (omega arith) (omega arith) (right_bound op c) (spelled c (and_right (is_plain a) _ l) (and_right (is_well_formed a) _ w)))
  spelled (TernaryTree c a b) l w =
      let l1 = and_right (is_plain c) (is_plain a && is_plain b) l in
      let w1 = and_right (is_well_formed c) (is_well_formed a && is_well_formed b) w in
      ternary (part_of_ternary c 1 (omega arith) (spelled c (and_left _ _ l) (and_left _ _ w)))
      (part_of_ternary a 0 (omega arith) (spelled a (and_left _ _ l1) (and_left _ _ w1)))
      (part_of_ternary b 0 (omega arith) (spelled b (and_right (is_plain a) (is_plain b) l1) (and_right (is_well_formed a) (is_well_formed b) w1)))
  spelled (IndexTree s i) l w =
      select_spells (is_elided_index s i) s (elided_index s i)
      (index (subject_spells s (spelled s (and_left _ _ l) (and_left _ _ w))) (low i (spelled i (and_right (is_plain s) (is_plain i) l) (and_right (is_well_formed s) (is_well_formed i) w))))
  spelled (SliceTree s a b) l w =
      let l1 = and_right (is_plain s) (is_plain a && is_plain b) l in
      let w1 = and_right (is_well_formed s) (is_well_formed a && is_well_formed b) w in
      select_spells (is_elided_slice s a b) s (elided_slice s a b)
      (slice (subject_spells s (spelled s (and_left _ _ l) (and_left _ _ w))) (low a (spelled a (and_left _ _ l1) (and_left _ _ w1)))
      (low b (spelled b (and_right (is_plain a) (is_plain b) l1) (and_right (is_well_formed a) (is_well_formed b) w1))))
  spelled (PartSelectTree s i n) l w =
      let w1 = and_right (is_well_formed s) (is_well_formed i && is_positive n) w in
      part_select (signed_decimal n) (subject_spells s (spelled s (and_left _ _ l) (and_left _ _ w))) (low i (spelled i (and_right (is_plain s) (is_plain i) l) (and_left _ _ w1)))
  spelled (MemberOfTree s n) l w = member_of n (subject_spells s (spelled s (and_right (is_plain_name n) (is_plain s) l) w))
  spelled (ConcatTree NoExpr es) l w = below (concat (list_spells (each_spelled es l w)))
  spelled (ConcatTree (SomeExpr n) es) l w =
      below (replicated (low n (spelled n (and_left _ _ l) (and_left _ _ w))) (list_spells (each_spelled es (and_right (is_plain n) (are_plain es) l) (and_right (is_well_formed n) (are_well_formed es) w))))
  spelled (PatternTree es) l w = below (array_pattern (list_spells (each_spelled es l w)))
  spelled (WidthCastTree h e) l w =
      let b = level_bound h in
      below (width_spells h (spelled_level h) (omega arith) (spelled h (and_left _ _ l) (and_left _ _ w)) (low e (spelled e (and_right (is_plain h) (is_plain e) l) (and_right (is_well_formed h) (is_well_formed e) w))))
  spelled (TypeCastTree type e) l w =
      let w1 = and_right (is_cast_type type) (is_well_formed_type type && is_well_formed e) w in
      cast_spelled type (low e (spelled e (and_right (is_plain_type type) (is_plain e) l) (and_right (is_well_formed_type type) (is_well_formed e) w1))) (and_left _ _ w) (and_left _ _ l) (and_left _ _ w1)
  spelled (PosEdgeTree e) l w = absurd (cc l)
  spelled (NegEdgeTree e) l w = absurd (cc l)
  spelled (MacroTree m NoArguments) l w = below (macro_alone m)
  spelled (MacroTree m (SomeArguments es)) l w = below (macro_call m (list_spells (each_spelled es (and_right (is_plain_name m) (are_plain es) l) w)))
  spelled (CallTree f es) l w = below (called_spells f (list_spells (each_spelled es (and_right (is_called_name f) (are_plain es) l) w)))
  spelled MissingExpr l w = absurd (cc w)

  pub cast_spelled : (type : TypeTree) {ts : List Token} {x : NormalExpr} → Spells 0 ts x → is_cast_type type ≡ true → is_plain_type type ≡ true → is_well_formed_type type ≡ true →
      Spells 13 (cast_tokens type ts) (normal_cast type x)
  cast_spelled (ScalarTree signed) e c l w = below (scalar_spells_cast signed e)
  cast_spelled (VectorTree h value signed) e c l w =
      let b = level_bound h in
      below (word_cast (signing_key signed) (sign_word signed) (lower 14 0 _ _ (omega arith) (omega arith) (width_spells h (spelled_level h) (omega arith) (spelled h l w) e)))
  cast_spelled (IntegerTree signed) e c l w = below (integer_spells_cast signed IntegerKey refl e)
  cast_spelled (IntTree signed) e c l w = below (integer_spells_cast signed IntKey refl e)
  cast_spelled (ExternalTree n) e c l w = below (name_cast n e)
  cast_spelled (PackageTree p n) e c l w = below (package_cast p n e)
  cast_spelled _ e c l w = absurd (cc c)

  pub each_spelled : (es : Exprs) → are_plain es ≡ true → are_well_formed es ≡ true → EachSpelled (each_tokens es) (normals es)
  each_spelled NoExprs l w = no_parts
  each_spelled (MoreExprs e es) l w =
      more_parts (low e (spelled e (and_left _ _ l) (and_left _ _ w))) (each_spelled es (and_right (is_plain e) (are_plain es) l) (and_right (is_well_formed e) (are_well_formed es) w))
