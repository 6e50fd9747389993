-- With which bytes the text of an expression begins.
use Rattle.std.proofs.Common.{◌≡◌, ℕ, List, [], ◌∷◌, Bool, true, false, not, ◌&&◌, ◌||◌, eqb, eqb-true, nat_lt, refl, codes}
use Rattle.std.specs.Prelude.{if◌then◌else◌}
use Rattle.vast_literal.specs.declared.operator.UnaryOperator.{UnaryOperator as UnaryOp}
use Rattle.vast_literal.specs.declared.operator.UnaryOperator.TheVariants.{Negate as NegateOp}
use Rattle.vast_literal.specs.declared.operator.BinaryOperator.{BinaryOperator as BinaryOp}
use Rattle.vast_literal.specs.declared.operator.BinaryOperator.TheVariants.{Add as AddOp}
use Rattle.vast_literal.specs.Tree.{ExprTree, NameTree, LiteralTree, StringTree, UnaryTree, BinaryTree, TernaryTree, IndexTree, SliceTree, PartSelectTree, MemberOfTree, ConcatTree, PatternTree, WidthCastTree, TypeCastTree, PosEdgeTree, NegEdgeTree, MacroTree, CallTree, MissingExpr, TypeTree, ScalarTree, VectorTree, IntegerTree, IntTree, ExternalTree, PackageTree, PackedTree, UnpackedTree, MissingType}
use Rattle.vast_literal.specs.Scan.{is_letter, is_digit, is_word_byte}
use Rattle.vast_literal.specs.LiteralToken.{every, is_number, is_based, is_filled, is_bare_literal, is_literal_text, is_string_text}
use Rattle.vast_literal.specs.Plain.{is_identifier, is_plain_name, is_called_name, is_plain, is_plain_type}
use Rattle.vast_literal.specs.WellFormed.{is_well_formed, is_cast_type}
use Rattle.vast_literal.proofs.ScanLaws.{and_left, opens_letter, opens_digit, by_test, not_true}
use Rattle.vast_literal.proofs.Pieces.{opens-append}
use Rattle.vast_literal.proofs.TokenReads.{opens}
use Rattle.vast_literal.specs.Shape.{is_scalar_name, is_zero, left_child_wraps, select_wraps, starts_with_minus, ternary_wraps, binary_precedence}
use Rattle.vast_print.specs.declared.refusal.Refusal.{Refusal}
use Rattle.vast_print.specs.declared.refusal.Refusal.TheVariants.{ScalarIndex, ScalarSlice}
use Rattle.vast_print.specs.Printed.{Printed, plain_text, ◌⊕◌, wrapped}
use Rattle.vast_print.specs.Levels.{unary_operator_text}
use Rattle.vast_print.specs.Bare.{is_bare}
use Rattle.vast_print.specs.Text.{elided, cast_to, width_cast, package_text, expr_text, type_cast}
use Rattle.vast_print.proofs.FaultLaws.{halves, elided_text}
use Rattle.vast_print.proofs.TestLaws.{bare_same}
use Rattle.vast_literal.specs.NormalExpr.{unary_operator_token}
use Rattle.std.proofs.lemmas.Bool.{not-false}

-- an expression that may stand bare after a unary operator
abbrev pub is_tight : ExprTree → Bool
is_tight e = not (select_wraps e)

pub wrapped_opens : (tight b : Bool) (p : Printed) → (b ≡ false → opens tight p.text ≡ true) → opens tight (wrapped b p).text ≡ true
unfolding wrapped ◌⊕◌ plain_text
wrapped_opens true true p f = refl
wrapped_opens false true p f = refl
wrapped_opens tight false p f = f refl

pub front : (tight : Bool) (p q : Printed) → opens tight p.text ≡ true → opens tight (p ⊕ q).text ≡ true
unfolding ◌⊕◌
front tight p q h = opens-append tight p.text q.text h

identifier_opens : (tight : Bool) (w : List ℕ) → is_identifier w ≡ true → opens tight w ≡ true
identifier_opens tight [] h = absurd (cc h)
identifier_opens tight (c ∷ w) h = opens_letter tight c w (and_left (is_letter c) (every is_word_byte w) h)

name_opens : (tight : Bool) (w : List ℕ) → is_plain_name w ≡ true → opens tight w ≡ true
name_opens tight w h = identifier_opens tight w (search halves)

-- a byte that makes a unary operator no longer makes a colon no longer
opens_either : (tight : Bool) (w : List ℕ) → opens true w ≡ true → opens tight w ≡ true
opens_either true w h = h
opens_either false [] h = absurd (cc h)
opens_either false (c ∷ cs) h = rw (and_left (not (eqb c 61 || eqb c 58)) _ h) refl

called_opens : (tight : Bool) (w : List ℕ) → is_called_name w ≡ true → opens tight w ≡ true
called_opens tight [] h = absurd (cc h)
called_opens tight (c ∷ cs) h = by_test (eqb c 36) (λ e. rw (eqb-true c 36 e) (opens_either tight (36 ∷ cs) refl)) (λ e. name_opens tight (c ∷ cs) (rw e at h))

-- the first byte of a literal
filled_first : (c : ℕ) (cs : List ℕ) → is_filled (c ∷ cs) ≡ true → (is_digit c || eqb c 39) ≡ true
filled_first c [] h = absurd (cc h)
filled_first c (d ∷ []) h = rw (eqb-true c 39 (search halves)) refl
filled_first c (d ∷ x ∷ v) h = absurd (cc h)

pub literal_first : (c : ℕ) (cs : List ℕ) → is_bare_literal (c ∷ cs) ≡ true → (is_digit c || eqb c 39) ≡ true
literal_first c cs h = by_test (is_number (c ∷ cs)) (λ n. rw (and_left (is_digit c) (every is_digit cs) n) refl)
    (λ n. by_test (is_based (c ∷ cs))
    (λ b. by_test (eqb c 39) (λ e. rw (eqb-true c 39 e) refl) (λ e. rw (and_left (is_digit c) (is_based cs) (rw e at b)) refl))
    (λ b. filled_first c cs (rw (n, b) at h)))

first_opens : (tight : Bool) (c : ℕ) (cs : List ℕ) → (is_digit c || eqb c 39) ≡ true → opens tight (c ∷ cs) ≡ true
first_opens tight c cs h = by_test (is_digit c) (λ e. opens_digit tight c cs e) (λ e. rw (eqb-true c 39 (rw e at h)) (opens_either tight (39 ∷ cs) refl))

pub literal_opens : (tight : Bool) (w : List ℕ) → is_literal_text w ≡ true → (tight ≡ true → starts_with_minus w ≡ false) → opens tight w ≡ true
literal_opens tight [] h f = absurd (cc h)
literal_opens tight (c ∷ cs) h f = by_test (eqb c 45) (λ e. rw (eqb-true c 45 e) (minus tight f e)) (λ e. first_opens tight c cs (literal_first c cs (rw e at h)))
  where
    minus : (t : Bool) → (t ≡ true → eqb c 45 ≡ false) → eqb c 45 ≡ true → opens t (45 ∷ cs) ≡ true
    minus true g e = let x = g refl in absurd (cc (x, e))
    minus false g e = refl

string_opens : (tight : Bool) (w : List ℕ) → is_string_text w ≡ true → opens tight w ≡ true
string_opens tight [] h = absurd (cc h)
string_opens tight (c ∷ cs) h = rw (eqb-true c 34 (search halves)) (opens_either tight (34 ∷ cs) refl)

low : (o : BinaryOp) → not (nat_lt (binary_precedence o) 13 || false) ≡ false
low AddOp = refl
low _ = refl

sign_opens : (o : UnaryOp) (p : Printed) → opens false (plain_text (unary_operator_text o) ⊕ p).text ≡ true
unfolding ◌⊕◌ plain_text unary_operator_token
sign_opens NegateOp p = refl
sign_opens _ p = refl

not_false : (a b : Bool) → a ≡ b → a ≡ false → not b ≡ true
not_false a true e h = absurd (cc (e, h))
not_false a false e h = refl

scalar_tight : (s : ExprTree) → is_scalar_name s ≡ true → is_tight s ≡ true
scalar_tight (NameTree n type) h = refl
scalar_tight _ h = absurd (cc h)

pick_opens : (tight b z : Bool) (r : Refusal) (s rest : Printed) → (b ≡ true → opens tight s.text ≡ true) → (b ≡ false → opens tight rest.text ≡ true) → opens tight (if b then elided z r s else rest).text ≡ true
pick_opens tight true z r s rest f g = rw (elided_text z r s) (f refl)
pick_opens tight false z r s rest f g = g refl

-- the head of a width cast: in parentheses, a number or a word
bare_opens : (tight : Bool) (a : List ℕ) → (is_number a || is_identifier a) ≡ true → opens tight a ≡ true
bare_opens tight [] h = absurd (cc h)
bare_opens tight (c ∷ cs) h = by_test (is_number (c ∷ cs)) (λ n. opens_digit tight c cs (and_left (is_digit c) (every is_digit cs) n)) (λ n. identifier_opens tight (c ∷ cs) (rw n at h))

head_opens : (tight : Bool) (w : Printed) → opens tight (wrapped (not (is_bare w.text)) w).text ≡ true
head_opens tight w = wrapped_opens tight (not (is_bare w.text)) w (λ h. let a = not-false (is_bare w.text) h in let b = bare_same w.text in
    bare_opens tight w.text (cc (a, b)))

cast_opens : (tight : Bool) (h p : Printed) → opens tight h.text ≡ true → opens tight (cast_to h p).text ≡ true
unfolding cast_to
cast_opens tight h p k = front tight _ _ (front tight _ _ (front tight h _ k))

word_opens : (tight : Bool) (w : List ℕ) → opens true w ≡ true → opens tight (plain_text w).text ≡ true
unfolding plain_text
word_opens tight w h = opens_either tight w h

plain_opens : (tight : Bool) (w : List ℕ) → opens tight w ≡ true → opens tight (plain_text w).text ≡ true
unfolding plain_text
plain_opens tight w h = h

width_opens : (tight : Bool) (w p : Printed) → opens tight (width_cast w p).text ≡ true
unfolding width_cast
width_opens tight w p = cast_opens tight _ _ (head_opens tight w)

type_opens : (tight : Bool) (t : TypeTree) (p : Printed) → is_plain_type t ≡ true → is_cast_type t ≡ true → opens tight (type_cast t p).text ≡ true
unfolding type_cast package_text
type_opens tight (ScalarTree true) p h c = cast_opens tight _ _ (word_opens tight (codes "signed") refl)
type_opens tight (ScalarTree false) p h c = cast_opens tight _ _ (word_opens tight (codes "logic") refl)
type_opens tight (VectorTree w v true) p h c = cast_opens tight _ _ (word_opens tight (codes "signed") refl)
type_opens tight (VectorTree w v false) p h c = cast_opens tight _ _ (word_opens tight (codes "unsigned") refl)
type_opens tight (IntegerTree true) p h c = cast_opens tight _ _ (word_opens tight (codes "integer") refl)
type_opens tight (IntegerTree false) p h c = cast_opens tight _ _ (word_opens tight (codes "unsigned") refl)
type_opens tight (IntTree true) p h c = cast_opens tight _ _ (word_opens tight (codes "int") refl)
type_opens tight (IntTree false) p h c = cast_opens tight _ _ (word_opens tight (codes "unsigned") refl)
type_opens tight (ExternalTree n) p h c = cast_opens tight _ _ (plain_opens tight n (name_opens tight n h))
type_opens tight (PackageTree s n) p h c = cast_opens tight _ _ (front tight _ _ (front tight _ _ (plain_opens tight s (name_opens tight s (search halves)))))
type_opens tight (PackedTree t ds) p h c = absurd (cc c)
type_opens tight (UnpackedTree t ds) p h c = absurd (cc c)
type_opens tight MissingType p h c = absurd (cc c)

-- What the text of an expression begins with; bare after a unary operator no operator comes first.
pub opens_text : (tight : Bool) (e : ExprTree) → is_plain e ≡ true → is_well_formed e ≡ true → (tight ≡ true → is_tight e ≡ true) → opens tight (expr_text e).text ≡ true
unfolding expr_text plain_text
opens_text tight (NameTree n type) h w l = name_opens tight n h
opens_text tight (LiteralTree t v) h w l = literal_opens tight t w (λ e. not_true (starts_with_minus t) (l e))
opens_text tight (StringTree t) h w l = string_opens tight t w
opens_text true (UnaryTree o e) h w l = let x = l refl in absurd (cc x)
opens_text false (UnaryTree o e) h w l = sign_opens o _
opens_text true (BinaryTree o a b) h w l = let x = l refl in let y = low o in absurd (cc (x, y))
opens_text false (BinaryTree o a b) h w l = front false _ _ (front false _ _ (wrapped_opens false (left_child_wraps o a) (expr_text a) (λ _. opens_text false a (search halves) (search halves) (λ t. absurd (cc t)))))
opens_text true (TernaryTree c a b) h w l = let x = l refl in absurd (cc x)
opens_text false (TernaryTree c a b) h w l = front false _ _ (front false _ _ (front false _ _ (front false _ _ (wrapped_opens false (ternary_wraps c) (expr_text c) (λ _. opens_text false c (search halves) (search halves) (λ t. absurd (cc t)))))))
opens_text tight (IndexTree s i) h w l =
    pick_opens tight (is_scalar_name s) (is_zero i) ScalarIndex (expr_text s) _ (λ e. opens_text tight s (search halves) (search halves) (λ _. scalar_tight s e))
    (λ _. front tight _ _ (front tight _ _ (front tight _ _ (wrapped_opens tight (select_wraps s) (expr_text s) (λ e. opens_text tight s (search halves) (search halves) (λ _. not_false (select_wraps s) _ refl e))))))
opens_text tight (SliceTree s a b) h w l =
    pick_opens tight (is_scalar_name s) (is_zero a && is_zero b) ScalarSlice (expr_text s) _ (λ e. opens_text tight s (search halves) (search halves) (λ _. scalar_tight s e))
    (λ _. front tight _ _ (front tight _ _ (front tight _ _ (front tight _ _ (front tight _ _ (wrapped_opens tight (select_wraps s) (expr_text s) (λ e. opens_text tight s (search halves) (search halves) (λ _. not_false (select_wraps s) _ refl e))))))))
opens_text tight (PartSelectTree s i n) h w l =
    front tight _ _ (front tight _ _ (front tight _ _ (front tight _ _ (front tight _ _ (wrapped_opens tight (select_wraps s) (expr_text s) (λ e. opens_text tight s (search halves) (search halves) (λ _. not_false (select_wraps s) _ refl e)))))))
opens_text tight (MemberOfTree s n) h w l =
    front tight _ _ (front tight _ _ (wrapped_opens tight (select_wraps s) (expr_text s) (λ e. opens_text tight s (search halves) w (λ _. not_false (select_wraps s) _ refl e))))
opens_text tight (ConcatTree n es) h w l = front tight _ _ (front tight _ _ (word_opens tight (codes "{") refl))
opens_text tight (PatternTree es) h w l = front tight _ _ (front tight _ _ (word_opens tight (codes "'{") refl))
opens_text tight (WidthCastTree w e) h k l = width_opens tight (expr_text w) (expr_text e)
opens_text tight (TypeCastTree t e) h w l = type_opens tight t (expr_text e) (search halves) (search halves)
opens_text tight (PosEdgeTree e) h w l = absurd (cc h)
opens_text tight (NegEdgeTree e) h w l = absurd (cc h)
opens_text tight (MacroTree m es) h w l = front tight _ _ (front tight _ _ (word_opens tight (codes "`") refl))
opens_text tight (CallTree f es) h w l = front tight _ _ (front tight _ _ (front tight _ _ (called_opens tight f (search halves))))
opens_text tight MissingExpr h w l = absurd (cc w)
