-- Which expressions stand bare before the apostrophe of a cast.
use Rattle.std.proofs.Common.{◌≡◌, ℕ, Bool, true, false, not, ◌&&◌, List, [], ◌∷◌, ◌++◌, refl, ◌∙◌, ap, codes, arith}
use Rattle.std.specs.Prelude.{if◌then◌else◌, nat_lt, length}
use Rattle.std.specs.Char.{is_ascii_digit}
use Rattle.std.specs.List.{list_all}
use Rattle.std.proofs.lemmas.Bool.{and_from, and_parts, and_right, or_from, false_from_ne_true}
use Rattle.std.proofs.lemmas.List.Folds.{list_all-append}
use Rattle.vast_literal.specs.declared.operator.UnaryOperator.{UnaryOperator as UnaryOp}
use Rattle.vast_literal.specs.declared.operator.UnaryOperator.TheVariants.{Negate as NegateOp}
use Rattle.vast_literal.specs.declared.operator.BinaryOperator.{BinaryOperator as BinaryOp}
use Rattle.vast_literal.specs.Tree.{ExprTree, NameTree, LiteralTree, StringTree, UnaryTree, BinaryTree, TernaryTree, IndexTree, SliceTree, PartSelectTree, MemberOfTree, ConcatTree, PatternTree, WidthCastTree, TypeCastTree, PosEdgeTree, NegEdgeTree, MacroTree, CallTree, MissingExpr, TypeTree, ScalarTree, IntegerTree, IntTree}
use Rattle.vast_literal.specs.Shape.{is_scalar_name, is_zero}
use Rattle.vast_literal.specs.Literal.{is_decimal}
use Rattle.vast_print.specs.declared.refusal.Refusal.{Refusal}
use Rattle.vast_print.specs.declared.refusal.Refusal.TheVariants.{ScalarIndex, ScalarSlice}
use Rattle.vast_print.specs.Printed.{Printed, plain_text, ◌⊕◌, wrapped}
use Rattle.vast_print.specs.Levels.{unary_operator_text, binary_operator_text}
use Rattle.vast_print.specs.Bare.{begins_word, continues_word, is_word, is_bare}
use Rattle.vast_print.specs.Internal.Bare.{is_bare_head}
use Rattle.vast_print.specs.Text.{elided, cast_to, width_cast, expr_text, type_cast}
use Rattle.vast_print.proofs.FaultLaws.{elided_text}
use Rattle.vast_literal.specs.NormalExpr.{unary_operator_token}
use Rattle.std.proofs.lemmas.Bool.Decides.{nat_tests}

-- a text with a byte that no word has isn't bare

pub record Broken (w : List ℕ) : Type 0 where
  pub broken : list_all continues_word w ≡ false

digit-word : (c : ℕ) → is_ascii_digit c ≡ true → continues_word c ≡ true
digit-word c h = grind (arith, nat_tests)

digits-words : (w : List ℕ) → list_all is_ascii_digit w ≡ true → list_all continues_word w ≡ true
digits-words [] h = refl
digits-words (c ∷ w) h =
    and_from (continues_word c) (list_all continues_word w)
    (digit-word c (and_parts (is_ascii_digit c) (list_all is_ascii_digit w) h).0)
    (digits-words w (and_parts (is_ascii_digit c) (list_all is_ascii_digit w) h).1)

begin-continues : (c : ℕ) → begins_word c ≡ true → continues_word c ≡ true
begin-continues c h = grind (arith, nat_tests)

word-words : (w : List ℕ) → is_word w ≡ true → list_all continues_word w ≡ true
word-words [] h = refl
word-words (c ∷ w) h = let p = and_parts (begins_word c) (list_all continues_word w) h in and_from (continues_word c) (list_all continues_word w) (begin-continues c p.0) p.1

number-words : (w : List ℕ) → is_decimal w ≡ true → list_all continues_word w ≡ true
unfolding is_decimal
number-words w h = digits-words w (and_parts (list_all is_ascii_digit w) (nat_lt 0 (length w)) h).0

broken-bare : (w : List ℕ) → Broken w → is_bare w ≡ false
unfolding is_bare
broken-bare w b =
    or_from (is_decimal w) (is_word w)
    (false_from_ne_true (is_decimal w) (λ h. cc (number-words w h, b.broken)))
    (false_from_ne_true (is_word w) (λ h. cc (word-words w h, b.broken)))

broken-left : (a b : List ℕ) → Broken a → Broken (a ++ b)
broken-left a b h = record { broken = list_all-append continues_word a b ∙ rw (h.broken) refl }

broken-right : (a b : List ℕ) → Broken b → Broken (a ++ b)
broken-right a b h = record { broken = list_all-append continues_word a b ∙ rw (h.broken) (and_right (list_all continues_word a) false refl) }

-- casts, selects and lists end in a bracket

broken-ends : (p : Printed) (w : List ℕ) → Broken w → Broken (p ⊕ plain_text w).text
unfolding ◌⊕◌ plain_text
broken-ends p w h = broken-right p.text w h

broken-then : (p q : Printed) → Broken p.text → Broken (p ⊕ q).text
unfolding ◌⊕◌
broken-then p q h = broken-left p.text q.text h

broken-begins : (w : List ℕ) (q : Printed) → Broken w → Broken (plain_text w ⊕ q).text
unfolding ◌⊕◌ plain_text
broken-begins w q h = broken-left w q.text h

broken-cast : (head p : Printed) → Broken (cast_to head p).text
unfolding cast_to
broken-cast head p = broken-ends (head ⊕ plain_text (codes "'(") ⊕ p) (codes ")") (record { broken = refl })

broken-unary : (o : UnaryOp) → Broken (unary_operator_text o)
unfolding unary_operator_token
broken-unary NegateOp = record { broken = refl }
broken-unary _ = record { broken = refl }

broken-binary : (o : BinaryOp) → Broken (binary_operator_text o)
broken-binary o = record { broken = refl }

broken-type-cast : (t : TypeTree) (p : Printed) → Broken (type_cast t p).text
unfolding type_cast
broken-type-cast (ScalarTree true) p = broken-cast _ _
broken-type-cast (IntegerTree true) p = broken-cast _ _
broken-type-cast (IntTree true) p = broken-cast _ _
broken-type-cast _ p = broken-cast _ _

-- a select: an elided one has its name's text

bare-select : (scalar z : Bool) (r : Refusal) (name select : Printed) (b : Bool) → is_bare name.text ≡ b → Broken select.text →
    is_bare (if scalar then elided z r name else select).text ≡ (scalar && b)
bare-select true z r name select b h i = ap is_bare (elided_text z r name) ∙ h
bare-select false z r name select b h i = broken-bare select.text i

broken-width : (w p : Printed) → Broken (width_cast w p).text
unfolding width_cast
broken-width w p = broken-cast (wrapped (not (is_bare w.text)) w) p

bare-empty : is_bare [] ≡ false
unfolding is_bare is_decimal
bare-empty = refl

-- whether an expression's text is bare, told by the expression
pub bare-head : (e : ExprTree) → is_bare (expr_text e).text ≡ is_bare_head e
unfolding expr_text is_bare_head plain_text
bare-head (NameTree name type) = refl
bare-head (LiteralTree text value) = refl
bare-head (StringTree text) = refl
bare-head (UnaryTree o e) = broken-bare _ (broken-begins (unary_operator_text o) _ (broken-unary o))
bare-head (BinaryTree o l r) = broken-bare _ (broken-then _ _ (broken-ends _ (binary_operator_text o) (broken-binary o)))
bare-head (TernaryTree c l r) =
    broken-bare _ (broken-then _ _ (broken-ends _ (codes " : ") (record { broken = refl })))
bare-head (IndexTree s i) =
    bare-select (is_scalar_name s) (is_zero i) ScalarIndex (expr_text s) _ (is_bare_head s) (bare-head s) (broken-ends _ (codes "]") (record { broken = refl }))
bare-head (SliceTree s h l) =
    bare-select (is_scalar_name s) (is_zero h && is_zero l) ScalarSlice (expr_text s) _ (is_bare_head s) (bare-head s) (broken-ends _ (codes "]") (record { broken = refl }))
bare-head (PartSelectTree s i w) = broken-bare _ (broken-ends _ (codes "]") (record { broken = refl }))
bare-head (MemberOfTree s n) = broken-bare _ (broken-then _ _ (broken-ends _ (codes ".") (record { broken = refl })))
bare-head (ConcatTree n es) = broken-bare _ (broken-ends _ (codes "}") (record { broken = refl }))
bare-head (PatternTree es) = broken-bare _ (broken-ends _ (codes "}") (record { broken = refl }))
bare-head (WidthCastTree w e) = broken-bare _ (broken-width _ _)
bare-head (TypeCastTree t e) = broken-bare _ (broken-type-cast t (expr_text e))
bare-head (PosEdgeTree e) = broken-bare _ (broken-begins (codes "posedge ") _ (record { broken = refl }))
bare-head (NegEdgeTree e) = broken-bare _ (broken-begins (codes "negedge ") _ (record { broken = refl }))
bare-head (MacroTree name es) = broken-bare _ (broken-then _ _ (broken-begins (codes "`") _ (record { broken = refl })))
bare-head (CallTree name es) = broken-bare _ (broken-ends _ (codes ")") (record { broken = refl }))
bare-head MissingExpr = bare-empty
