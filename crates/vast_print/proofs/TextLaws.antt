-- Laws of writing expressions, one for each case.
use Rattle.std.proofs.Common.{◌≡◌, ℕ, ℤ, Bool, true, false, not, List, refl, ◌∙◌, ap, codes, Option}
use Rattle.std.specs.Prelude.{◌&&◌}
use Rattle.vast_literal.specs.declared.operator.UnaryOperator.{UnaryOperator as UnaryOp}
use Rattle.vast_literal.specs.declared.operator.UnaryOperator.TheVariants.{Negate as NegateOp, BitwiseNot as BitwiseNotOp, LogicalNot as LogicalNotOp, AndReduce as AndReduceOp, OrReduce as OrReduceOp, XorReduce as XorReduceOp}
use Rattle.vast_literal.specs.Tree.{ExprTree, NameTree, SliceTree, WidthCastTree, TypeCastTree, TypeTree, ScalarTree, VectorTree, IntegerTree, IntTree, ExternalTree, PackageTree, MaybeType}
use Rattle.vast_literal.specs.Shape.{is_scalar_name, is_zero}
use Rattle.vast_print.specs.declared.refusal.Refusal.TheVariants.{ScalarSlice}
use Rattle.vast_print.specs.Printed.{Printed, plain_text, wrapped}
use Rattle.vast_print.specs.Page.{written}
use Rattle.vast_print.specs.Draft.{Draft}
use Rattle.vast_print.specs.Output.{Output, Unstopped, Stopped, word, inline}
use Rattle.vast_print.specs.Levels.{unary_operator_text}
use Rattle.vast_print.specs.Bare.{is_bare}
use Rattle.vast_print.specs.Internal.Bare.{is_bare_head}
use Rattle.vast_print.specs.Text.{elided, cast_to, width_cast, package_text, expr_text, type_cast}
use Rattle.vast_print.specs.Internal.Words.{cast_sign_word, scalar_cast_opening, scalar_cast_closing, number_cast_opening, number_cast_closing}
use Rattle.vast_print.proofs.OutputLaws.{inline-then, inline-word, inline-refused}
use Rattle.vast_print.proofs.Lines.{word-word}
use Rattle.vast_print.proofs.BareLaws.{bare-head}
use Rattle.vast_literal.specs.NormalExpr.{unary_operator_token}

-- parentheses

pub inline-wrapped : (d : ℕ) (k : Output) (p : Printed) → inline d k (written (wrapped true p)) ≡ word (inline d (word k (codes "(")) (written p)) (codes ")")
unfolding wrapped
inline-wrapped d k p = simp (inline-then, inline-word)

pub inline-bare : (d : ℕ) (k : Output) (p : Printed) → inline d k (written (wrapped false p)) ≡ inline d k (written p)
unfolding wrapped
inline-bare d k p = refl

-- names

pub inline-name : (d : ℕ) (k : Output) (name : List ℕ) (type : MaybeType) → inline d k (written (expr_text (NameTree name type))) ≡ inline d k (written (plain_text name))
unfolding expr_text
inline-name d k name type = refl

-- operators

pub inline-unary-sign : (d : ℕ) (k : Output) (o : UnaryOp) → inline d k (written (plain_text (unary_operator_text o))) ≡ word k (unary_operator_text o)
unfolding unary_operator_token
inline-unary-sign d k NegateOp = inline-word d k (codes "-") refl
inline-unary-sign d k BitwiseNotOp = inline-word d k (codes "~") refl
inline-unary-sign d k LogicalNotOp = inline-word d k (codes "!") refl
inline-unary-sign d k AndReduceOp = inline-word d k (codes "&") refl
inline-unary-sign d k OrReduceOp = inline-word d k (codes "|") refl
inline-unary-sign d k XorReduceOp = inline-word d k (codes "^") refl

-- selects

pub inline-scalar-slice : (d : ℕ) (k : Output) (s h l : ExprTree) → is_scalar_name s ≡ true → (is_zero h && is_zero l) ≡ true → inline d k (written (expr_text (SliceTree s h l))) ≡ inline d k (written (expr_text s))
unfolding expr_text elided
inline-scalar-slice d k s h l e z = rw e (rw z refl)

pub inline-refused-slice : (d : ℕ) (k : Draft) (s h l : ExprTree) → is_scalar_name s ≡ true → (is_zero h && is_zero l) ≡ false → inline d (Unstopped k) (written (expr_text (SliceTree s h l))) ≡ Stopped ScalarSlice
unfolding expr_text elided
inline-refused-slice d k s h l e z = rw e (rw z (inline-refused d k ScalarSlice (expr_text s)))

-- casts

inline-cast-to : (d : ℕ) (k : Output) (head p : Printed) → inline d k (written (cast_to head p)) ≡ word (inline d (word (inline d k (written head)) (codes "'(")) (written p)) (codes ")")
unfolding cast_to
inline-cast-to d k head p = simp (inline-then, inline-word)

inline-cast-by : (d : ℕ) (k : Output) (w p : Printed) →
    inline d k (written (width_cast w p)) ≡ word (inline d (word (inline d k (written (wrapped (not (is_bare w.text)) w))) (codes "'(")) (written p)) (codes ")")
unfolding width_cast
inline-cast-by d k w p = inline-cast-to d k (wrapped (not (is_bare w.text)) w) p

pub inline-width-cast : (d : ℕ) (k : Output) (w e : ExprTree) →
    inline d k (written (expr_text (WidthCastTree w e)))
    ≡ word (inline d (word (inline d k (written (wrapped (not (is_bare_head w)) (expr_text w)))) (codes "'(")) (written (expr_text e))) (codes ")")
unfolding expr_text
inline-width-cast d k w e =
    inline-cast-by d k (expr_text w) (expr_text e)
    ∙ ap (λ b. word (inline d (word (inline d k (written (wrapped (not b) (expr_text w)))) (codes "'(")) (written (expr_text e))) (codes ")")) (bare-head w)

pub inline-type-cast : (d : ℕ) (k : Output) (t : TypeTree) (e : ExprTree) → inline d k (written (expr_text (TypeCastTree t e))) ≡ inline d k (written (type_cast t (expr_text e)))
unfolding expr_text
inline-type-cast d k t e = refl

pub inline-scalar-cast : (d : ℕ) (k : Output) (signed : Bool) (p : Printed) →
    inline d k (written (type_cast (ScalarTree signed) p)) ≡ word (inline d (word k (scalar_cast_opening signed)) (written p)) (scalar_cast_closing signed)
unfolding type_cast
inline-scalar-cast d k true p = simp (inline-cast-to, inline-word, word-word)
inline-scalar-cast d k false p = simp (inline-cast-to, inline-word, word-word)

pub inline-vector-cast : (d : ℕ) (k : Output) (w : ExprTree) (v : Option ℤ) (signed : Bool) (p : Printed) →
    inline d k (written (type_cast (VectorTree w v signed) p))
    ≡ word (inline d (word (inline d (word k (cast_sign_word signed)) (written (wrapped (not (is_bare_head w)) (expr_text w)))) (codes "'(")) (written p)) (codes "))")
unfolding type_cast
inline-vector-cast d k w v true p =
    simp (inline-cast-to, inline-cast-by, inline-word, word-word)
    (ap (λ b. word (inline d (word (inline d (word k (codes "signed'(")) (written (wrapped (not b) (expr_text w)))) (codes "'(")) (written p)) (codes "))")) (bare-head w))
inline-vector-cast d k w v false p =
    simp (inline-cast-to, inline-cast-by, inline-word, word-word)
    (ap (λ b. word (inline d (word (inline d (word k (codes "unsigned'(")) (written (wrapped (not b) (expr_text w)))) (codes "'(")) (written p)) (codes "))")) (bare-head w))

pub inline-integer-cast : (d : ℕ) (k : Output) (signed : Bool) (p : Printed) →
    inline d k (written (type_cast (IntegerTree signed) p)) ≡ word (inline d (word k (number_cast_opening (codes "integer") signed)) (written p)) (number_cast_closing signed)
unfolding type_cast
inline-integer-cast d k true p = simp (inline-cast-to, inline-word, word-word)
inline-integer-cast d k false p = simp (inline-cast-to, inline-word, word-word)

pub inline-int-cast : (d : ℕ) (k : Output) (signed : Bool) (p : Printed) →
    inline d k (written (type_cast (IntTree signed) p)) ≡ word (inline d (word k (number_cast_opening (codes "int") signed)) (written p)) (number_cast_closing signed)
unfolding type_cast
inline-int-cast d k true p = simp (inline-cast-to, inline-word, word-word)
inline-int-cast d k false p = simp (inline-cast-to, inline-word, word-word)

pub inline-external-cast : (d : ℕ) (k : Output) (name : List ℕ) (p : Printed) →
    inline d k (written (type_cast (ExternalTree name) p)) ≡ word (inline d (word (inline d k (written (plain_text name))) (codes "'(")) (written p)) (codes ")")
unfolding type_cast
inline-external-cast d k name p = simp inline-cast-to

pub inline-package-cast : (d : ℕ) (k : Output) (scope name : List ℕ) (p : Printed) →
    inline d k (written (type_cast (PackageTree scope name) p))
    ≡ word (inline d (word (inline d (word (inline d k (written (plain_text scope))) (codes "::")) (written (plain_text name))) (codes "'(")) (written p)) (codes ")")
unfolding type_cast package_text
inline-package-cast d k scope name p = simp (inline-cast-to, inline-then, inline-word)
