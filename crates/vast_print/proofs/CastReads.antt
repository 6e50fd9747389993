-- Operators, elided selects and casts in the text of an expression.
use Rattle.std.proofs.Common.{◌≡◌, ℕ, ℤ, pos, List, [], ◌∷◌, ◌++◌, Bool, true, false, cond, not, ◌&&◌, ◌||◌, eqb, eqb-true, None, refl, sym, subst, ◌∙◌, ap, append_assoc, arith, nat_le}
use Rattle.std.proofs.lemmas.Bool.{and_left as false_and}
use Rattle.std.proofs.lemmas.Bool.Decides.{nat_tests}
use Rattle.std.specs.Prelude.{negsuc, if◌then◌else◌}
use Rattle.std.specs.Fmt.{signed_decimal}
use Rattle.vast_literal.specs.Tokens.{Token, Mark, Word}
use Rattle.vast_literal.specs.declared.token.Mark.TheVariants.{OpenParen, Apostrophe, DoubleColon}
use Rattle.vast_literal.specs.declared.operator.BinaryOperator.{BinaryOperator as BinaryOp}
use Rattle.vast_literal.specs.declared.operator.BinaryOperator.TheVariants.{Add as AddOp}
use Rattle.vast_literal.specs.Tree.{ExprTree, NameTree, LiteralTree, StringTree, IndexTree, SliceTree, UnaryTree, BinaryTree, TernaryTree}
use Rattle.vast_literal.specs.Scan.{is_letter, is_digit, is_word_byte}
use Rattle.vast_literal.specs.LiteralToken.{every, is_number, is_literal_text, is_string_text}
use Rattle.vast_literal.specs.Plain.{is_identifier, is_plain_name}
use Rattle.vast_literal.proofs.ExprTokens as Tokens
use Rattle.vast_literal.specs.WellFormed.{is_well_formed, is_positive}
use Rattle.vast_literal.proofs.TokenReads.{Free, Reads}
use Rattle.vast_literal.proofs.Pieces.{free_free, reads_end, head_wrapped}
use Rattle.vast_literal.proofs.NumberLaws.{decimal_number}
use Rattle.vast_literal.proofs.Words.{name_reads, name_cast_free, double_colon}
use Rattle.vast_literal.specs.Shape.{is_scalar_name, is_zero, select_wraps, unary_wraps, binary_precedence}
use Rattle.vast_print.specs.declared.refusal.Refusal.{Refusal}
use Rattle.vast_print.specs.declared.refusal.Refusal.TheVariants.{ScalarIndex, ScalarSlice}
use Rattle.vast_print.specs.Printed.{Printed}
use Rattle.vast_print.specs.Bare.{is_bare}
use Rattle.vast_print.specs.Internal.Bare as BareInternal
use Rattle.vast_print.specs.Text.{elided, expr_text}
use Rattle.vast_print.proofs.BareLaws.{bare-head}
use Rattle.vast_print.proofs.TestLaws.{bare_same}
use Rattle.vast_print.proofs.FaultLaws.{halves, elided_fine, elided_text}
use Rattle.vast_print.proofs.ExprOpens.{is_tight, literal_first}
use Rattle.vast_literal.proofs.ScanLaws.{by_test}

-- operators

binary_never : (o : BinaryOp) → nat_le (binary_precedence o) 12 ≡ true
binary_never AddOp = refl
binary_never _ = refl

bare_operand : (e : ExprTree) → unary_wraps e ≡ false → select_wraps e ≡ false
bare_operand (LiteralTree t v) h = h
bare_operand (BinaryTree o a b) h = let never = binary_never o in absurd (cc (never, h))
bare_operand (UnaryTree o a) h = absurd (cc h)
bare_operand (TernaryTree c a b) h = absurd (cc h)
bare_operand _ h = refl

pub operand_tight : (e : ExprTree) → unary_wraps e ≡ false → is_tight e ≡ true
operand_tight e h = rw (bare_operand e h) refl

-- positive widths

pub positive_number : (z : ℤ) → is_positive z ≡ true → is_number (signed_decimal z) ≡ true
positive_number (pos n) h = decimal_number n
positive_number (negsuc n) h = absurd (cc h)

-- elided selects

pub pick_reads : (b z : Bool) (r : Refusal) (s rest : Printed) {ss ts : List Token} → (if b then elided z r s else rest).fault ≡ None → (b ≡ true → s.fault ≡ None → Reads s.text ss) → (b ≡ false → rest.fault ≡ None → Reads rest.text ts) →
    Reads (if b then elided z r s else rest).text (cond (b && z) ss ts)
pick_reads true z r s rest {ss = ss} {ts = ts} e f g = let (d, k) = elided_fine z r s e in
    rw (elided_text z r s) (subst (λ (c : Bool). Reads s.text (cond c ss ts)) (sym d) (f refl k))
pick_reads false z r s rest e f g = g refl e

-- the heads of width casts

pub no_letter : (c : ℕ) → (is_digit c || eqb c 39) ≡ true → is_letter c ≡ false
no_letter c h = grind (arith, nat_tests)

pub literal_no_word : (w : List ℕ) → is_literal_text w ≡ true → is_identifier w ≡ false
literal_no_word [] h = refl
literal_no_word (c ∷ cs) h = by_test (eqb c 45) (λ e. rw (eqb-true c 45 e) refl)
    (λ e. false_and (is_letter c) (every is_word_byte cs) (no_letter c (literal_first c cs (rw e at h))))

pub string_no_head : (w : List ℕ) → is_string_text w ≡ true → (is_number w || is_identifier w) ≡ false
string_no_head [] h = absurd (cc h)
string_no_head (c ∷ cs) h = rw (eqb-true c 34 (search halves)) refl

pub or_false : (a b : Bool) → b ≡ false → (a || b) ≡ a
or_false true b h = refl
or_false false b h = h

pub elided_head : (b z n m : Bool) (r : Refusal) (s rest : Printed) → (if b then elided z r s else rest).fault ≡ None → (b ≡ true → s.fault ≡ None → n ≡ m) → (b && n) ≡ ((b && z) && m)
elided_head true z n m r s rest e f = let (d, k) = elided_fine z r s e in let g = f refl k in cc (d, g)
elided_head false z n m r s rest e f = refl

pub heads : (e : ExprTree) → is_well_formed e ≡ true → (expr_text e).fault ≡ None → BareInternal.is_bare_head e ≡ Tokens.is_bare_head e
unfolding BareInternal.is_bare_head Tokens.is_bare_head expr_text
heads (NameTree n type) w f = bare_same n
heads (LiteralTree t v) w f = bare_same t ∙ or_false (is_number t) (is_identifier t) (literal_no_word t w)
heads (StringTree t) w f = bare_same t ∙ string_no_head t w
heads (IndexTree s i) w f = elided_head (is_scalar_name s) (is_zero i) (BareInternal.is_bare_head s) (Tokens.is_bare_head s) ScalarIndex (expr_text s) _ f (λ _ k. heads s (search halves) k)
heads (SliceTree s a b) w f = elided_head (is_scalar_name s) (is_zero a && is_zero b) (BareInternal.is_bare_head s) (Tokens.is_bare_head s) ScalarSlice (expr_text s) _ f (λ _ k. heads s (search halves) k)
heads _ w f = refl

pub head_of_text : (t : List ℕ) → not (is_bare t) ≡ head_wrapped t
head_of_text t = ap not (bare_same t)

pub head_of_tree : (e : ExprTree) → is_well_formed e ≡ true → (expr_text e).fault ≡ None → not (Tokens.is_bare_head e) ≡ head_wrapped (expr_text e).text
head_of_tree e w f = ap not (sym (heads e w f) ∙ (sym (bare-head e) ∙ bare_same (expr_text e).text))

pub package_free : (s n : List ℕ) → is_plain_name s ≡ true → is_plain_name n ≡ true → Free (((s ++ (58 ∷ 58 ∷ [])) ++ n) ++ (39 ∷ 40 ∷ [])) (Word s ∷ Mark DoubleColon ∷ Word n ∷ Mark Apostrophe ∷ Mark OpenParen ∷ [])
package_free s n h k = simp append_assoc (simp append_assoc at (free_free (reads_end (name_reads s h) double_colon) (name_cast_free n k)))
