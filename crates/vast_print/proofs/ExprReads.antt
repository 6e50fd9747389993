-- The text of a plain expression has the tokens that the grammar reads, and the grammar derives its normal expression.
use Rattle.std.proofs.Common.{◌≡◌, ℕ, List, [], ◌∷◌, ◌++◌, Bool, true, false, cond, not, ◌&&◌, Some, None, refl, ◌∙◌, append_assoc, append-nil, codes}
use Rattle.std.specs.Prelude.{if◌then◌else◌}
use Rattle.std.specs.Fmt.{signed_decimal}
use Rattle.vast_literal.specs.Tokens.{Token, Mark, Reserved, Word, MacroWord, key_text}
use Rattle.vast_literal.specs.declared.token.Mark.TheVariants.{Apostrophe, OpenParen, DoubleColon}
use Rattle.vast_literal.specs.declared.token.Key.{Key}
use Rattle.vast_literal.specs.declared.token.Key.TheVariants.{Logic as LogicKey, Signed as SignedKey, Unsigned as UnsignedKey, Integer as IntegerKey, Int as IntKey}
use Rattle.vast_literal.specs.declared.operator.UnaryOperator.{UnaryOperator as UnaryOp}
use Rattle.vast_literal.specs.Tree.{ExprTree, NameTree, LiteralTree, StringTree, UnaryTree, BinaryTree, TernaryTree, IndexTree, SliceTree, PartSelectTree, MemberOfTree, ConcatTree, PatternTree, WidthCastTree, TypeCastTree, PosEdgeTree, NegEdgeTree, MacroTree, CallTree, MissingExpr, TypeTree, ScalarTree, VectorTree, IntegerTree, IntTree, ExternalTree, PackageTree, NoExpr, SomeExpr, Exprs, NoExprs, MoreExprs, NoArguments, SomeArguments}
use Rattle.vast_literal.specs.Scan as Scan
use Rattle.vast_literal.specs.Scan.{tokens}
use Rattle.vast_literal.specs.Grammar.{DerivesExpression}
use Rattle.vast_literal.specs.NormalExpr.{normal, signing_key, scalar_sign, integer_sign, binary_operator_token}
use Rattle.vast_literal.proofs.Pieces.{add_tokens-nil, sign_reads, operator_divides, as_reads, open_paren, close_paren, open_bracket, close_bracket, open_brace, close_brace, comma, dot, question, colon}
use Rattle.vast_literal.proofs.Spelled.{spelled, low}
use Rattle.vast_literal.proofs.Longest.{scan_lexes}
use Rattle.vast_literal.specs.Plain.{is_plain_name, is_plain, is_plain_type, are_plain}
use Rattle.vast_literal.proofs.ExprTokens.{expr_tokens, cast_tokens, each_tokens, comma_tokens, comma_tail_tokens, wrapped_tokens, cast_operand, word_cast_tokens}
use Rattle.vast_literal.proofs.ExprTokens as Tokens
use Rattle.vast_literal.specs.WellFormed.{is_well_formed, is_well_formed_type, is_cast_type, are_well_formed}
use Rattle.vast_print.proofs.FaultLaws.{halves, first_none, wrapped_fine}
use Rattle.vast_literal.proofs.TokenReads.{Free, Reads}
use Rattle.vast_literal.proofs.LiteralLaws.{literal_reads}
use Rattle.vast_literal.proofs.Words.{name_reads, number_reads, string_reads, macro_reads, called_reads, name_cast_free, key_cast_free, plus_colon, pattern_open}
use Rattle.vast_literal.specs.Shape.{is_scalar_name, is_zero, left_child_wraps, right_child_wraps, select_wraps, ternary_wraps, unary_wraps}
use Rattle.vast_print.specs.declared.refusal.Refusal.{Refusal}
use Rattle.vast_print.specs.declared.refusal.Refusal.TheVariants.{ScalarIndex, ScalarSlice}
use Rattle.vast_print.specs.Printed.{Printed, plain_text, ◌⊕◌, wrapped}
use Rattle.vast_print.specs.Bare.{is_bare}
use Rattle.vast_print.specs.Text.{elided, cast_to, width_cast, sign_cast, scalar_cast, number_cast, package_text, expr_text, list_text, more_text, type_cast}
use Rattle.vast_print.proofs.ExprOpens.{front, opens_text, wrapped_opens}
use Rattle.vast_print.proofs.TextReads.{Prints, nothing_reads, Rest, regrouped, printed_assoc, stands, rest_none, after, closed, parted, enclosing, parted_by_colon, goes_on, rest_more, in_parentheses, bracketed, head_reads}
use Rattle.vast_print.proofs.CastReads.{operand_tight, positive_number, pick_reads, package_free, head_of_text, head_of_tree}

-- Each form of expression over its parts.

abbrev Told : ExprTree → Type 0
Told e = Prints Reads (expr_text e) (expr_tokens e)

unary_told : (o : UnaryOp) (e : ExprTree) → is_plain e ≡ true → is_well_formed e ≡ true → Told e → Told (UnaryTree o e)
unfolding expr_text expr_tokens ◌⊕◌ plain_text
unary_told o e p w r = record { told = λ f. sign_reads o _ (wrapped_opens true (unary_wraps e) (expr_text e) (λ h. opens_text true e p w (λ _. operand_tight e h))) ((bracketed (unary_wraps e) r).told f) }

pick_told : (b z : Bool) (r : Refusal) {s rest : Printed} {ss ts : List Token} → Prints Reads s ss → Prints Reads rest ts → Prints Reads (if b then elided z r s else rest) (cond (b && z) ss ts)
pick_told b z r {s = s} {rest = rest} f g = record { told = λ e. pick_reads b z r s rest e (λ _ k. f.told k) (λ _ k. g.told k) }

macro_name : (m : List ℕ) → is_plain_name m ≡ true → Prints Reads (plain_text (codes "`") ⊕ plain_text m) (MacroWord m ∷ [])
unfolding ◌⊕◌ plain_text
macro_name m h = record { told = λ e. macro_reads m h }

-- casts

cast_told : (h : Printed) {p : Printed} (hs : List Token) {ts : List Token} → Prints Free (h ⊕ plain_text (codes "'(")) (hs ++ (Mark Apostrophe ∷ Mark OpenParen ∷ [])) → Prints Reads p ts → Prints Reads (cast_to h p) (hs ++ cast_operand ts)
unfolding cast_to
cast_told h hs f g = regrouped (closed (after f g) close_paren) (simp append_assoc)

name_head : (w : List ℕ) {ts : List Token} → Free (w ++ (39 ∷ 40 ∷ [])) ts → Prints Free (plain_text w ⊕ plain_text (codes "'(")) ts
unfolding ◌⊕◌ plain_text
name_head w f = record { told = λ e. f }

key_told : (k : Key) {p : Printed} {ts : List Token} → Prints Reads p ts → Prints Reads (cast_to (plain_text (key_text k)) p) (Reserved k ∷ cast_operand ts)
key_told k r = cast_told _ (Reserved k ∷ []) (name_head _ (key_cast_free k)) r

sign_told : (signed : Bool) {p : Printed} {ts : List Token} → Prints Reads p ts → Prints Reads (cast_to (sign_cast signed) p) (Reserved (signing_key signed) ∷ cast_operand ts)
unfolding signing_key key_text
sign_told true r = key_told SignedKey r
sign_told false r = key_told UnsignedKey r

scalar_cast_told : (signed : Bool) {p : Printed} {ts : List Token} → Prints Reads p ts → Prints Reads (scalar_cast signed p) (word_cast_tokens (scalar_sign signed) LogicKey ts)
unfolding scalar_sign signing_key key_text
scalar_cast_told true r = key_told SignedKey (key_told LogicKey r)
scalar_cast_told false r = key_told LogicKey r

number_cast_told : (k : Key) (signed : Bool) {p : Printed} {ts : List Token} → Prints Reads p ts → Prints Reads (number_cast (key_text k) signed p) (word_cast_tokens (integer_sign signed) k ts)
unfolding integer_sign signing_key key_text
number_cast_told k true r = key_told k r
number_cast_told k false r = key_told UnsignedKey (key_told k r)

package_head : (s n : List ℕ) → is_plain_name s ≡ true → is_plain_name n ≡ true → Prints Free (package_text s n ⊕ plain_text (codes "'(")) (Word s ∷ Mark DoubleColon ∷ Word n ∷ Mark Apostrophe ∷ Mark OpenParen ∷ [])
unfolding package_text ◌⊕◌ plain_text
package_head s n h k = record { told = λ e. package_free s n h k }

width_head : (w : ExprTree) → is_well_formed w ≡ true → Told w →
    Prints Free (wrapped (not (is_bare (expr_text w).text)) (expr_text w) ⊕ plain_text (codes "'(")) (wrapped_tokens (not (Tokens.is_bare_head w)) (expr_tokens w) ++ (Mark Apostrophe ∷ Mark OpenParen ∷ []))
unfolding ◌⊕◌ plain_text
width_head w h r = record {
  told = λ e. let f = wrapped_fine (not (is_bare (expr_text w).text)) (expr_text w) ((first_none _ _ e).0) in
      head_reads _ _ (expr_text w) (head_of_text (expr_text w).text) (head_of_tree w h f) (r.told f);
}

width_told : (w : ExprTree) {p : Printed} {ts : List Token} → is_well_formed w ≡ true → Told w → Prints Reads p ts → Prints Reads (width_cast (expr_text w) p) (wrapped_tokens (not (Tokens.is_bare_head w)) (expr_tokens w) ++ cast_operand ts)
unfolding width_cast
width_told w h r q = cast_told _ _ (width_head w h r) q

mutual
  unfolding expr_text expr_tokens key_text

  -- The text of a plain, well-formed expression that is printed without a refusal reads as its tokens.
  pub expr_reads : (e : ExprTree) → is_plain e ≡ true → is_well_formed e ≡ true → Told e
  expr_reads (NameTree n type) p w = stands _ (name_reads n p)
  expr_reads (LiteralTree t v) p w = stands _ (literal_reads t w)
  expr_reads (StringTree t) p w = stands _ (string_reads t w)
  expr_reads (UnaryTree o e) p w = unary_told o e p w (expr_reads e p w)
  expr_reads (BinaryTree o a b) p w = simp printed_assoc (parted (bracketed (left_child_wraps o a) (expr_reads a (search halves) (search halves))) (operator_divides (binary_operator_token o))
      (bracketed (right_child_wraps o b) (expr_reads b (search halves) (search halves))))
  expr_reads (TernaryTree c a b) p w =
      simp printed_assoc (parted (bracketed (ternary_wraps c) (expr_reads c (search halves) (search halves))) question (parted (bracketed (ternary_wraps a) (expr_reads a (search halves) (search halves))) colon
      (bracketed (ternary_wraps b) (expr_reads b (search halves) (search halves)))))
  expr_reads (IndexTree s i) p w =
      let r = expr_reads s (search halves) (search halves) in
      pick_told (is_scalar_name s) (is_zero i) ScalarIndex r
      (simp printed_assoc (enclosing (bracketed (select_wraps s) r) open_bracket (expr_reads i (search halves) (search halves)) close_bracket))
  expr_reads (SliceTree s a b) p w =
      let r = expr_reads s (search halves) (search halves) in
      pick_told (is_scalar_name s) (is_zero a && is_zero b) ScalarSlice r
      (simp printed_assoc (parted (bracketed (select_wraps s) r) open_bracket (parted_by_colon (expr_reads a (search halves) (search halves))
      (front false _ _ (opens_text false b (search halves) (search halves) (λ e. absurd (cc e)))) (closed (expr_reads b (search halves) (search halves)) close_bracket))))
  expr_reads (PartSelectTree s i n) p w =
      simp printed_assoc (parted (bracketed (select_wraps s) (expr_reads s (search halves) (search halves))) open_bracket (parted (expr_reads i (search halves) (search halves)) plus_colon
      (closed (stands _ (number_reads (signed_decimal n) (positive_number n (search halves)))) close_bracket)))
  expr_reads (MemberOfTree s n) p w = simp printed_assoc (parted (bracketed (select_wraps s) (expr_reads s (search halves) w)) dot (stands _ (name_reads n (search halves))))
  expr_reads (ConcatTree NoExpr es) p w = simp printed_assoc (after (stands _ open_brace.free) (closed (list_reads es p w) close_brace))
  expr_reads (ConcatTree (SomeExpr n) es) p w = simp printed_assoc (after (stands _ open_brace.free) (parted (expr_reads n (search halves) (search halves)) open_brace
      (parted (list_reads es (search halves) (search halves)) close_brace (stands _ (as_reads close_brace.free)))))
  expr_reads (PatternTree es) p w = simp printed_assoc (after (stands _ pattern_open) (closed (list_reads es p w) close_brace))
  expr_reads (WidthCastTree h e) p w = width_told h (search halves) (expr_reads h (search halves) (search halves)) (expr_reads e (search halves) (search halves))
  expr_reads (TypeCastTree t e) p w =
      type_reads t (search halves) (search halves) (search halves) (expr_reads e (search halves) (search halves))
  expr_reads (PosEdgeTree e) p w = absurd (cc p)
  expr_reads (NegEdgeTree e) p w = absurd (cc p)
  expr_reads (MacroTree m NoArguments) p w = goes_on (macro_name m p) rest_none
  expr_reads (MacroTree m (SomeArguments es)) p w = goes_on (macro_name m (search halves)) (in_parentheses (list_reads es (search halves) w))
  expr_reads (CallTree n es) p w = simp printed_assoc (enclosing (stands _ (called_reads n (search halves))) open_paren (list_reads es (search halves) w) close_paren)
  expr_reads MissingExpr p w = absurd (cc w)

  type_reads : (t : TypeTree) {q : Printed} {ts : List Token} → is_plain_type t ≡ true → is_cast_type t ≡ true → is_well_formed_type t ≡ true → Prints Reads q ts → Prints Reads (type_cast t q) (cast_tokens t ts)
  type_reads (ScalarTree signed) p c w r = scalar_cast_told signed r
  type_reads (VectorTree h v signed) p c w r = sign_told signed (width_told h w (expr_reads h p w) r)
  type_reads (IntegerTree signed) p c w r = number_cast_told IntegerKey signed r
  type_reads (IntTree signed) p c w r = number_cast_told IntKey signed r
  type_reads (ExternalTree n) p c w r = cast_told _ (Word n ∷ []) (name_head _ (name_cast_free n p)) r
  type_reads (PackageTree s n) p c w r = cast_told _ (Word s ∷ Mark DoubleColon ∷ Word n ∷ []) (package_head s n (search halves) (search halves)) r
  type_reads _ p c w r = absurd (cc c)

  list_reads : (es : Exprs) → are_plain es ≡ true → are_well_formed es ≡ true → Prints Reads (list_text es) (comma_tokens (each_tokens es))
  list_reads NoExprs p w = stands _ nothing_reads
  list_reads (MoreExprs e es) p w = goes_on (expr_reads e (search halves) (search halves)) (more_reads es (search halves) (search halves))

  more_reads : (es : Exprs) → are_plain es ≡ true → are_well_formed es ≡ true → Prints Rest (more_text es) (comma_tail_tokens (each_tokens es))
  more_reads NoExprs p w = rest_none
  more_reads (MoreExprs e es) p w = rest_more comma (expr_reads e (search halves) (search halves)) (more_reads es (search halves) (search halves))

tokens_of : (a : List ℕ) (ts : List Token) → Reads a ts → tokens a ≡ Some ts
unfolding tokens Scan.scan
tokens_of a ts r = rw append-nil at (r.at [] refl) ∙ add_tokens-nil ts

-- The grammar derives the normal expression from the printed text.
pub expr_derived : (e : ExprTree) → is_plain e ≡ true → is_well_formed e ≡ true → (expr_text e).fault ≡ None → DerivesExpression (expr_text e).text (normal e)
expr_derived e p w f = record { parts = expr_tokens e; lexed = scan_lexes _ _ (tokens_of _ _ ((expr_reads e p w).told f)); spelled = low e (spelled e p w) }
