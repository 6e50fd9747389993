-- Operators, marks, and what an apostrophe begins where no digits stand before it.
use Rattle.std.proofs.Common.{◌≡◌, ℕ, List, [], ◌∷◌, ◌++◌, cond, eqb-true, eqb, Option, Some, None, refl, sym, ◌∙◌, ap}
use Rattle.vast_literal.specs.Tokens.{LogicOr, LogicAnd, BitOr, BitXor, BitAnd, NotEqual, CaseNotEqual, Equal, CaseEqual, GreaterEqual, Greater, LessEqual, Less, ShiftLeft, ShiftRightSigned, ShiftRight, Plus, Minus, Times, Divide, Modulo, Power, BitNot, LogicNot}
use Rattle.vast_literal.specs.Tokens.{Punct, OpenParen, CloseParen, OpenBracket, CloseBracket, OpenBrace, CloseBrace, Comma, Colon, Semicolon, Dot, Hash, At, Question, DoubleColon, PlusColon, Assign, Apostrophe, Token, Operator, Mark}
use Rattle.vast_literal.specs.Scan.{InComment, Pending, Step, keep, give, grown, find_sign, whole_signs, growing_signs, scan}
use Rattle.vast_literal.specs.Tokens.{op_text}
use Rattle.vast_literal.specs.LiteralToken.{every}
use Rattle.vast_literal.specs.Lexemes.{mark_text, is_in_line, IsLexeme}
use Rattle.vast_literal.specs.Lexemes.IsLexeme.{operator, mark}
use Rattle.vast_literal.proofs.LexemeShapes.{grown_state, sign_goes}
use Rattle.vast_literal.proofs.LexemeFronts.{Ahead, here, extend, whole, scan_follow}
use Rattle.vast_literal.proofs.LexemeRuns.{comment_on}
use Rattle.vast_literal.proofs.ScanLaws.{by_test}
use Rattle.std.proofs.lemmas.Bool.{cond_both}

-- A sign as it is written.
abbrev pub sign_text : Token → List ℕ
sign_text (Operator op) = op_text op
sign_text (Mark m) = mark_text m
sign_text _ = []

-- it is a lexeme by itself
abbrev pub IsSign : Token → Type 0
IsSign g = IsLexeme (sign_text g) (g ∷ [])

-- What a byte makes of a sign with the text w: nothing, a longer sign that is whole or may grow, or a comment.
data Grows (w : List ℕ) (c : ℕ) : Option Step → Type 0 where
  stays : Grows w c None
  gives : {ts : List Token} → IsLexeme (w ++ (c ∷ [])) ts → Grows w c (Some (give ts))
  becomes : {g : Token} → sign_text g ≡ w ++ (c ∷ []) → IsSign g → Grows w c (Some (keep (Pending g)))
  comments : w ++ (c ∷ []) ≡ 47 ∷ 47 ∷ [] → Grows w c (Some (keep InComment))

grows_at : (w : List ℕ) (c d : ℕ) (longer other : Option Step) → Grows w d longer → Grows w c other → Grows w c (cond (eqb c d) longer other)
grows_at w c d longer other h k = cond_both (eqb c d) longer other (Grows w c) (λ e. rw (eqb-true c d e) h) (λ e. k)

is_mark : (m : Punct) → (m ≡ Apostrophe → ⊥) → IsSign (Mark m)
is_mark m h = mark m h

grows : (g : Token) (c : ℕ) → Grows (sign_text g) c (grown g c)
grows (Mark Colon) c = grows_at (58 ∷ []) c 58 (Some (give (Mark DoubleColon ∷ []))) None (gives (mark DoubleColon (λ e. absurd (cc)))) stays
grows (Mark Assign) c = grows_at (61 ∷ []) c 61 (Some (keep (Pending (Operator Equal)))) None (becomes refl (operator Equal)) stays
grows (Operator Equal) c = grows_at (61 ∷ 61 ∷ []) c 61 (Some (give (Operator CaseEqual ∷ []))) None (gives (operator CaseEqual)) stays
grows (Operator LogicNot) c = grows_at (33 ∷ []) c 61 (Some (keep (Pending (Operator NotEqual)))) None (becomes refl (operator NotEqual)) stays
grows (Operator NotEqual) c = grows_at (33 ∷ 61 ∷ []) c 61 (Some (give (Operator CaseNotEqual ∷ []))) None (gives (operator CaseNotEqual)) stays
grows (Operator Less) c =
    grows_at (60 ∷ []) c 61 (Some (give (Operator LessEqual ∷ []))) (cond (eqb c 60) (Some (give (Operator ShiftLeft ∷ []))) None) (gives (operator LessEqual))
    (grows_at (60 ∷ []) c 60 (Some (give (Operator ShiftLeft ∷ []))) None (gives (operator ShiftLeft)) stays)
grows (Operator Greater) c =
    grows_at (62 ∷ []) c 61 (Some (give (Operator GreaterEqual ∷ []))) (cond (eqb c 62) (Some (keep (Pending (Operator ShiftRight)))) None) (gives (operator GreaterEqual))
    (grows_at (62 ∷ []) c 62 (Some (keep (Pending (Operator ShiftRight)))) None (becomes refl (operator ShiftRight)) stays)
grows (Operator ShiftRight) c = grows_at (62 ∷ 62 ∷ []) c 62 (Some (give (Operator ShiftRightSigned ∷ []))) None (gives (operator ShiftRightSigned)) stays
grows (Operator BitAnd) c = grows_at (38 ∷ []) c 38 (Some (give (Operator LogicAnd ∷ []))) None (gives (operator LogicAnd)) stays
grows (Operator BitOr) c = grows_at (124 ∷ []) c 124 (Some (give (Operator LogicOr ∷ []))) None (gives (operator LogicOr)) stays
grows (Operator Plus) c = grows_at (43 ∷ []) c 58 (Some (give (Mark PlusColon ∷ []))) None (gives (mark PlusColon (λ e. absurd (cc)))) stays
grows (Operator Times) c = grows_at (42 ∷ []) c 42 (Some (give (Operator Power ∷ []))) None (gives (operator Power)) stays
grows (Operator Divide) c = grows_at (47 ∷ []) c 47 (Some (keep InComment)) None (comments refl) stays
grows _ c = stays

abbrev SignAhead : Token → List ℕ → Type 0
SignAhead g t = Ahead (sign_goes (Pending g)) (sign_text g) (Pending g) t

sign_moves : (g : Token) (c : ℕ) (o : Option Step) (v : List ℕ) → grown g c ≡ o → sign_goes (Pending g) (c ∷ v) ≡ sign_goes (grown_state o) v
sign_moves g c o v e = ap (λ x. sign_goes (grown_state x) v) e

sign_by : (g : Token) (c : ℕ) (cs : List ℕ) → IsSign g → (o : Option Step) → grown g c ≡ o → Grows (sign_text g) c o → ((n : Token) → IsSign n → SignAhead n cs) → SignAhead g (c ∷ cs)
sign_by g c cs h o e stays f =
    here (sign_goes (Pending g)) (sign_text g) (Pending g) (c ∷ cs) (g ∷ []) h (λ v. sign_moves g c o v e) (scan_follow (Pending g) c cs (g ∷ []) (rw e))
sign_by g c cs h o e (gives {ts} k) f = whole (sign_goes (Pending g)) (sign_text g) (Pending g) c cs ts (rw e) (λ v m. sym (sign_moves g c o v e) ∙ m) k
sign_by g c cs h o e (becomes {g = n} t k) f =
    extend (sign_goes (Pending g)) (sign_goes (Pending n)) (sign_text g) (Pending g) (Pending n) c cs (rw e) (λ v m. sym (sign_moves g c o v e) ∙ m) (rw (sym t) (f n k))
sign_by g c cs h o e (comments t) f =
    extend (sign_goes (Pending g)) (every is_in_line) (sign_text g) (Pending g) InComment c cs (rw e) (λ v m. sym (sign_moves g c o v e) ∙ m) (rw t (comment_on cs))

pub sign_on : (t : List ℕ) (g : Token) → IsSign g → SignAhead g t
unfolding scan
sign_on [] g h = here (sign_goes (Pending g)) (sign_text g) (Pending g) [] (g ∷ []) h tt refl
sign_on (c ∷ cs) g h = sign_by g c cs h (grown g c) refl (grows g c) (λ n k. sign_on cs n k)

-- The signs of one byte.
data AreSigns : List (ℕ × Token) → Type 0 where
  no_sign : AreSigns []
  sign : {c : ℕ} {g : Token} {signs : List (ℕ × Token)} → sign_text g ≡ c ∷ [] → IsSign g → AreSigns signs → AreSigns ((c, g) ∷ signs)

whole_are : AreSigns whole_signs
whole_are =
    sign refl (is_mark OpenParen (λ e. absurd (cc))) (sign refl (is_mark CloseParen (λ e. absurd (cc))) (sign refl (is_mark OpenBracket (λ e. absurd (cc))) (sign refl (is_mark CloseBracket (λ e. absurd (cc)))
    (sign refl (is_mark OpenBrace (λ e. absurd (cc))) (sign refl (is_mark CloseBrace (λ e. absurd (cc))) (sign refl (is_mark Comma (λ e. absurd (cc))) (sign refl (is_mark Semicolon (λ e. absurd (cc)))
    (sign refl (is_mark Dot (λ e. absurd (cc))) (sign refl (is_mark Hash (λ e. absurd (cc))) (sign refl (is_mark At (λ e. absurd (cc))) (sign refl (is_mark Question (λ e. absurd (cc)))
    (sign refl (operator BitXor) (sign refl (operator Minus) (sign refl (operator Modulo) (sign refl (operator BitNot) no_sign)))))))))))))))

growing_are : AreSigns growing_signs
growing_are =
    sign refl (is_mark Colon (λ e. absurd (cc))) (sign refl (is_mark Assign (λ e. absurd (cc))) (sign refl (operator LogicNot) (sign refl (operator Less) (sign refl (operator Greater)
    (sign refl (operator BitAnd) (sign refl (operator BitOr) (sign refl (operator Plus) (sign refl (operator Times) (sign refl (operator Divide) no_sign)))))))))

pub record IsFound (c : ℕ) (g : Token) : Type 0 where
  pub text : sign_text g ≡ c ∷ []
  pub lexeme : IsSign g

found : (signs : List (ℕ × Token)) → AreSigns signs → (c : ℕ) (g : Token) → find_sign signs c ≡ Some g → IsFound c g
found signs no_sign c g e = absurd (cc)
found signs (sign {c = d} {g = h} {signs = rest} t k m) c g e = by_test (eqb c d)
    (λ p. let same : h ≡ g = cc (rw p at e) in rw (eqb-true c d p, sym same) (record { text = t; lexeme = k }))
    (λ p. found rest m c g (rw p at e))

pub found_whole : (c : ℕ) (g : Token) → find_sign whole_signs c ≡ Some g → IsFound c g
found_whole = found whole_signs whole_are

pub found_growing : (c : ℕ) (g : Token) → find_sign growing_signs c ≡ Some g → IsFound c g
found_growing = found growing_signs growing_are
