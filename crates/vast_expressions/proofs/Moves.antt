-- Single steps of the machine.
use Rattle.std.proofs.Common.{◌≡◌, ℕ, suc, ◌≤◌, ◌<◌, true, false, nat_lt, List, [], ◌∷◌, refl, sym, subst, arith, IsTrue, eq-eqb}
use Rattle.std.proofs.lemmas.Bool.Decides.{nat_tests}
use Rattle.vast_literal.specs.Tokens.{level, is_unary, Token, Reserved, Word, SystemWord, MacroWord, Operator, Mark}
use Rattle.vast_expressions.specs.Signs.{Op, Punct, OpenParen, CloseParen, OpenBracket, Dot, Question, DoubleColon, Apostrophe, Key}
use Rattle.vast_expressions.specs.Events.{Told, UnaryT, BinaryT, WordCastT, NoneT, CallT, Event, NameE, MacroE, WordE, Made}
use Rattle.vast_literal.specs.Grammar.{is_cast_word}
use Rattle.vast_expressions.specs.Phrases.{Quiet}
use Rattle.vast_expressions.specs.Rows.{Item, Take, Emit, Expression, Operand, Rest, Right, Selects, Primary, MaybeCast, Goes, Tells, row, only_if, code, take_row, operand_row, rest_row, right_row, selects_row, word_row, system_row, macro_row, primary_row, maybe_cast_row, Runs, done, goes, tells}

pub quieter : (a b : ℕ) (ts : List Token) → a ≤ b → Quiet a ts → Quiet b ts
quieter a b (Operator op ∷ us) h q = omega arith
quieter a b (Mark Question ∷ us) h q = omega arith
quieter a b (Mark OpenBracket ∷ us) h q = omega arith
quieter a b (Mark Dot ∷ us) h q = omega arith
quieter a b (Mark OpenParen ∷ us) h q = q
quieter a b (Mark Apostrophe ∷ us) h q = q
quieter a b (Mark DoubleColon ∷ us) h q = q
quieter a b _ h q = tt

below : (a b : ℕ) → a < b → nat_lt a b ≡ true
below a b h = grind (arith, nat_tests)

not_below : (a b : ℕ) → b ≤ a → nat_lt a b ≡ false
not_below a b h = grind (arith, nat_tests)

-- operators

-- the items that take operators above a level
pub data Binds : Item → ℕ → Type 0 where
  at_rest : Binds Rest 0
  at_right : (p : Op) → 0 < level p → Binds (Right p) (level p)

pub binds_more : (i : Item) (j : ℕ) (o : Op) (ts : List Token) → Binds i j → j < level o → row i (Operator o ∷ ts) ≡ Goes (Operand ∷ Right o ∷ i ∷ []) ts
unfolding rest_row right_row
binds_more i j o ts at_rest h = rw (below 0 (level o) h) refl
binds_more i j o ts (at_right p pos) h = rw (below (level p) (level o) h) refl

pub no_rest : (ts : List Token) → Quiet 0 ts → rest_row ts ≡ Goes [] ts
unfolding rest_row
no_rest (Operator o ∷ ts) q = absurd (omega arith)
no_rest (Mark Question ∷ ts) q = absurd (omega arith)
no_rest _ q = refl

no_right : (p : Op) (ts : List Token) → Quiet (suc (level p)) ts → right_row p ts ≡ Tells (Made (BinaryT p)) [] ts
unfolding right_row
no_right p (Operator o ∷ ts) q = rw (not_below (level p) (level o) (omega arith)) refl
no_right p _ q = refl

pub stop_rest : (ts : List Token) (es : List Event) → Quiet 0 ts → Runs (Rest ∷ []) ts es ts es
stop_rest ts es q = goes (no_rest ts q) done done

pub stop_right : (p : Op) (ts : List Token) (es : List Event) → Quiet (suc (level p)) ts → Runs (Right p ∷ []) ts (Made (BinaryT p) ∷ es) ts es
stop_right p ts es q = tells (no_right p ts q) done done

pub unary_more : (o : Op) (ts : List Token) → IsTrue (is_unary o) → operand_row (Operator o ∷ ts) ≡ Goes (Operand ∷ Emit (UnaryT o) ∷ []) ts
unfolding operand_row
unary_more o ts h = subst (λ b. only_if b (Goes (Operand ∷ Emit (UnaryT o) ∷ []) ts) ≡ Goes (Operand ∷ Emit (UnaryT o) ∷ []) ts) (sym h) refl

-- selects

pub no_selects : (ts : List Token) → Quiet 13 ts → selects_row ts ≡ Goes [] ts
unfolding selects_row
no_selects (Mark OpenBracket ∷ ts) q = absurd (omega arith)
no_selects (Mark Dot ∷ ts) q = absurd (omega arith)
no_selects _ q = refl

pub stop_selects : (ts : List Token) (es : List Event) → Quiet 13 ts → Runs (Selects ∷ []) ts es ts es
stop_selects ts es q = goes (no_selects ts q) done done

-- a token, an event

take_self : (q : Punct) (ts : List Token) → take_row q (Mark q ∷ ts) ≡ Goes [] ts
unfolding take_row
take_self q ts = subst (λ b. only_if b (Goes [] ts) ≡ Goes [] ts) (sym (eq-eqb (code q) (code q) refl)) refl

pub taken : {k : List Item} {ts us : List Token} {es fs : List Event} (q : Punct) → Runs k ts es us fs → Runs (Take q ∷ k) (Mark q ∷ ts) es us fs
taken {ts = ts} q r = goes (take_self q ts) done r

pub emitted : {k : List Item} {ts us : List Token} {es fs : List Event} (t : Told) → Runs k ts es us fs → Runs (Emit t ∷ k) ts (Made t ∷ es) us fs
emitted t r = tells refl done r

-- primary expressions

pub plain_word : (w : List ℕ) (ts : List Token) → Quiet 14 ts → word_row w ts ≡ Tells (NameE w) (MaybeCast ∷ []) ts
unfolding word_row
plain_word w (Mark OpenParen ∷ ts) q = absurd q
plain_word w (Mark DoubleColon ∷ ts) q = absurd q
plain_word w _ q = refl

plain_macro : (w : List ℕ) (ts : List Token) → Quiet 14 ts → macro_row w ts ≡ Tells (MacroE w) [] ts
unfolding macro_row
plain_macro w (Mark OpenParen ∷ ts) q = absurd q
plain_macro w _ q = refl

plain_system : (w : List ℕ) (ts : List Token) → Quiet 14 ts → system_row w ts ≡ Tells (WordE w) (Emit NoneT ∷ Emit CallT ∷ []) ts
unfolding system_row
plain_system w (Mark OpenParen ∷ ts) q = absurd q
plain_system w _ q = refl

pub no_cast : (ts : List Token) → Quiet 14 ts → maybe_cast_row ts ≡ Goes [] ts
unfolding maybe_cast_row
no_cast (Mark Apostrophe ∷ ts) q = absurd q
no_cast _ q = refl

pub stop_cast : (ts : List Token) (es : List Event) → Quiet 14 ts → Runs (MaybeCast ∷ []) ts es ts es
stop_cast ts es q = goes (no_cast ts q) done done

pub word_runs : (w : List ℕ) (ts : List Token) (es : List Event) → Quiet 14 ts → Runs (Primary ∷ []) (Word w ∷ ts) (NameE w ∷ es) ts es
unfolding primary_row
word_runs w ts es q = tells (plain_word w ts q) (stop_cast ts es q) done

pub macro_runs : (w : List ℕ) (ts : List Token) (es : List Event) → Quiet 14 ts → Runs (Primary ∷ []) (MacroWord w ∷ ts) (MacroE w ∷ es) ts es
unfolding primary_row
macro_runs w ts es q = tells (plain_macro w ts q) done done

pub system_runs : (w : List ℕ) (ts : List Token) (es : List Event) → Quiet 14 ts → Runs (Primary ∷ []) (SystemWord w ∷ ts) (WordE w ∷ Made NoneT ∷ Made CallT ∷ es) ts es
unfolding primary_row
system_runs w ts es q = tells (plain_system w ts q) (emitted NoneT (emitted CallT done)) done

pub word_cast_row : (k : Key) (ts : List Token) → IsTrue (is_cast_word k) → primary_row (Reserved k ∷ ts) ≡ Goes (Take Apostrophe ∷ Take OpenParen ∷ Expression ∷ Take CloseParen ∷ Emit (WordCastT k) ∷ []) ts
unfolding primary_row
word_cast_row k ts h = subst (λ b. only_if b (Goes (Take Apostrophe ∷ Take OpenParen ∷ Expression ∷ Take CloseParen ∷ Emit (WordCastT k) ∷ []) ts) ≡ Goes (Take Apostrophe ∷ Take OpenParen ∷ Expression ∷ Take CloseParen ∷ Emit (WordCastT k) ∷ []) ts) (sym h) refl
