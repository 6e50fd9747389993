-- The work grows less with each row.
use Rattle.std.proofs.Common.{◌≡◌, ℕ, ◌+◌, ◌*◌, ◌<◌, length, List, [], ◌∷◌, ◌++◌, Bool, true, false, nat_eq, nat_lt, subst, arith}
use Rattle.vast_literal.specs.Tokens.{level, is_unary, Token, Reserved, Word, SystemWord, MacroWord, Number, Based, Quoted, Operator, Mark}
use Rattle.vast_expressions.specs.Signs.{Op, Punct, OpenParen, CloseParen, OpenBracket, CloseBracket, OpenBrace, CloseBrace, Comma, Colon, Dot, Question, DoubleColon, PlusColon, Apostrophe}
use Rattle.vast_expressions.specs.Events.{UnaryT, BinaryT, NoneT, OneT, WordCastT, Made}
use Rattle.vast_literal.specs.Grammar.{is_cast_word}
use Rattle.vast_expressions.specs.Rows.{Item, Take, Emit, Expression, Target, Rest, Right, Operand, Selects, SelectEnd, MemberName, Primary, MaybeCast, TypeName, Arguments, More, Braces, BraceNext, Row, Stuck, Goes, Tells, row, code, only_if, or_else, take_row, operand_row, rest_row, right_row, selects_row, select_end_row, member_name_row, primary_row, word_row, system_row, macro_row, maybe_cast_row, type_name_row, arguments_row, more_row, braces_row, brace_next_row}
use Rattle.vast_expressions.proofs.Midway.{load, work}

abbrev pub IsLess : Row → ℕ → Type 0
IsLess Stuck n = Unit {0}
IsLess (Goes is ts) n = work is ts < n
IsLess (Tells e is ts) n = work is ts < n

only_if_less : (b : Bool) (r : Row) (n : ℕ) → IsLess r n → IsLess (only_if b r) n
only_if_less true r n h = h
only_if_less false r n h = tt

or_else_less : (b : Bool) (r s : Row) (n : ℕ) → IsLess r n → IsLess s n → IsLess (or_else b r s) n
or_else_less true r s n h g = h
or_else_less false r s n h g = g

take_less : (q : Punct) (ts : List Token) → IsLess (take_row q ts) (work (Take q ∷ []) ts)
unfolding take_row work load
take_less q (Mark p ∷ ts) = only_if_less (nat_eq (code p) (code q)) (Goes [] ts) (work (Take q ∷ []) (Mark p ∷ ts)) (omega arith)
take_less q [] = tt
take_less q _ = tt

operand_less : (ts : List Token) → IsLess (operand_row ts) (work (Operand ∷ []) ts)
unfolding operand_row work load
operand_less (Operator o ∷ ts) = only_if_less (is_unary o) (Goes (Operand ∷ Emit (UnaryT o) ∷ []) ts) (work (Operand ∷ []) (Operator o ∷ ts)) (omega arith)
operand_less _ = omega arith

rest_less : (ts : List Token) → IsLess (rest_row ts) (work (Rest ∷ []) ts)
unfolding rest_row work load
rest_less (Operator o ∷ ts) = or_else_less (nat_lt 0 (level o)) (Goes (Operand ∷ Right o ∷ Rest ∷ []) ts) (Goes [] (Operator o ∷ ts)) (work (Rest ∷ []) (Operator o ∷ ts)) (omega arith) (omega arith)
rest_less (Mark Question ∷ ts) = omega arith
rest_less _ = omega arith

right_less : (p : Op) (ts : List Token) → IsLess (right_row p ts) (work (Right p ∷ []) ts)
unfolding right_row work load
right_less p (Operator o ∷ ts) = or_else_less (nat_lt (level p) (level o)) (Goes (Operand ∷ Right o ∷ Right p ∷ []) ts) (Tells (Made (BinaryT p)) [] (Operator o ∷ ts)) (work (Right p ∷ []) (Operator o ∷ ts)) (omega arith) (omega arith)
right_less p _ = omega arith

selects_less : (ts : List Token) → IsLess (selects_row ts) (work (Selects ∷ []) ts)
unfolding selects_row work load
selects_less (Mark OpenBracket ∷ ts) = omega arith
selects_less (Mark Dot ∷ ts) = omega arith
selects_less _ = omega arith

select_end_less : (ts : List Token) → IsLess (select_end_row ts) (work (SelectEnd ∷ []) ts)
unfolding select_end_row work load
select_end_less (Mark CloseBracket ∷ ts) = omega arith
select_end_less (Mark Colon ∷ ts) = omega arith
select_end_less (Mark PlusColon ∷ (Number n ∷ ts)) = omega arith
select_end_less [] = tt
select_end_less (Mark PlusColon ∷ []) = tt
select_end_less (Mark PlusColon ∷ (t ∷ ts)) = tt
select_end_less _ = tt

member_name_less : (ts : List Token) → IsLess (member_name_row ts) (work (MemberName ∷ []) ts)
unfolding member_name_row work load
member_name_less (Word m ∷ ts) = omega arith
member_name_less [] = tt
member_name_less _ = tt

word_less : (w : List ℕ) (ts : List Token) → IsLess (word_row w ts) (17 + 16 * length ts)
unfolding word_row work load
word_less w (Mark OpenParen ∷ ts) = omega arith
word_less w (Mark DoubleColon ∷ ts) = omega arith
word_less w _ = omega arith

macro_less : (w : List ℕ) (ts : List Token) → IsLess (macro_row w ts) (17 + 16 * length ts)
unfolding macro_row work load
macro_less w (Mark OpenParen ∷ ts) = omega arith
macro_less w _ = omega arith

system_less : (w : List ℕ) (ts : List Token) → IsLess (system_row w ts) (17 + 16 * length ts)
unfolding system_row work load
system_less w (Mark OpenParen ∷ ts) = omega arith
system_less w _ = omega arith

same_bound : (r : Row) (m n : ℕ) → m ≡ n → IsLess r m → IsLess r n
same_bound r m n e h = subst (λ v. IsLess r v) e h

primary_less : (ts : List Token) → IsLess (primary_row ts) (work (Primary ∷ []) ts)
unfolding primary_row work load
primary_less (Word w ∷ ts) = same_bound (word_row w ts) (17 + 16 * length ts) (work (Primary ∷ []) (Word w ∷ ts)) (omega arith) (word_less w ts)
primary_less (SystemWord w ∷ ts) = same_bound (system_row w ts) (17 + 16 * length ts) (work (Primary ∷ []) (SystemWord w ∷ ts)) (omega arith) (system_less w ts)
primary_less (MacroWord w ∷ ts) = same_bound (macro_row w ts) (17 + 16 * length ts) (work (Primary ∷ []) (MacroWord w ∷ ts)) (omega arith) (macro_less w ts)
primary_less (Reserved k ∷ ts) = only_if_less (is_cast_word k) (Goes (Take Apostrophe ∷ Take OpenParen ∷ Expression ∷ Take CloseParen ∷ Emit (WordCastT k) ∷ []) ts) (work (Primary ∷ []) (Reserved k ∷ ts)) (omega arith)
primary_less (Number w ∷ ts) = omega arith
primary_less (Based w ∷ ts) = omega arith
primary_less (Quoted w ∷ ts) = omega arith
primary_less (Mark OpenParen ∷ ts) = omega arith
primary_less (Mark Apostrophe ∷ ts) = omega arith
primary_less (Mark OpenBrace ∷ ts) = omega arith
primary_less [] = tt
primary_less _ = tt

maybe_cast_less : (ts : List Token) → IsLess (maybe_cast_row ts) (work (MaybeCast ∷ []) ts)
unfolding maybe_cast_row work load
maybe_cast_less (Mark Apostrophe ∷ ts) = omega arith
maybe_cast_less _ = omega arith

type_name_less : (ts : List Token) → IsLess (type_name_row ts) (work (TypeName ∷ []) ts)
unfolding type_name_row work load
type_name_less (Word w ∷ ts) = omega arith
type_name_less [] = tt
type_name_less _ = tt

arguments_less : (q : Punct) (ts : List Token) → IsLess (arguments_row q ts) (work (Arguments q ∷ []) ts)
unfolding arguments_row work load
arguments_less q (Mark p ∷ ts) = or_else_less (nat_eq (code p) (code q)) (Tells (Made NoneT) [] ts) (Goes (Expression ∷ Emit OneT ∷ More q ∷ []) (Mark p ∷ ts)) (work (Arguments q ∷ []) (Mark p ∷ ts)) (omega arith) (omega arith)
arguments_less q _ = omega arith

more_less : (q : Punct) (ts : List Token) → IsLess (more_row q ts) (work (More q ∷ []) ts)
unfolding more_row work load
more_less q (Mark Comma ∷ ts) = omega arith
more_less q (Mark p ∷ ts) = only_if_less (nat_eq (code p) (code q)) (Goes [] ts) (work (More q ∷ []) (Mark p ∷ ts)) (omega arith)
more_less q [] = tt
more_less q _ = tt

braces_less : (ts : List Token) → IsLess (braces_row ts) (work (Braces ∷ []) ts)
unfolding braces_row work load
braces_less (Mark CloseBrace ∷ ts) = omega arith
braces_less _ = omega arith

brace_next_less : (ts : List Token) → IsLess (brace_next_row ts) (work (BraceNext ∷ []) ts)
unfolding brace_next_row work load
brace_next_less (Mark OpenBrace ∷ ts) = omega arith
brace_next_less _ = omega arith

pub less : (i : Item) (ts : List Token) → IsLess (row i ts) (work (i ∷ []) ts)
unfolding work load
less (Take q) ts = take_less q ts
less (Emit t) ts = omega arith
less Expression ts = omega arith
less Target ts = omega arith
less Rest ts = rest_less ts
less (Right p) ts = right_less p ts
less Operand ts = operand_less ts
less Selects ts = selects_less ts
less SelectEnd ts = select_end_less ts
less MemberName ts = member_name_less ts
less Primary ts = primary_less ts
less MaybeCast ts = maybe_cast_less ts
less TypeName ts = type_name_less ts
less (Arguments q) ts = arguments_less q ts
less (More q) ts = more_less q ts
less Braces ts = braces_less ts
less BraceNext ts = brace_next_less ts

pub load_both : (is k : List Item) → load (is ++ k) ≡ load is + load k
unfolding load
load_both [] k = omega arith
load_both (i ∷ is) k = let h = load_both is k in omega arith
