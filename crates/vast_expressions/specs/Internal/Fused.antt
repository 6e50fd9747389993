-- Rows in one: what an item becomes by several rows at once, where these are to be read after it.
use Rattle.std.specs.Prelude.{ℕ, List, ◌∷◌, Bool, true, false, nat_eq, nat_lt}
use Rattle.vast_literal.specs.Tokens.{level, Token, Word, MacroWord, Number, Based, Quoted, Operator, Mark}
use Rattle.vast_expressions.specs.Signs.{Op, Punct, OpenParen, CloseParen, OpenBracket, CloseBracket, OpenBrace, CloseBrace, Comma, Colon, Dot, Question, DoubleColon, Apostrophe}
use Rattle.vast_expressions.specs.Events.{BinaryT, TernaryT, IndexT, SliceT, NoneT, OneT, PushT, ConcatT, CastT, NameE, LiteralE, TextE, MacroE, MemberOfE, Made}
use Rattle.vast_expressions.specs.Rows.{Item, Take, Emit, Expression, Target, Rest, Right, Operand, Selects, SelectEnd, MemberName, Arguments, More, Braces, BraceNext, Row, Stuck, Goes, Tells, code, only_if, or_else, operand_row, select_end_row, word_row, macro_row, primary_row, brace_next_row, row}
use Rattle.vast_expressions.specs.Internal.Steps.{onto}

-- Whether what stands next goes on with no expression, however it began.
unfoldable pub ends : List Token → Bool
ends (Operator o ∷ ts) = false
ends (Mark OpenParen ∷ ts) = false
ends (Mark OpenBracket ∷ ts) = false
ends (Mark Dot ∷ ts) = false
ends (Mark Question ∷ ts) = false
ends (Mark DoubleColon ∷ ts) = false
ends (Mark Apostrophe ∷ ts) = false
ends _ = true

-- Selects, after what this row read; perhaps a cast by it, and then selects.
unfoldable pub selects_front : (List Item → List Token → Row) → List Token → List Item → Row
selects_front row (Mark OpenBracket ∷ ts) k = row (Expression ∷ (SelectEnd ∷ k)) ts
selects_front row (Mark Dot ∷ ts) k = row (MemberName ∷ k) ts
selects_front row ts k = row k ts

unfoldable pub cast_front : (List Item → List Token → Row) → List Token → List Item → Row
cast_front row (Mark Apostrophe ∷ ts) k = row (Take OpenParen ∷ (Expression ∷ (Take CloseParen ∷ (Emit CastT ∷ (Selects ∷ k))))) ts
cast_front row (Mark OpenBracket ∷ ts) k = row (Expression ∷ (SelectEnd ∷ k)) ts
cast_front row (Mark Dot ∷ ts) k = row (MemberName ∷ k) ts
cast_front row ts k = row k ts

-- What a name begins, and a macro's.
unfoldable pub name_front : List ℕ → List Token → List Item → Row
name_front w (Mark OpenParen ∷ ts) k = onto (word_row w (Mark OpenParen ∷ ts)) (Selects ∷ k)
name_front w (Mark DoubleColon ∷ ts) k = onto (word_row w (Mark DoubleColon ∷ ts)) (Selects ∷ k)
name_front w ts k = cast_front (Tells (NameE w)) ts k

unfoldable pub macro_front : List ℕ → List Token → List Item → Row
macro_front w (Mark OpenParen ∷ ts) k = onto (macro_row w (Mark OpenParen ∷ ts)) (Selects ∷ k)
macro_front w ts k = selects_front (Tells (MacroE w)) ts k

-- A primary expression with its selects.
unfoldable pub target_front : List Token → List Item → Row
target_front (Word w ∷ ts) k = name_front w ts k
target_front (MacroWord w ∷ ts) k = macro_front w ts k
target_front (Number w ∷ ts) k = cast_front (Tells (LiteralE w)) ts k
target_front (Based w ∷ ts) k = selects_front (Tells (LiteralE w)) ts k
target_front (Quoted w ∷ ts) k = selects_front (Tells (TextE w)) ts k
target_front ts k = onto (primary_row ts) (Selects ∷ k)

unfoldable pub operand_front : List Token → List Item → Row
operand_front (Operator o ∷ ts) k = onto (operand_row (Operator o ∷ ts)) k
operand_front ts k = target_front ts k

-- An expression. One that is a name or a literal alone leaves nothing to be read.
unfoldable pub expression_front : List Token → List Item → Row
expression_front (Word w ∷ ts) k = or_else (ends ts) (Tells (NameE w) k ts) (name_front w ts (Rest ∷ k))
expression_front (Number w ∷ ts) k = or_else (ends ts) (Tells (LiteralE w) k ts) (cast_front (Tells (LiteralE w)) ts (Rest ∷ k))
expression_front (Based w ∷ ts) k = or_else (ends ts) (Tells (LiteralE w) k ts) (selects_front (Tells (LiteralE w)) ts (Rest ∷ k))
expression_front ts k = operand_front ts (Rest ∷ k)

unfoldable pub rest_front : List Token → List Item → Row
rest_front (Operator o ∷ ts) k = or_else (nat_lt 0 (level o)) (operand_front ts (Right o ∷ (Rest ∷ k))) (Goes k (Operator o ∷ ts))
rest_front (Mark Question ∷ ts) k = expression_front ts (Take Colon ∷ (Expression ∷ (Emit TernaryT ∷ k)))
rest_front ts k = Goes k ts

unfoldable pub right_front : Op → List Token → List Item → Row
right_front p (Operator o ∷ ts) k = or_else (nat_lt (level p) (level o)) (operand_front ts (Right o ∷ (Right p ∷ k))) (Tells (Made (BinaryT p)) k (Operator o ∷ ts))
right_front p ts k = Tells (Made (BinaryT p)) k ts

unfoldable pub select_end_front : List Token → List Item → Row
select_end_front (Mark CloseBracket ∷ ts) k = selects_front (Tells (Made IndexT)) ts k
select_end_front (Mark Colon ∷ ts) k = expression_front ts (Take CloseBracket ∷ (Emit SliceT ∷ (Selects ∷ k)))
select_end_front ts k = onto (select_end_row ts) k

unfoldable pub member_name_front : List Token → List Item → Row
member_name_front (Word m ∷ ts) k = selects_front (Tells (MemberOfE m)) ts k
member_name_front _ k = Stuck

-- Lists.
unfoldable pub arguments_front : Punct → List Token → List Item → Row
arguments_front q (Mark p ∷ ts) k = or_else (nat_eq (code p) (code q)) (Tells (Made NoneT) k ts) (expression_front (Mark p ∷ ts) (Emit OneT ∷ (More q ∷ k)))
arguments_front q ts k = expression_front ts (Emit OneT ∷ (More q ∷ k))

unfoldable pub more_front : Punct → List Token → List Item → Row
more_front q (Mark Comma ∷ ts) k = expression_front ts (Emit PushT ∷ (More q ∷ k))
more_front q (Mark p ∷ ts) k = only_if (nat_eq (code p) (code q)) (Goes k ts)
more_front q _ k = Stuck

unfoldable pub braces_front : List Token → List Item → Row
braces_front (Mark CloseBrace ∷ ts) k = Tells (Made NoneT) (Emit ConcatT ∷ k) ts
braces_front ts k = expression_front ts (BraceNext ∷ k)

unfoldable pub brace_next_front : List Token → List Item → Row
brace_next_front (Mark OpenBrace ∷ ts) k = onto (brace_next_row (Mark OpenBrace ∷ ts)) k
brace_next_front ts k = Tells (Made OneT) (More CloseBrace ∷ (Emit ConcatT ∷ k)) ts

abbrev pub front : Item → List Token → List Item → Row
front Expression ts k = expression_front ts k
front Target ts k = target_front ts k
front Operand ts k = operand_front ts k
front Selects ts k = selects_front Goes ts k
front SelectEnd ts k = select_end_front ts k
front MemberName ts k = member_name_front ts k
front Rest ts k = rest_front ts k
front (Right p) ts k = right_front p ts k
front (Arguments q) ts k = arguments_front q ts k
front (More q) ts k = more_front q ts k
front Braces ts k = braces_front ts k
front BraceNext ts k = brace_next_front ts k
front i ts k = onto (row i ts) k
