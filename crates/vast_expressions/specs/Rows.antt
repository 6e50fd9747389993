-- The grammar of expressions as rows: what an item becomes by the next token, and whole runs.
use Rattle.std.specs.Prelude.{◌≡◌, ℕ, List, [], ◌∷◌, Bool, true, false, nat_eq, nat_lt}
use Rattle.vast_literal.specs.Tokens.{level, is_unary}
use Rattle.vast_expressions.specs.Signs.{Op, Key, Punct, OpenParen, CloseParen, OpenBracket, CloseBracket, OpenBrace, CloseBrace, Comma, Colon, Semicolon, Dot, Hash, At, Question, DoubleColon, PlusColon, Assign, Apostrophe}
use Rattle.vast_literal.specs.Tokens.{Token, Reserved, Word, SystemWord, MacroWord, Number, Based, Quoted, Operator, Mark}
use Rattle.vast_expressions.specs.Events.{Told, UnaryT, BinaryT, TernaryT, IndexT, SliceT, NoneT, OneT, PushT, ConcatT, PatternT, ReplicatedT, CallT, MacroCallT, CastT, PackageCastT, WordCastT, Event, NameE, LiteralE, TextE, MacroE, WordE, PartSelectE, MemberOfE, Made}
use Rattle.vast_literal.specs.Grammar.{is_cast_word}

-- What is still to be read: a mark; what is told; expressions, what is assigned to, and their parts; the rest of an expression,
-- which are operators and perhaps a choice; what binds more tightly than an operator, and then that operator is told; expressions,
-- perhaps none, and the mark that closes them; further ones, and that mark.
pub data Item : Type 0 where
  Take : Punct → Item
  Emit : Told → Item
  Expression Target Operand Rest Selects SelectEnd MemberName Primary MaybeCast TypeName Braces BraceNext : Item
  Right : Op → Item
  Arguments More : (close : Punct) → Item

-- Numbers that tell the marks apart.
unfoldable pub code : Punct → ℕ
code OpenParen = 0
code CloseParen = 1
code OpenBracket = 2
code CloseBracket = 3
code OpenBrace = 4
code CloseBrace = 5
code Comma = 6
code Colon = 7
code Semicolon = 8
code Dot = 9
code Hash = 10
code At = 11
code Question = 12
code DoubleColon = 13
code PlusColon = 14
code Assign = 15
code Apostrophe = 16

-- What an item becomes: items in its place on the tokens that are left, perhaps with an event.
pub data Row : Type 0 where
  Stuck : Row
  Goes : List Item → List Token → Row
  Tells : Event → List Item → List Token → Row

-- The row if the test holds, else nothing.
abbrev pub only_if : Bool → Row → Row
only_if true r = r
only_if false r = Stuck

abbrev pub or_else : Bool → Row → Row → Row
or_else true r s = r
or_else false r s = s

unfoldable pub take_row : Punct → List Token → Row
take_row q (Mark p ∷ ts) = only_if (nat_eq (code p) (code q)) (Goes [] ts)
take_row q _ = Stuck

unfoldable pub operand_row : List Token → Row
operand_row (Operator o ∷ ts) = only_if (is_unary o) (Goes (Operand ∷ Emit (UnaryT o) ∷ []) ts)
operand_row ts = Goes (Primary ∷ Selects ∷ []) ts

unfoldable pub rest_row : List Token → Row
rest_row (Operator o ∷ ts) = or_else (nat_lt 0 (level o)) (Goes (Operand ∷ Right o ∷ Rest ∷ []) ts) (Goes [] (Operator o ∷ ts))
rest_row (Mark Question ∷ ts) = Goes (Expression ∷ Take Colon ∷ Expression ∷ Emit TernaryT ∷ []) ts
rest_row ts = Goes [] ts

unfoldable pub right_row : Op → List Token → Row
right_row p (Operator o ∷ ts) = or_else (nat_lt (level p) (level o)) (Goes (Operand ∷ Right o ∷ Right p ∷ []) ts) (Tells (Made (BinaryT p)) [] (Operator o ∷ ts))
right_row p ts = Tells (Made (BinaryT p)) [] ts

unfoldable pub selects_row : List Token → Row
selects_row (Mark OpenBracket ∷ ts) = Goes (Expression ∷ SelectEnd ∷ []) ts
selects_row (Mark Dot ∷ ts) = Goes (MemberName ∷ []) ts
selects_row ts = Goes [] ts

unfoldable pub select_end_row : List Token → Row
select_end_row (Mark CloseBracket ∷ ts) = Goes (Emit IndexT ∷ Selects ∷ []) ts
select_end_row (Mark Colon ∷ ts) = Goes (Expression ∷ Take CloseBracket ∷ Emit SliceT ∷ Selects ∷ []) ts
select_end_row (Mark PlusColon ∷ (Number n ∷ ts)) = Tells (PartSelectE n) (Take CloseBracket ∷ Selects ∷ []) ts
select_end_row _ = Stuck

unfoldable pub member_name_row : List Token → Row
member_name_row (Word m ∷ ts) = Tells (MemberOfE m) (Selects ∷ []) ts
member_name_row _ = Stuck

unfoldable pub word_row : List ℕ → List Token → Row
word_row w (Mark OpenParen ∷ ts) = Tells (WordE w) (Arguments CloseParen ∷ Emit CallT ∷ []) ts
word_row w (Mark DoubleColon ∷ ts) = Tells (WordE w) (TypeName ∷ Take Apostrophe ∷ Take OpenParen ∷ Expression ∷ Take CloseParen ∷ Emit PackageCastT ∷ []) ts
word_row w ts = Tells (NameE w) (MaybeCast ∷ []) ts

unfoldable pub macro_row : List ℕ → List Token → Row
macro_row w (Mark OpenParen ∷ ts) = Tells (WordE w) (Arguments CloseParen ∷ Emit MacroCallT ∷ []) ts
macro_row w ts = Tells (MacroE w) [] ts

unfoldable pub system_row : List ℕ → List Token → Row
system_row w (Mark OpenParen ∷ ts) = Tells (WordE w) (Arguments CloseParen ∷ Emit CallT ∷ []) ts
system_row w ts = Tells (WordE w) (Emit NoneT ∷ Emit CallT ∷ []) ts

abbrev pub cast_word_row : Key → List Token → Row
cast_word_row k ts = only_if (is_cast_word k) (Goes (Take Apostrophe ∷ Take OpenParen ∷ Expression ∷ Take CloseParen ∷ Emit (WordCastT k) ∷ []) ts)

unfoldable pub primary_row : List Token → Row
primary_row (Word w ∷ ts) = word_row w ts
primary_row (SystemWord w ∷ ts) = system_row w ts
primary_row (MacroWord w ∷ ts) = macro_row w ts
primary_row (Reserved k ∷ ts) = cast_word_row k ts
primary_row (Number w ∷ ts) = Tells (LiteralE w) (MaybeCast ∷ []) ts
primary_row (Based w ∷ ts) = Tells (LiteralE w) [] ts
primary_row (Quoted w ∷ ts) = Tells (TextE w) [] ts
primary_row (Mark OpenParen ∷ ts) = Goes (Expression ∷ Take CloseParen ∷ MaybeCast ∷ []) ts
primary_row (Mark Apostrophe ∷ ts) = Goes (Take OpenBrace ∷ Arguments CloseBrace ∷ Emit PatternT ∷ []) ts
primary_row (Mark OpenBrace ∷ ts) = Goes (Braces ∷ []) ts
primary_row _ = Stuck

unfoldable pub maybe_cast_row : List Token → Row
maybe_cast_row (Mark Apostrophe ∷ ts) = Goes (Take OpenParen ∷ Expression ∷ Take CloseParen ∷ Emit CastT ∷ []) ts
maybe_cast_row ts = Goes [] ts

unfoldable pub type_name_row : List Token → Row
type_name_row (Word w ∷ ts) = Tells (WordE w) [] ts
type_name_row _ = Stuck

unfoldable pub arguments_row : Punct → List Token → Row
arguments_row q (Mark p ∷ ts) = or_else (nat_eq (code p) (code q)) (Tells (Made NoneT) [] ts) (Goes (Expression ∷ Emit OneT ∷ More q ∷ []) (Mark p ∷ ts))
arguments_row q ts = Goes (Expression ∷ Emit OneT ∷ More q ∷ []) ts

unfoldable pub more_row : Punct → List Token → Row
more_row q (Mark Comma ∷ ts) = Goes (Expression ∷ Emit PushT ∷ More q ∷ []) ts
more_row q (Mark p ∷ ts) = only_if (nat_eq (code p) (code q)) (Goes [] ts)
more_row q _ = Stuck

unfoldable pub braces_row : List Token → Row
braces_row (Mark CloseBrace ∷ ts) = Tells (Made NoneT) (Emit ConcatT ∷ []) ts
braces_row ts = Goes (Expression ∷ BraceNext ∷ []) ts

unfoldable pub brace_next_row : List Token → Row
brace_next_row (Mark OpenBrace ∷ ts) = Goes (Arguments CloseBrace ∷ Take CloseBrace ∷ Emit ReplicatedT ∷ []) ts
brace_next_row ts = Goes (Emit OneT ∷ More CloseBrace ∷ Emit ConcatT ∷ []) ts

abbrev pub row : Item → List Token → Row
row (Take q) ts = take_row q ts
row (Emit t) ts = Tells (Made t) [] ts
row Expression ts = Goes (Operand ∷ Rest ∷ []) ts
row Target ts = Goes (Primary ∷ Selects ∷ []) ts
row Rest ts = rest_row ts
row (Right p) ts = right_row p ts
row Operand ts = operand_row ts
row Selects ts = selects_row ts
row SelectEnd ts = select_end_row ts
row MemberName ts = member_name_row ts
row Primary ts = primary_row ts
row MaybeCast ts = maybe_cast_row ts
row TypeName ts = type_name_row ts
row (Arguments q) ts = arguments_row q ts
row (More q) ts = more_row q ts
row Braces ts = braces_row ts
row BraceNext ts = brace_next_row ts

-- The items, one after the other, take the tokens from `ts` to `us` and tell the events of `es` up to `fs`.
pub data Runs : List Item → List Token → List Event → List Token → List Event → Type 0 where
  done : {ts : List Token} {es : List Event} → Runs [] ts es ts es
  goes : {i : Item} {ts rs us vs : List Token} {es fs gs : List Event} {is k : List Item} → row i ts ≡ Goes is rs → Runs is rs es us fs → Runs k us fs vs gs → Runs (i ∷ k) ts es vs gs
  tells : {i : Item} {ts rs us vs : List Token} {e : Event} {es fs gs : List Event} {is k : List Item} → row i ts ≡ Tells e is rs → Runs is rs es us fs → Runs k us fs vs gs → Runs (i ∷ k) ts (e ∷ es) vs gs
