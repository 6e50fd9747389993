-- Which item of the grammar each item of the code is.
use Rattle.vast_expressions.specs.Signs as sign
use Rattle.vast_expressions.specs.Events.{UnaryT, TernaryT, IndexT, SliceT, NoneT, OneT, PushT, ConcatT, PatternT, ReplicatedT, CallT, MacroCallT, CastT, PackageCastT, WordCastT}
use Rattle.vast_expressions.specs.Rows.{Item, Take, Emit, Expression, Target, Rest, Right, Operand, Selects, SelectEnd, MemberName, MaybeCast, TypeName, Arguments, More, Braces, BraceNext}
use Rattle.vast_expressions.specs.declared.item.Item.{Item as Code}
use Rattle.vast_expressions.specs.declared.item.Item.TheVariants as item
use Rattle.vast_literal.specs.declared.token.Key.TheVariants as key

abbrev pub item_view : Code → Item
item_view item.Expression = Expression
item_view item.Target = Target
item_view item.Operand = Operand
item_view item.Selects = Selects
item_view item.SelectEnd = SelectEnd
item_view item.MemberName = MemberName
item_view item.MaybeCast = MaybeCast
item_view item.TypeName = TypeName
item_view item.Braces = Braces
item_view item.BraceNext = BraceNext
item_view item.ArgumentsParen = Arguments sign.CloseParen
item_view item.ArgumentsBrace = Arguments sign.CloseBrace
item_view item.MoreParen = More sign.CloseParen
item_view item.MoreBrace = More sign.CloseBrace
item_view item.Rest = Rest
item_view item.TakeOpenParen = Take sign.OpenParen
item_view item.TakeCloseParen = Take sign.CloseParen
item_view item.TakeCloseBracket = Take sign.CloseBracket
item_view item.TakeOpenBrace = Take sign.OpenBrace
item_view item.TakeCloseBrace = Take sign.CloseBrace
item_view item.TakeColon = Take sign.Colon
item_view item.TakeApostrophe = Take sign.Apostrophe
item_view item.MakeTernary = Emit TernaryT
item_view item.MakeIndex = Emit IndexT
item_view item.MakeSlice = Emit SliceT
item_view item.MakeNone = Emit NoneT
item_view item.MakeOne = Emit OneT
item_view item.MakePush = Emit PushT
item_view item.MakeConcat = Emit ConcatT
item_view item.MakePattern = Emit PatternT
item_view item.MakeReplicated = Emit ReplicatedT
item_view item.MakeCall = Emit CallT
item_view item.MakeMacroCall = Emit MacroCallT
item_view item.MakeCast = Emit CastT
item_view item.MakePackageCast = Emit PackageCastT
item_view item.MakeUnaryMinus = Emit (UnaryT sign.Minus)
item_view item.MakeUnaryBitNot = Emit (UnaryT sign.BitNot)
item_view item.MakeUnaryLogicNot = Emit (UnaryT sign.LogicNot)
item_view item.MakeUnaryBitAnd = Emit (UnaryT sign.BitAnd)
item_view item.MakeUnaryBitOr = Emit (UnaryT sign.BitOr)
item_view item.MakeUnaryBitXor = Emit (UnaryT sign.BitXor)
item_view item.RightLogicOr = Right sign.LogicOr
item_view item.RightLogicAnd = Right sign.LogicAnd
item_view item.RightBitOr = Right sign.BitOr
item_view item.RightBitXor = Right sign.BitXor
item_view item.RightBitAnd = Right sign.BitAnd
item_view item.RightNotEqual = Right sign.NotEqual
item_view item.RightCaseNotEqual = Right sign.CaseNotEqual
item_view item.RightEqual = Right sign.Equal
item_view item.RightCaseEqual = Right sign.CaseEqual
item_view item.RightGreaterEqual = Right sign.GreaterEqual
item_view item.RightGreater = Right sign.Greater
item_view item.RightLessEqual = Right sign.LessEqual
item_view item.RightLess = Right sign.Less
item_view item.RightShiftLeft = Right sign.ShiftLeft
item_view item.RightShiftRightSigned = Right sign.ShiftRightSigned
item_view item.RightShiftRight = Right sign.ShiftRight
item_view item.RightPlus = Right sign.Plus
item_view item.RightMinus = Right sign.Minus
item_view item.RightTimes = Right sign.Times
item_view item.RightDivide = Right sign.Divide
item_view item.RightModulo = Right sign.Modulo
item_view item.RightPower = Right sign.Power
item_view item.MakeLogicCast = Emit (WordCastT key.Logic)
item_view item.MakeSignedCast = Emit (WordCastT key.Signed)
item_view item.MakeUnsignedCast = Emit (WordCastT key.Unsigned)
item_view item.MakeIntegerCast = Emit (WordCastT key.Integer)
item_view item.MakeIntCast = Emit (WordCastT key.Int)

-- Whether an item tells, at once or after its right side; and whether at once.
abbrev pub IsSign : Item → Type 0
IsSign (Right o) = Unit {0}
IsSign (Emit t) = Unit {0}
IsSign _ = ⊥

abbrev pub IsEmit : Item → Type 0
IsEmit (Emit t) = Unit {0}
IsEmit _ = ⊥
