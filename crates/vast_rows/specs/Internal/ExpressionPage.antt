-- The tokens of expressions row by row, whatever trees they have: which operator binds more tightly is said only of what stands
-- on the right of `<`, as the bound of a loop does.
-- `tools/rows` reads this page as it reads that of files.
use Rattle.std.specs.Prelude.{ℕ, List, [], ◌∷◌, None}
use Rattle.vast_rows.specs.Numbers.{LogicOr, LogicAnd, BitOr, BitXor, BitAnd, NotEqual, CaseNotEqual, Equal, CaseEqual, GreaterEqual, Greater, LessEqual, Less, ShiftLeft, ShiftRightSigned, ShiftRight, Plus, Minus, Times, Divide, Modulo, Power, BitNot, LogicNot}
use Rattle.vast_rows.specs.Numbers.{OpenParen, CloseParen, OpenBracket, CloseBracket, OpenBrace, CloseBrace, Comma, Colon, Dot, Question, DoubleColon, PlusColon, Apostrophe, LogicKey, SignedKey, UnsignedKey, IntegerKey, IntKey}
use Rattle.vast_rows.specs.declared.grammar.Item.{Item}
use Rattle.vast_rows.specs.declared.grammar.Item.TheVariants.{Rule}
use Rattle.vast_rows.specs.Internal.PhraseKinds.{system_word, number_word, based, quoted}
use Rattle.vast_rows.specs.Rows.{Row}
use Rattle.vast_rows.specs.Symbols.{key, mark, op, word, macro_word, include_word}

-- The parts of expressions, and their numbers as rules.
pub data Part : Type 0 where
  Expression Target Operand Sign Rest Infix Selects SelectEnd Primary Cast AnyMacro MacroList AfterName MaybeCast Listed More Braces BraceEnd CastWord Bound TightRest TightInfix : Part

abbrev pub part_number : Part → ℕ
part_number Expression = 0
part_number Target = 1
part_number Operand = 2
part_number Sign = 3
part_number Rest = 4
part_number Infix = 5
part_number Selects = 6
part_number SelectEnd = 7
part_number Primary = 8
part_number Cast = 9
part_number AnyMacro = 10
part_number MacroList = 11
part_number AfterName = 12
part_number MaybeCast = 13
part_number Listed = 14
part_number More = 15
part_number Braces = 16
part_number BraceEnd = 17
part_number CastWord = 18
part_number Bound = 19
part_number TightRest = 20
part_number TightInfix = 21

abbrev pub rule : Part → Item
rule part = Rule (part_number part)

infix 4 ◌⟶◌
abbrev ◌⟶◌ : Part → List Item → Row
part ⟶ items = record { rule = part_number part; items = items; action = None; looks = 0 }

abbrev pub expression_page : List Row
expression_page =
    (Expression ⟶ rule Operand ∷ rule Rest ∷ [])
    ∷ (Target ⟶ rule Primary ∷ rule Selects ∷ [])
    ∷ (Operand ⟶ rule Sign ∷ rule Operand ∷ [])
    ∷ (Operand ⟶ rule Primary ∷ rule Selects ∷ [])
    ∷ (Sign ⟶ op Minus ∷ [])
    ∷ (Sign ⟶ op BitNot ∷ [])
    ∷ (Sign ⟶ op LogicNot ∷ [])
    ∷ (Sign ⟶ op BitAnd ∷ [])
    ∷ (Sign ⟶ op BitOr ∷ [])
    ∷ (Sign ⟶ op BitXor ∷ [])
    ∷ (Rest ⟶ [])
    ∷ (Rest ⟶ rule Infix ∷ rule Operand ∷ rule Rest ∷ [])
    ∷ (Rest ⟶ mark Question ∷ rule Expression ∷ mark Colon ∷ rule Expression ∷ [])
    ∷ (Infix ⟶ op LogicOr ∷ [])
    ∷ (Infix ⟶ op LogicAnd ∷ [])
    ∷ (Infix ⟶ op BitOr ∷ [])
    ∷ (Infix ⟶ op BitXor ∷ [])
    ∷ (Infix ⟶ op BitAnd ∷ [])
    ∷ (Infix ⟶ op NotEqual ∷ [])
    ∷ (Infix ⟶ op CaseNotEqual ∷ [])
    ∷ (Infix ⟶ op Equal ∷ [])
    ∷ (Infix ⟶ op CaseEqual ∷ [])
    ∷ (Infix ⟶ op GreaterEqual ∷ [])
    ∷ (Infix ⟶ op Greater ∷ [])
    ∷ (Infix ⟶ op LessEqual ∷ [])
    ∷ (Infix ⟶ op Less ∷ [])
    ∷ (Infix ⟶ op ShiftLeft ∷ [])
    ∷ (Infix ⟶ op ShiftRightSigned ∷ [])
    ∷ (Infix ⟶ op ShiftRight ∷ [])
    ∷ (Infix ⟶ op Plus ∷ [])
    ∷ (Infix ⟶ op Minus ∷ [])
    ∷ (Infix ⟶ op Times ∷ [])
    ∷ (Infix ⟶ op Divide ∷ [])
    ∷ (Infix ⟶ op Modulo ∷ [])
    ∷ (Infix ⟶ op Power ∷ [])
    ∷ (Selects ⟶ [])
    ∷ (Selects ⟶ mark OpenBracket ∷ rule Expression ∷ rule SelectEnd ∷ rule Selects ∷ [])
    ∷ (Selects ⟶ mark Dot ∷ word ∷ rule Selects ∷ [])
    ∷ (SelectEnd ⟶ mark CloseBracket ∷ [])
    ∷ (SelectEnd ⟶ mark Colon ∷ rule Expression ∷ mark CloseBracket ∷ [])
    ∷ (SelectEnd ⟶ mark PlusColon ∷ number_word ∷ mark CloseBracket ∷ [])
    ∷ (Primary ⟶ word ∷ rule AfterName ∷ [])
    ∷ (Primary ⟶ number_word ∷ rule MaybeCast ∷ [])
    ∷ (Primary ⟶ based ∷ [])
    ∷ (Primary ⟶ quoted ∷ [])
    ∷ (Primary ⟶ system_word ∷ rule MacroList ∷ [])
    ∷ (Primary ⟶ rule AnyMacro ∷ rule MacroList ∷ [])
    ∷ (Primary ⟶ mark OpenParen ∷ rule Expression ∷ mark CloseParen ∷ rule MaybeCast ∷ [])
    ∷ (Primary ⟶ mark Apostrophe ∷ mark OpenBrace ∷ rule Listed ∷ mark CloseBrace ∷ [])
    ∷ (Primary ⟶ mark OpenBrace ∷ rule Braces ∷ [])
    ∷ (Primary ⟶ rule CastWord ∷ rule Cast ∷ [])
    ∷ (Cast ⟶ mark Apostrophe ∷ mark OpenParen ∷ rule Expression ∷ mark CloseParen ∷ [])
    ∷ (AnyMacro ⟶ macro_word ∷ [])
    ∷ (AnyMacro ⟶ include_word ∷ [])
    ∷ (MacroList ⟶ [])
    ∷ (MacroList ⟶ mark OpenParen ∷ rule Listed ∷ mark CloseParen ∷ [])
    ∷ (AfterName ⟶ rule MaybeCast ∷ [])
    ∷ (AfterName ⟶ mark OpenParen ∷ rule Listed ∷ mark CloseParen ∷ [])
    ∷ (AfterName ⟶ mark DoubleColon ∷ word ∷ rule Cast ∷ [])
    ∷ (MaybeCast ⟶ [])
    ∷ (MaybeCast ⟶ rule Cast ∷ [])
    ∷ (Listed ⟶ [])
    ∷ (Listed ⟶ rule Expression ∷ rule More ∷ [])
    ∷ (More ⟶ [])
    ∷ (More ⟶ mark Comma ∷ rule Expression ∷ rule More ∷ [])
    ∷ (Braces ⟶ mark CloseBrace ∷ [])
    ∷ (Braces ⟶ rule Expression ∷ rule BraceEnd ∷ [])
    ∷ (BraceEnd ⟶ rule More ∷ mark CloseBrace ∷ [])
    ∷ (BraceEnd ⟶ mark OpenBrace ∷ rule Listed ∷ mark CloseBrace ∷ mark CloseBrace ∷ [])
    ∷ (CastWord ⟶ key LogicKey ∷ [])
    ∷ (CastWord ⟶ key SignedKey ∷ [])
    ∷ (CastWord ⟶ key UnsignedKey ∷ [])
    ∷ (CastWord ⟶ key IntegerKey ∷ [])
    ∷ (CastWord ⟶ key IntKey ∷ [])
    ∷ (Bound ⟶ rule Operand ∷ rule TightRest ∷ [])
    ∷ (TightRest ⟶ [])
    ∷ (TightRest ⟶ rule TightInfix ∷ rule Operand ∷ rule TightRest ∷ [])
    ∷ (TightInfix ⟶ op ShiftLeft ∷ [])
    ∷ (TightInfix ⟶ op ShiftRightSigned ∷ [])
    ∷ (TightInfix ⟶ op ShiftRight ∷ [])
    ∷ (TightInfix ⟶ op Plus ∷ [])
    ∷ (TightInfix ⟶ op Minus ∷ [])
    ∷ (TightInfix ⟶ op Times ∷ [])
    ∷ (TightInfix ⟶ op Divide ∷ [])
    ∷ (TightInfix ⟶ op Modulo ∷ [])
    ∷ (TightInfix ⟶ op Power ∷ [])
    ∷ []
