-- The kinds of token with which phrases begin, and before which they end.
use Rattle.std.specs.Prelude.{ℕ, List, [], ◌∷◌, ◌++◌}
use Rattle.vast_rows.specs.Numbers.{LessEqual, Minus, BitNot, LogicNot, BitAnd, BitOr, BitXor, LogicKey, SignedKey, UnsignedKey, IntegerKey, IntKey, OrKey, OpenParen, CloseParen, OpenBrace, CloseBrace, CloseBracket, Comma, Colon, Semicolon, Apostrophe, Assign}
use Rattle.vast_rows.specs.Symbols.{key, mark, op, word, macro_word, include_word}
use Rattle.vast_rows.specs.Internal.Sets.{set_of}
use Rattle.vast_rows.specs.Kinds.{number}
use Rattle.vast_rows.specs.declared.grammar.Item.{Item}
use Rattle.vast_rows.specs.declared.grammar.Item.TheVariants as item
use Rattle.vast_rows.specs.declared.grammar.Phrase.{Phrase}
use Rattle.vast_rows.specs.declared.grammar.Phrase.TheVariants.{Expression, Target, LoopHead, Path}
use Rattle.vast_rows.specs.declared.kind.Kind.TheVariants.{SystemWord, Number, Based, Quoted}

abbrev pub system_word : Item
system_word = item.Token (number SystemWord)

abbrev pub number_word : Item
number_word = item.Token (number Number)

abbrev pub based : Item
based = item.Token (number Based)

abbrev pub quoted : Item
quoted = item.Token (number Quoted)

-- The kinds with which each begins.
abbrev pub operands : List Item
operands = word ∷ number_word ∷ based ∷ quoted ∷ system_word ∷ macro_word ∷ include_word ∷ mark OpenParen ∷ mark OpenBrace ∷ mark Apostrophe ∷ key LogicKey ∷ key SignedKey ∷ key UnsignedKey ∷ key IntegerKey ∷ key IntKey ∷ []

abbrev pub operands_or_signs : List Item
operands_or_signs = operands ++ op Minus ∷ op BitNot ∷ op LogicNot ∷ op BitAnd ∷ op BitOr ∷ op BitXor ∷ []

abbrev pub names : List Item
names = word ∷ []

abbrev pub strings : List Item
strings = quoted ∷ []

-- The kinds of tokens.
abbrev pub mask : List Item → ℕ
mask items = set_of (kinds items)
  where
    kinds : List Item → List ℕ
    kinds [] = []
    kinds (item.Token k ∷ items) = k ∷ kinds items
    kinds (_ ∷ items) = kinds items

abbrev pub firsts : Phrase → ℕ
firsts Expression = mask operands_or_signs
firsts Target = mask operands
firsts LoopHead = mask names
firsts Path = mask strings

-- Kinds that go on with no expression: what reads one stays before them. The last ones go on with an expression, and with no target.
abbrev pub after_expressions : List Item
after_expressions = mark CloseParen ∷ mark CloseBracket ∷ mark CloseBrace ∷ mark Comma ∷ mark Colon ∷ mark Semicolon ∷ key OrKey ∷ []

abbrev pub after_targets : List Item
after_targets = mark Assign ∷ op LessEqual ∷ mark Semicolon ∷ []

-- The kinds of token before which each is read as a whole, where it stands. A loop and a path end by themselves.
abbrev pub stops : Phrase → ℕ
stops Expression = mask after_expressions
stops Target = mask after_targets
stops LoopHead = 0xffffffffffffffffffffffffffffffff
stops Path = 0xffffffffffffffffffffffffffffffff
