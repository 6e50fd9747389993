-- The signs of operators, marks and keywords, as the code has them.
pub use Rattle.vast_literal.specs.declared.token.Sign.{Sign as Op}
pub use Rattle.vast_literal.specs.declared.token.Sign.TheVariants.{LogicOr, LogicAnd, BitOr, BitXor, BitAnd, NotEqual, CaseNotEqual, Equal, CaseEqual, GreaterEqual, Greater, LessEqual, Less, ShiftLeft, ShiftRightSigned, ShiftRight, Plus, Minus, Times, Divide, Modulo, Power, BitNot, LogicNot}
pub use Rattle.vast_literal.specs.declared.token.Mark.{Mark as Punct}
pub use Rattle.vast_literal.specs.declared.token.Mark.TheVariants.{OpenParen, CloseParen, OpenBracket, CloseBracket, OpenBrace, CloseBrace, Comma, Colon, Semicolon, Dot, Hash, At, Question, DoubleColon, PlusColon, Assign, Apostrophe}
pub use Rattle.vast_literal.specs.declared.token.Key.{Key}
