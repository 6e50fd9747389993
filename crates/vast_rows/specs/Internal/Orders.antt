-- The marks, signs and keywords in the order of their numbers. Written by `tools/rows`.
use Rattle.std.specs.Prelude.{List, [], ◌∷◌}
use Rattle.vast_literal.specs.declared.token.Mark.{Mark as Punct}
use Rattle.vast_literal.specs.declared.token.Mark.TheVariants.{OpenParen, CloseParen, OpenBracket, CloseBracket, OpenBrace, CloseBrace, Comma, Colon, Semicolon, Dot, Hash, At, Question, DoubleColon, PlusColon, Assign, Apostrophe}
use Rattle.vast_literal.specs.declared.token.Sign.{Sign as Op}
use Rattle.vast_literal.specs.declared.token.Sign.TheVariants.{LogicOr, LogicAnd, BitOr, BitXor, BitAnd, NotEqual, CaseNotEqual, Equal, CaseEqual, GreaterEqual, Greater, LessEqual, Less, ShiftLeft, ShiftRightSigned, ShiftRight, Plus, Minus, Times, Divide, Modulo, Power, BitNot, LogicNot}
use Rattle.vast_literal.specs.declared.token.Key.{Key}
use Rattle.vast_literal.specs.declared.token.Key.TheVariants.{If as IfKey, Else as ElseKey, Case as CaseKey, Casez as CasezKey, Casex as CasexKey, EndCase as EndCaseKey, Default as DefaultKey, Unique as UniqueKey, Begin as BeginKey, End as EndKey, Assign as AssignKey, Wire as WireKey, Reg as RegKey, Logic as LogicKey, Integer as IntegerKey, Int as IntKey, Genvar as GenvarKey, Signed as SignedKey, Unsigned as UnsignedKey, Module as ModuleKey, EndModule as EndModuleKey, Parameter as ParameterKey, Localparam as LocalparamKey, AlwaysComb as AlwaysCombKey, AlwaysFF as AlwaysFFKey, Always as AlwaysKey, Posedge as PosedgeKey, Negedge as NegedgeKey, Or as OrKey, Function as FunctionKey, Automatic as AutomaticKey, EndFunction as EndFunctionKey, Input as InputKey, Output as OutputKey, InOut as InOutKey, For as ForKey, AlwaysLatch as AlwaysLatchKey, Initial as InitialKey, Import as ImportKey, Typedef as TypedefKey, Enum as EnumKey, Struct as StructKey, Packed as PackedKey}

abbrev pub marks : List Punct
marks = OpenParen ∷ CloseParen ∷ OpenBracket ∷ CloseBracket ∷ OpenBrace ∷ CloseBrace ∷ Comma ∷ Colon ∷ Semicolon ∷ Dot ∷ Hash ∷ At ∷ Question ∷ DoubleColon ∷ PlusColon ∷ Assign ∷ Apostrophe ∷ []

abbrev pub signs : List Op
signs = LogicOr ∷ LogicAnd ∷ BitOr ∷ BitXor ∷ BitAnd ∷ NotEqual ∷ CaseNotEqual ∷ Equal ∷ CaseEqual ∷ GreaterEqual ∷ Greater ∷ LessEqual ∷ Less ∷ ShiftLeft ∷ ShiftRightSigned ∷ ShiftRight ∷ Plus ∷ Minus ∷ Times ∷ Divide ∷ Modulo ∷ Power ∷ BitNot ∷ LogicNot ∷ []

abbrev pub keys : List Key
keys = IfKey ∷ ElseKey ∷ CaseKey ∷ CasezKey ∷ CasexKey ∷ EndCaseKey ∷ DefaultKey ∷ UniqueKey ∷ BeginKey ∷ EndKey ∷ AssignKey ∷ WireKey ∷ RegKey ∷ LogicKey ∷ IntegerKey ∷ IntKey ∷ GenvarKey ∷ SignedKey ∷ UnsignedKey ∷ ModuleKey ∷ EndModuleKey ∷ ParameterKey ∷ LocalparamKey ∷ AlwaysCombKey ∷ AlwaysFFKey ∷ AlwaysKey ∷ PosedgeKey ∷ NegedgeKey ∷ OrKey ∷ FunctionKey ∷ AutomaticKey ∷ EndFunctionKey ∷ InputKey ∷ OutputKey ∷ InOutKey ∷ ForKey ∷ AlwaysLatchKey ∷ InitialKey ∷ ImportKey ∷ TypedefKey ∷ EnumKey ∷ StructKey ∷ PackedKey ∷ []
