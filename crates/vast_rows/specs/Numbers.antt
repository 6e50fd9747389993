-- The numbers of the names on the page, and of the variants of signs, marks and keywords. Written by `tools/rows`.
use Rattle.std.specs.Prelude.{ℕ}
pub use Rattle.vast_literal.specs.declared.token.Mark.{Mark as Punct}
pub use Rattle.vast_literal.specs.declared.token.Mark.TheVariants.{OpenParen, CloseParen, OpenBracket, CloseBracket, OpenBrace, CloseBrace, Comma, Colon, Semicolon, Dot, Hash, At, Question, DoubleColon, PlusColon, Assign, Apostrophe}
pub use Rattle.vast_literal.specs.declared.token.Sign.{Sign as Op}
pub use Rattle.vast_literal.specs.declared.token.Sign.TheVariants.{LogicOr, LogicAnd, BitOr, BitXor, BitAnd, NotEqual, CaseNotEqual, Equal, CaseEqual, GreaterEqual, Greater, LessEqual, Less, ShiftLeft, ShiftRightSigned, ShiftRight, Plus, Minus, Times, Divide, Modulo, Power, BitNot, LogicNot}
pub use Rattle.vast_literal.specs.declared.token.Key.{Key}
pub use Rattle.vast_literal.specs.declared.token.Key.TheVariants.{If as IfKey, Else as ElseKey, Case as CaseKey, Casez as CasezKey, Casex as CasexKey, EndCase as EndCaseKey, Default as DefaultKey, Unique as UniqueKey, Begin as BeginKey, End as EndKey, Assign as AssignKey, Wire as WireKey, Reg as RegKey, Logic as LogicKey, Integer as IntegerKey, Int as IntKey, Genvar as GenvarKey, Signed as SignedKey, Unsigned as UnsignedKey, Module as ModuleKey, EndModule as EndModuleKey, Parameter as ParameterKey, Localparam as LocalparamKey, AlwaysComb as AlwaysCombKey, AlwaysFF as AlwaysFFKey, Always as AlwaysKey, Posedge as PosedgeKey, Negedge as NegedgeKey, Or as OrKey, Function as FunctionKey, Automatic as AutomaticKey, EndFunction as EndFunctionKey, Input as InputKey, Output as OutputKey, InOut as InOutKey, For as ForKey, AlwaysLatch as AlwaysLatchKey, Initial as InitialKey, Import as ImportKey, Typedef as TypedefKey, Enum as EnumKey, Struct as StructKey, Packed as PackedKey}
use Rattle.vast_rows.specs.declared.rule.Rule.{Rule}
use Rattle.vast_rows.specs.declared.rule.Rule.TheVariants.{File, FileItem, Parameters, MoreParameters, Parameter, Ports, MorePorts, Port, Direction, ModuleMembers, LoopMembers, Declaration, KindWord, Declarator, SignWord, AfterWord, OwnType, SignedName, GroupedName, AfterGroups, FirstGroups, Groups, BracketGroup, GroupEnd, Member, NetKind, NoWait, Awaited, AnyMacro, MacroArguments, Expressions, MoreExpressions, LastSemicolon, AfterName, TypedName, AfterNames, GivenList, Given, MoreGiven, Connections, Connection, Connected, MoreConnections, Events, OneEvent, MoreEvents, Inputs, Input, MoreInputs, Locals, Local, LocalKind, FunctionBody, LoneCase, NoEnd, LoopLabel, Typedef, TypeForm, BaseSign, BaseGroups, Entries, Entry, EntryValue, MoreEntries, Fields, Field, Statements, Statement, AfterTarget, Assignment, Arrow, Choice, Else, Branch, Unique, CaseKind, CaseArms, BareArms, ArmBody}

abbrev pub mark_number : Punct → ℕ
mark_number OpenParen = 0
mark_number CloseParen = 1
mark_number OpenBracket = 2
mark_number CloseBracket = 3
mark_number OpenBrace = 4
mark_number CloseBrace = 5
mark_number Comma = 6
mark_number Colon = 7
mark_number Semicolon = 8
mark_number Dot = 9
mark_number Hash = 10
mark_number At = 11
mark_number Question = 12
mark_number DoubleColon = 13
mark_number PlusColon = 14
mark_number Assign = 15
mark_number Apostrophe = 16

abbrev pub sign_number : Op → ℕ
sign_number LogicOr = 0
sign_number LogicAnd = 1
sign_number BitOr = 2
sign_number BitXor = 3
sign_number BitAnd = 4
sign_number NotEqual = 5
sign_number CaseNotEqual = 6
sign_number Equal = 7
sign_number CaseEqual = 8
sign_number GreaterEqual = 9
sign_number Greater = 10
sign_number LessEqual = 11
sign_number Less = 12
sign_number ShiftLeft = 13
sign_number ShiftRightSigned = 14
sign_number ShiftRight = 15
sign_number Plus = 16
sign_number Minus = 17
sign_number Times = 18
sign_number Divide = 19
sign_number Modulo = 20
sign_number Power = 21
sign_number BitNot = 22
sign_number LogicNot = 23

abbrev pub key_number : Key → ℕ
key_number IfKey = 0
key_number ElseKey = 1
key_number CaseKey = 2
key_number CasezKey = 3
key_number CasexKey = 4
key_number EndCaseKey = 5
key_number DefaultKey = 6
key_number UniqueKey = 7
key_number BeginKey = 8
key_number EndKey = 9
key_number AssignKey = 10
key_number WireKey = 11
key_number RegKey = 12
key_number LogicKey = 13
key_number IntegerKey = 14
key_number IntKey = 15
key_number GenvarKey = 16
key_number SignedKey = 17
key_number UnsignedKey = 18
key_number ModuleKey = 19
key_number EndModuleKey = 20
key_number ParameterKey = 21
key_number LocalparamKey = 22
key_number AlwaysCombKey = 23
key_number AlwaysFFKey = 24
key_number AlwaysKey = 25
key_number PosedgeKey = 26
key_number NegedgeKey = 27
key_number OrKey = 28
key_number FunctionKey = 29
key_number AutomaticKey = 30
key_number EndFunctionKey = 31
key_number InputKey = 32
key_number OutputKey = 33
key_number InOutKey = 34
key_number ForKey = 35
key_number AlwaysLatchKey = 36
key_number InitialKey = 37
key_number ImportKey = 38
key_number TypedefKey = 39
key_number EnumKey = 40
key_number StructKey = 41
key_number PackedKey = 42

abbrev pub rule_number : Rule → ℕ
rule_number File = 0
rule_number FileItem = 1
rule_number Parameters = 2
rule_number MoreParameters = 3
rule_number Parameter = 4
rule_number Ports = 5
rule_number MorePorts = 6
rule_number Port = 7
rule_number Direction = 8
rule_number ModuleMembers = 9
rule_number LoopMembers = 10
rule_number Declaration = 11
rule_number KindWord = 12
rule_number Declarator = 13
rule_number SignWord = 14
rule_number AfterWord = 15
rule_number OwnType = 16
rule_number SignedName = 17
rule_number GroupedName = 18
rule_number AfterGroups = 19
rule_number FirstGroups = 20
rule_number Groups = 21
rule_number BracketGroup = 22
rule_number GroupEnd = 23
rule_number Member = 24
rule_number NetKind = 25
rule_number NoWait = 26
rule_number Awaited = 27
rule_number AnyMacro = 28
rule_number MacroArguments = 29
rule_number Expressions = 30
rule_number MoreExpressions = 31
rule_number LastSemicolon = 32
rule_number AfterName = 33
rule_number TypedName = 34
rule_number AfterNames = 35
rule_number GivenList = 36
rule_number Given = 37
rule_number MoreGiven = 38
rule_number Connections = 39
rule_number Connection = 40
rule_number Connected = 41
rule_number MoreConnections = 42
rule_number Events = 43
rule_number OneEvent = 44
rule_number MoreEvents = 45
rule_number Inputs = 46
rule_number Input = 47
rule_number MoreInputs = 48
rule_number Locals = 49
rule_number Local = 50
rule_number LocalKind = 51
rule_number FunctionBody = 52
rule_number LoneCase = 53
rule_number NoEnd = 54
rule_number LoopLabel = 55
rule_number Typedef = 56
rule_number TypeForm = 57
rule_number BaseSign = 58
rule_number BaseGroups = 59
rule_number Entries = 60
rule_number Entry = 61
rule_number EntryValue = 62
rule_number MoreEntries = 63
rule_number Fields = 64
rule_number Field = 65
rule_number Statements = 66
rule_number Statement = 67
rule_number AfterTarget = 68
rule_number Assignment = 69
rule_number Arrow = 70
rule_number Choice = 71
rule_number Else = 72
rule_number Branch = 73
rule_number Unique = 74
rule_number CaseKind = 75
rule_number CaseArms = 76
rule_number BareArms = 77
rule_number ArmBody = 78
