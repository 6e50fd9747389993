-- The tokens of a text: operators, marks, keywords, names, literals and strings.
use Rattle.std.specs.Prelude.{ℕ, List, [], ◌∷◌, Bool, true, false, cond, Option, Some, None, codes}
use Rattle.std.specs.Str.{bytes_eq}
use Rattle.vast_literal.specs.Keyword.{is_keyword}
-- Operators (some stand between two operands, some before one, some in both places), marks of punctuation and the keywords
-- that the grammar uses are the code's own enums.
pub use Rattle.vast_literal.specs.declared.token.Sign.{Sign as Op}
pub use Rattle.vast_literal.specs.declared.token.Sign.TheVariants.{LogicOr, LogicAnd, BitOr, BitXor, BitAnd, NotEqual, CaseNotEqual, Equal, CaseEqual, GreaterEqual, Greater, LessEqual, Less, ShiftLeft, ShiftRightSigned, ShiftRight, Plus, Minus, Times, Divide, Modulo, Power, BitNot, LogicNot}
pub use Rattle.vast_literal.specs.declared.token.Mark.{Mark as Punct}
pub use Rattle.vast_literal.specs.declared.token.Mark.TheVariants.{OpenParen, CloseParen, OpenBracket, CloseBracket, OpenBrace, CloseBrace, Comma, Colon, Semicolon, Dot, Hash, At, Question, DoubleColon, PlusColon, Assign, Apostrophe}
pub use Rattle.vast_literal.specs.declared.token.Key.{Key}
pub use Rattle.vast_literal.specs.declared.token.Key.TheVariants.{If as IfKey, Else as ElseKey, Case as CaseKey, Casez as CasezKey, Casex as CasexKey, EndCase as EndCaseKey, Default as DefaultKey, Unique as UniqueKey, Begin as BeginKey, End as EndKey, Assign as AssignKey, Wire as WireKey, Reg as RegKey, Logic as LogicKey, Integer as IntegerKey, Int as IntKey, Genvar as GenvarKey, Signed as SignedKey, Unsigned as UnsignedKey, Module as ModuleKey, EndModule as EndModuleKey, Parameter as ParameterKey, Localparam as LocalparamKey, AlwaysComb as AlwaysCombKey, AlwaysFF as AlwaysFFKey, Always as AlwaysKey, Posedge as PosedgeKey, Negedge as NegedgeKey, Or as OrKey, Function as FunctionKey, Automatic as AutomaticKey, EndFunction as EndFunctionKey, Input as InputKey, Output as OutputKey, InOut as InOutKey, For as ForKey, AlwaysLatch as AlwaysLatchKey, Initial as InitialKey, Import as ImportKey, Typedef as TypedefKey, Enum as EnumKey, Struct as StructKey, Packed as PackedKey}

-- How an operator is written, and how tightly it binds its two operands (IEEE Std 1800, operator precedence); 0 for one that
-- only stands before.
abbrev pub operator_row : Op → List ℕ × ℕ
operator_row LogicOr = (codes "||", 1)
operator_row LogicAnd = (codes "&&", 2)
operator_row BitOr = (codes "|", 3)
operator_row BitXor = (codes "^", 4)
operator_row BitAnd = (codes "&", 5)
operator_row NotEqual = (codes "!=", 6)
operator_row CaseNotEqual = (codes "!==", 6)
operator_row Equal = (codes "==", 6)
operator_row CaseEqual = (codes "===", 6)
operator_row GreaterEqual = (codes ">=", 7)
operator_row Greater = (codes ">", 7)
operator_row LessEqual = (codes "<=", 7)
operator_row Less = (codes "<", 7)
operator_row ShiftLeft = (codes "<<", 8)
operator_row ShiftRightSigned = (codes ">>>", 8)
operator_row ShiftRight = (codes ">>", 8)
operator_row Plus = (codes "+", 9)
operator_row Minus = (codes "-", 9)
operator_row Times = (codes "*", 10)
operator_row Divide = (codes "/", 10)
operator_row Modulo = (codes "%", 10)
operator_row Power = (codes "**", 11)
operator_row BitNot = (codes "~", 0)
operator_row LogicNot = (codes "!", 0)

abbrev pub op_text : Op → List ℕ
op_text op = (operator_row op).0

unfoldable pub level : Op → ℕ
level op = (operator_row op).1

-- Whether an operator may stand before an operand.
unfoldable pub is_unary : Op → Bool
is_unary op = elim op [ Minus ↦ true | BitNot ↦ true | LogicNot ↦ true | BitAnd ↦ true | BitOr ↦ true | BitXor ↦ true | _ ↦ false ]

-- A keyword as it is written.
unfoldable pub key_text : Key → List ℕ
key_text IfKey = codes "if"
key_text ElseKey = codes "else"
key_text CaseKey = codes "case"
key_text CasezKey = codes "casez"
key_text CasexKey = codes "casex"
key_text EndCaseKey = codes "endcase"
key_text DefaultKey = codes "default"
key_text UniqueKey = codes "unique"
key_text BeginKey = codes "begin"
key_text EndKey = codes "end"
key_text AssignKey = codes "assign"
key_text WireKey = codes "wire"
key_text RegKey = codes "reg"
key_text LogicKey = codes "logic"
key_text IntegerKey = codes "integer"
key_text IntKey = codes "int"
key_text GenvarKey = codes "genvar"
key_text SignedKey = codes "signed"
key_text UnsignedKey = codes "unsigned"
key_text ModuleKey = codes "module"
key_text EndModuleKey = codes "endmodule"
key_text ParameterKey = codes "parameter"
key_text LocalparamKey = codes "localparam"
key_text AlwaysCombKey = codes "always_comb"
key_text AlwaysFFKey = codes "always_ff"
key_text AlwaysKey = codes "always"
key_text PosedgeKey = codes "posedge"
key_text NegedgeKey = codes "negedge"
key_text OrKey = codes "or"
key_text FunctionKey = codes "function"
key_text AutomaticKey = codes "automatic"
key_text EndFunctionKey = codes "endfunction"
key_text InputKey = codes "input"
key_text OutputKey = codes "output"
key_text InOutKey = codes "inout"
key_text ForKey = codes "for"
key_text AlwaysLatchKey = codes "always_latch"
key_text InitialKey = codes "initial"
key_text ImportKey = codes "import"
key_text TypedefKey = codes "typedef"
key_text EnumKey = codes "enum"
key_text StructKey = codes "struct"
key_text PackedKey = codes "packed"

-- The keywords that the grammar uses, in one list.
unfoldable pub reserved_keys : List Key
reserved_keys =
    IfKey ∷ ElseKey ∷ CaseKey ∷ CasezKey ∷ CasexKey ∷ EndCaseKey ∷ DefaultKey ∷ UniqueKey ∷ BeginKey ∷ EndKey ∷ AssignKey ∷
    WireKey ∷ RegKey ∷ LogicKey ∷ IntegerKey ∷ IntKey ∷ GenvarKey ∷ SignedKey ∷ UnsignedKey ∷
    ModuleKey ∷ EndModuleKey ∷ ParameterKey ∷ LocalparamKey ∷ AlwaysCombKey ∷ AlwaysFFKey ∷ AlwaysKey ∷ PosedgeKey ∷ NegedgeKey ∷ OrKey ∷
    FunctionKey ∷ AutomaticKey ∷ EndFunctionKey ∷ InputKey ∷ OutputKey ∷ InOutKey ∷ ForKey ∷ AlwaysLatchKey ∷ InitialKey ∷ ImportKey ∷
    TypedefKey ∷ EnumKey ∷ StructKey ∷ PackedKey ∷ []

-- The first of the keywords that is written as `word`.
abbrev pub key_written : List Key → List ℕ → Option Key
key_written [] word = None
key_written (key ∷ keys) word = cond (bytes_eq (key_text key) word) (Some key) (key_written keys word)

-- A token. System words keep their `$` and strings their quotes; macro words stand without their backtick.
pub data Token : Type 0 where
  Reserved : Key → Token
  Word Keyword SystemWord MacroWord Number Based Quoted : (bytes : List ℕ) → Token
  Operator : Op → Token
  Mark : Punct → Token

-- A keyword's token: one that the grammar uses, or another.
abbrev pub keyword_token : Option Key → List ℕ → Token
keyword_token (Some key) word = Reserved key
keyword_token None word = Keyword word

-- A word is a keyword or a name.
unfoldable pub word_token : List ℕ → Token
word_token word = cond (is_keyword word) (keyword_token (key_written reserved_keys word) word) (Word word)
