-- The arguments of calls, in the order of the parameters, as the pieces that stand after a call's name.
use Rattle.std.specs.Prelude.{ℕ, ℤ, Bool, true, false, List, [], ◌∷◌, ◌++◌, length, Option, Some, None, codes, String, string_bytes}
use Rattle.std.specs.List.{flat_map}
use Rattle.std.specs.declared.alloc.Global.{Global}
use Rattle.vast_literal.specs.declared.kind.DataKind.{DataKind}
use Rattle.vast_literal.specs.declared.kind.DataKind.TheVariants.{Reg, Wire, Logic, Integer, Int, User, UntypedEnum, Genvar}
use Rattle.vast_literal.specs.declared.literal.LiteralFormat.{LiteralFormat}
use Rattle.vast_literal.specs.declared.literal.LiteralFormat.TheVariants.{Binary, Hex, SignedDecimal, UnsignedDecimal, UnsizedBinary, UnsizedDecimal, UnsizedHex}
use Rattle.vast_steps.specs.declared.step.Step.{Step}
use Rattle.vast_steps.specs.declared.step.Step.TheVariants.{Operators, Expressions, Types, Modules, Loops, Statements, Artifacts}
use Rattle.vast_steps.specs.declared.step.OperatorStep.{OperatorStep}
use Rattle.vast_steps.specs.Operators.{Operation, Before, Between, operation}
use Rattle.vast_steps.specs.declared.step.ExpressionStep.{ExpressionStep}
use Rattle.vast_steps.specs.declared.step.ExpressionStep.TheVariants.{MakeLiteral, MakeBinaryPattern, MakeUnsizedDecimalLiteral, MakeStringLiteral, MakeUnsizedOneLiteral, MakeUnsizedZeroLiteral, MakeUnsizedXLiteral, MakeName, MakeIndexableExpression, MakeSlice, MakeIndex, MakeSliceExpr, MakeIndexExpr, MakeIndexedPartSelect, MakeFunctionCall, MakeConcat, MakeReplicatedConcat, MakeReplicatedConcatI64, MakeArrayAssignmentPattern, MakeTernary, MakeWidthCast, MakeTypeCast, MakePosEdge, MakeNegEdge, MakeMacroRef, MakeMacroRefWithArgs, MakeMember}
use Rattle.vast_steps.specs.declared.step.TypeStep.{TypeStep}
use Rattle.vast_steps.specs.declared.step.TypeStep.TheVariants.{MakeScalarType, MakeIntegerType, MakeIntType, MakeExternType, MakeExternPackageType, MakeBitVectorType, MakeBitVectorTypeExpr, MakePackedArrayType, MakeUnpackedArrayType, MakePackedArrayTypeExpr, MakeUnpackedArrayTypeExpr}
use Rattle.vast_steps.specs.declared.step.ModuleStep.{ModuleStep}
use Rattle.vast_steps.specs.declared.step.ModuleStep.TheVariants.{AddInclude, AddBlankLine, AddCommentText, AddModule, AddInput, AddOutput, AddInout, AddLogicInput, AddLogicOutput, AddWire, AddReg, AddLogic, AddParameterPort, AddTypedParameterPort, AddParameter, AddParameterWithDef, AddLocalparam, AddIntLocalparam, AddTypedLocalparam, HoistModuleDeclarations, AddImport, AddFileImport, AddEnumTypedef, AddStructTypedef, AddFileEnumTypedef, AddFileStructTypedef, AddVariable}
use Rattle.vast_steps.specs.declared.step.LoopStep.{LoopStep}
use Rattle.vast_steps.specs.declared.step.LoopStep.TheVariants.{AddGenerateLoop, GenerateAddGenerateLoop, GenerateGenvar, GenerateAddAlwaysComb, GenerateAddAlwaysStar, GenerateAddAlwaysLatch, GenerateAddInitial, GenerateAddAlwaysFf, GenerateAddAlwaysAt, GenerateAddLocalparam, GenerateAddTypedLocalparam, GenerateAddContinuousAssignment, GenerateAddConditional, GenerateAddBlankLine, GenerateAddComment, GenerateAddInstantiation, GenerateAddInlineStatement, GenerateAddMacroStatement}
use Rattle.vast_steps.specs.declared.step.StatementStep.{StatementStep}
use Rattle.vast_steps.specs.declared.step.StatementStep.TheVariants.{AddFunction, FunctionAddInput, FunctionAddLogicInput, FunctionAddReg, FunctionAddLogic, FunctionBody, FunctionResult, AddAlwaysFf, AddAlwaysAt, AddAlwaysComb, AddAlwaysStar, AddAlwaysLatch, AddInitial, BlockAddTaskCall, BlockAddFor, StatementBlock, BlockAddBlockingAssignment, BlockAddNonblockingAssignment, BlockAddContinuousAssignment, BlockAddCommentText, BlockAddInlineText, BlockAddBlankLine, AddConditional, BlockAddCond, ConditionalThenBlock, ConditionalAddElseIf, ConditionalAddElse, BlockAddCase, BlockAddCasez, BlockAddCasex, CaseAddItem, CaseAddDefault, CaseSetUnique}
use Rattle.vast_steps.specs.declared.step.ArtifactStep.{ArtifactStep}
use Rattle.vast_steps.specs.declared.step.ArtifactStep.TheVariants.{MakeDef, MakeBlankLine, MakeComment, MakeInlineVerilogStatement, MakeMacroStatement, MakeContinuousAssignment, MakeNonblockingAssignment, MakeBlockingAssignment, MakeInstantiation, AddMemberInstantiation, AddMemberContinuousAssignment, AddMemberBlankLine, AddMemberComment, AddMemberInlineStatement, AddMemberMacroStatement}
use Rattle.vast_calls.specs.declared.helpers.Helper.{Helper}
use Rattle.vast_calls.specs.declared.helpers.Helper.TheVariants.{AddRegisters, BitwiseOrReduce, BitwiseOrReduceArrayElements, LogicalAndReduce, LogicalOrReduce}
use Rattle.vast_calls.specs.declared.helpers.RegisterNumbers.{RegisterNumbers}
use Rattle.vast_calls.specs.declared.helpers.ResetNumbers.{ResetNumbers}
use Rattle.vast_calls.specs.declared.line.Call.{Call}
use Rattle.vast_calls.specs.declared.line.Call.TheVariants.{Step as StepCall, Helper as HelperCall}

-- What is written between two spaces, or a text: an answer by its place, a number, a number without a sign, a text or a word;
-- the beginning of a list of so many items, that of a group, and the end of either.
pub data Piece : Type 0 where
  Place : ℕ → Piece
  Number : ℤ → Piece
  Count : ℕ → Piece
  Text : List ℕ → Piece
  Word : List ℕ → Piece
  Items : ℕ → Piece
  Group : Piece
  End : Piece

abbrev pub place : ℕ → List Piece
place n = Place n ∷ []

abbrev pub number : ℤ → List Piece
number z = Number z ∷ []

abbrev pub count : ℕ → List Piece
count n = Count n ∷ []

abbrev pub text : String Global → List Piece
text s = Text (string_bytes s) ∷ []

abbrev pub truth : Bool → List Piece
truth true = Word (codes "true") ∷ []
truth false = Word (codes "false") ∷ []

abbrev pub format_word : LiteralFormat → List ℕ
format_word Binary = codes "Binary"
format_word Hex = codes "Hex"
format_word SignedDecimal = codes "SignedDecimal"
format_word UnsignedDecimal = codes "UnsignedDecimal"
format_word UnsizedBinary = codes "UnsizedBinary"
format_word UnsizedDecimal = codes "UnsizedDecimal"
format_word UnsizedHex = codes "UnsizedHex"

abbrev pub format : LiteralFormat → List Piece
format f = Word (format_word f) ∷ []

abbrev pub kind_word : DataKind → List ℕ
kind_word Reg = codes "Reg"
kind_word Wire = codes "Wire"
kind_word Logic = codes "Logic"
kind_word Integer = codes "Integer"
kind_word Int = codes "Int"
kind_word User = codes "User"
kind_word UntypedEnum = codes "UntypedEnum"
kind_word Genvar = codes "Genvar"

abbrev pub kind : DataKind → List Piece
kind k = Word (kind_word k) ∷ []

-- A group, and a list of items, between its beginning and its end.

abbrev pub grouped : List Piece → List Piece
grouped pieces = Group ∷ (pieces ++ End ∷ [])

abbrev pub listed : {A : Type 0} → (A → List Piece) → List A → List Piece
listed pieces items = Items (length items) ∷ (flat_map pieces items ++ End ∷ [])

-- `-` for none, and `+` before a value.
abbrev pub optional : {A : Type 0} → (A → List Piece) → Option A → List Piece
optional pieces None = Word (codes "-") ∷ []
optional pieces (Some x) = Word (codes "+") ∷ pieces x

abbrev pub operation_pieces : Operation → List Piece
operation_pieces (Before operator a) = place a
operation_pieces (Between operator a b) = place a ++ place b

abbrev pub operator_pieces : OperatorStep → List Piece
operator_pieces step = operation_pieces (operation step)

abbrev pub expression_pieces : ExpressionStep → List Piece
expression_pieces (MakeLiteral a b) = text a ++ format b
expression_pieces (MakeBinaryPattern a) = text a
expression_pieces (MakeUnsizedDecimalLiteral a) = number a
expression_pieces (MakeStringLiteral a) = text a
expression_pieces MakeUnsizedOneLiteral = []
expression_pieces MakeUnsizedZeroLiteral = []
expression_pieces MakeUnsizedXLiteral = []
expression_pieces (MakeName a) = text a
expression_pieces (MakeIndexableExpression a) = place a
expression_pieces (MakeSlice a b c) = place a ++ (number b ++ number c)
expression_pieces (MakeIndex a b) = place a ++ number b
expression_pieces (MakeSliceExpr a b c) = place a ++ (place b ++ place c)
expression_pieces (MakeIndexExpr a b) = place a ++ place b
expression_pieces (MakeIndexedPartSelect a b c) = place a ++ (place b ++ number c)
expression_pieces (MakeFunctionCall a b) = text a ++ listed place b.items
expression_pieces (MakeConcat a) = listed place a.items
expression_pieces (MakeReplicatedConcat a b) = place a ++ listed place b.items
expression_pieces (MakeReplicatedConcatI64 a b) = number a ++ listed place b.items
expression_pieces (MakeArrayAssignmentPattern a) = listed place a.items
expression_pieces (MakeTernary a b c) = place a ++ (place b ++ place c)
expression_pieces (MakeWidthCast a b) = place a ++ place b
expression_pieces (MakeTypeCast a b) = place a ++ place b
expression_pieces (MakePosEdge a) = place a
expression_pieces (MakeNegEdge a) = place a
expression_pieces (MakeMacroRef a) = text a
expression_pieces (MakeMacroRefWithArgs a b) = text a ++ listed place b.items
expression_pieces (MakeMember a b) = place a ++ text b

abbrev pub type_pieces : TypeStep → List Piece
type_pieces MakeScalarType = []
type_pieces (MakeIntegerType a) = truth a
type_pieces (MakeIntType a) = truth a
type_pieces (MakeExternType a) = text a
type_pieces (MakeExternPackageType a b) = text a ++ text b
type_pieces (MakeBitVectorType a b) = number a ++ truth b
type_pieces (MakeBitVectorTypeExpr a b) = place a ++ truth b
type_pieces (MakePackedArrayType a b) = place a ++ listed number b.items
type_pieces (MakeUnpackedArrayType a b) = place a ++ listed number b.items
type_pieces (MakePackedArrayTypeExpr a b) = place a ++ listed place b.items
type_pieces (MakeUnpackedArrayTypeExpr a b) = place a ++ listed place b.items

abbrev pub module_pieces : ModuleStep → List Piece
module_pieces (AddInclude a) = text a
module_pieces (AddBlankLine a) = place a
module_pieces (AddCommentText a) = text a
module_pieces (AddModule a) = text a
module_pieces (AddInput a b c) = place a ++ (text b ++ place c)
module_pieces (AddOutput a b c) = place a ++ (text b ++ place c)
module_pieces (AddInout a b c) = place a ++ (text b ++ place c)
module_pieces (AddLogicInput a b c) = place a ++ (text b ++ place c)
module_pieces (AddLogicOutput a b c) = place a ++ (text b ++ place c)
module_pieces (AddWire a b c) = place a ++ (text b ++ place c)
module_pieces (AddReg a b c) = place a ++ (text b ++ place c)
module_pieces (AddLogic a b c) = place a ++ (text b ++ place c)
module_pieces (AddParameterPort a b c) = place a ++ (text b ++ place c)
module_pieces (AddTypedParameterPort a b c d) = place a ++ (text b ++ (place c ++ place d))
module_pieces (AddParameter a b c) = place a ++ (text b ++ place c)
module_pieces (AddParameterWithDef a b c) = place a ++ (place b ++ place c)
module_pieces (AddLocalparam a b c) = place a ++ (text b ++ place c)
module_pieces (AddIntLocalparam a b c) = place a ++ (text b ++ place c)
module_pieces (AddTypedLocalparam a b c) = place a ++ (place b ++ place c)
module_pieces (HoistModuleDeclarations a b) = place a ++ count b
module_pieces (AddImport a b) = place a ++ text b
module_pieces (AddFileImport a) = text a
module_pieces (AddEnumTypedef a b c d e) = place a ++ (text b ++ (place c ++ (listed text d.items ++ listed (optional place) e.items)))
module_pieces (AddStructTypedef a b c) = place a ++ (text b ++ listed place c.items)
module_pieces (AddFileEnumTypedef a b c d) = text a ++ (place b ++ (listed text c.items ++ listed (optional place) d.items))
module_pieces (AddFileStructTypedef a b) = text a ++ listed place b.items
module_pieces (AddVariable a b c) = place a ++ (text b ++ place c)

abbrev pub loop_pieces : LoopStep → List Piece
loop_pieces (AddGenerateLoop a b c d e) = place a ++ (text b ++ (place c ++ (place d ++ optional text e)))
loop_pieces (GenerateAddGenerateLoop a b c d e) = place a ++ (text b ++ (place c ++ (place d ++ optional text e)))
loop_pieces (GenerateGenvar a) = place a
loop_pieces (GenerateAddAlwaysComb a) = place a
loop_pieces (GenerateAddAlwaysStar a) = place a
loop_pieces (GenerateAddAlwaysLatch a) = place a
loop_pieces (GenerateAddInitial a) = place a
loop_pieces (GenerateAddAlwaysFf a b) = place a ++ listed place b.items
loop_pieces (GenerateAddAlwaysAt a b) = place a ++ listed place b.items
loop_pieces (GenerateAddLocalparam a b c) = place a ++ (text b ++ place c)
loop_pieces (GenerateAddTypedLocalparam a b c) = place a ++ (place b ++ place c)
loop_pieces (GenerateAddContinuousAssignment a b c) = place a ++ (place b ++ place c)
loop_pieces (GenerateAddConditional a b) = place a ++ place b
loop_pieces (GenerateAddBlankLine a) = place a
loop_pieces (GenerateAddComment a b) = place a ++ place b
loop_pieces (GenerateAddInstantiation a b) = place a ++ place b
loop_pieces (GenerateAddInlineStatement a b) = place a ++ place b
loop_pieces (GenerateAddMacroStatement a b) = place a ++ place b

abbrev pub statement_pieces : StatementStep → List Piece
statement_pieces (AddFunction a b c) = place a ++ (text b ++ place c)
statement_pieces (FunctionAddInput a b c) = place a ++ (text b ++ place c)
statement_pieces (FunctionAddLogicInput a b c) = place a ++ (text b ++ place c)
statement_pieces (FunctionAddReg a b c) = place a ++ (text b ++ place c)
statement_pieces (FunctionAddLogic a b c) = place a ++ (text b ++ place c)
statement_pieces (FunctionBody a) = place a
statement_pieces (FunctionResult a) = place a
statement_pieces (AddAlwaysFf a b) = place a ++ listed place b.items
statement_pieces (AddAlwaysAt a b) = place a ++ listed place b.items
statement_pieces (AddAlwaysComb a) = place a
statement_pieces (AddAlwaysStar a) = place a
statement_pieces (AddAlwaysLatch a) = place a
statement_pieces (AddInitial a) = place a
statement_pieces (StatementBlock a) = place a
statement_pieces (BlockAddBlockingAssignment a b c) = place a ++ (place b ++ place c)
statement_pieces (BlockAddNonblockingAssignment a b c) = place a ++ (place b ++ place c)
statement_pieces (BlockAddContinuousAssignment a b c) = place a ++ (place b ++ place c)
statement_pieces (BlockAddTaskCall a b) = place a ++ place b
statement_pieces (BlockAddFor a b c d) = place a ++ (text b ++ (place c ++ place d))
statement_pieces (BlockAddCommentText a b) = place a ++ text b
statement_pieces (BlockAddInlineText a b) = place a ++ text b
statement_pieces (BlockAddBlankLine a) = place a
statement_pieces (AddConditional a b) = place a ++ place b
statement_pieces (BlockAddCond a b) = place a ++ place b
statement_pieces (ConditionalThenBlock a) = place a
statement_pieces (ConditionalAddElseIf a b) = place a ++ place b
statement_pieces (ConditionalAddElse a) = place a
statement_pieces (BlockAddCase a b) = place a ++ place b
statement_pieces (BlockAddCasez a b) = place a ++ place b
statement_pieces (BlockAddCasex a b) = place a ++ place b
statement_pieces (CaseAddItem a b) = place a ++ place b
statement_pieces (CaseAddDefault a) = place a
statement_pieces (CaseSetUnique a b) = place a ++ truth b

abbrev pub artifact_pieces : ArtifactStep → List Piece
artifact_pieces (MakeDef a b c) = text a ++ (kind b ++ place c)
artifact_pieces MakeBlankLine = []
artifact_pieces (MakeComment a) = text a
artifact_pieces (MakeInlineVerilogStatement a) = text a
artifact_pieces (MakeMacroStatement a b) = place a ++ truth b
artifact_pieces (MakeContinuousAssignment a b) = place a ++ place b
artifact_pieces (MakeNonblockingAssignment a b) = place a ++ place b
artifact_pieces (MakeBlockingAssignment a b) = place a ++ place b
artifact_pieces (MakeInstantiation a b c d e f) = text a ++ (text b ++ (listed text c.items ++ (listed place d.items ++ (listed text e.items ++ listed (optional place) f.items))))
artifact_pieces (AddMemberInstantiation a b) = place a ++ place b
artifact_pieces (AddMemberContinuousAssignment a b) = place a ++ place b
artifact_pieces (AddMemberBlankLine a b) = place a ++ place b
artifact_pieces (AddMemberComment a b) = place a ++ place b
artifact_pieces (AddMemberInlineStatement a b) = place a ++ place b
artifact_pieces (AddMemberMacroStatement a b) = place a ++ place b

abbrev pub step_pieces : Step → List Piece
step_pieces (Operators step) = operator_pieces step
step_pieces (Expressions step) = expression_pieces step
step_pieces (Types step) = type_pieces step
step_pieces (Modules step) = module_pieces step
step_pieces (Loops step) = loop_pieces step
step_pieces (Statements step) = statement_pieces step
step_pieces (Artifacts step) = artifact_pieces step

-- A reset, `[ signal active_low ]`, and a register, `[ reg next reset_value enable ]`.

abbrev pub reset_pieces : ResetNumbers → List Piece
reset_pieces r = grouped (place r.signal ++ truth r.active_low)

abbrev pub register_pieces : RegisterNumbers → List Piece
register_pieces r = grouped (place r.reg ++ (place r.next ++ (optional place r.reset_value ++ optional place r.enable)))

abbrev pub helper_pieces : Helper → List Piece
helper_pieces (AddRegisters a b c d) = place a ++ (optional reset_pieces b ++ (listed register_pieces c.items ++ place d))
helper_pieces (BitwiseOrReduce a) = listed place a.items
helper_pieces (BitwiseOrReduceArrayElements a b) = place a ++ listed number b.items
helper_pieces (LogicalAndReduce a b) = listed place a.items ++ truth b
helper_pieces (LogicalOrReduce a b) = listed place a.items ++ truth b

-- The arguments of a step or a helper as pieces, in the order of the parameters.
abbrev pub call_pieces : Call → List Piece
call_pieces (StepCall step) = step_pieces step
call_pieces (HelperCall helper) = helper_pieces helper
