-- The names of calls, as they stand in a line.
use Rattle.std.specs.Prelude.{ℕ, List, codes}
use Rattle.vast_steps.specs.declared.step.Step.{Step}
use Rattle.vast_steps.specs.declared.step.Step.TheVariants.{Operators, Expressions, Types, Modules, Loops, Statements, Artifacts}
use Rattle.vast_steps.specs.declared.step.OperatorStep.{OperatorStep}
use Rattle.vast_steps.specs.declared.step.OperatorStep.TheVariants.{MakeNot, MakeBitwiseNot, MakeNegate, MakeLogicalNot, MakeAndReduce, MakeOrReduce, MakeXorReduce, MakeAdd, MakeSub, MakeMul, MakeDiv, MakeMod, MakePower, MakeBitwiseAnd, MakeBitwiseOr, MakeBitwiseXor, MakeShll, MakeShra, MakeShrl, MakeNe, MakeCaseNe, MakeEq, MakeCaseEq, MakeGe, MakeGt, MakeLe, MakeLt, MakeLogicalAnd, MakeLogicalOr, MakeNeX, MakeEqX}
use Rattle.vast_steps.specs.declared.step.ExpressionStep.{ExpressionStep}
use Rattle.vast_steps.specs.declared.step.ExpressionStep.TheVariants.{MakeLiteral, MakeBinaryPattern, MakeUnsizedDecimalLiteral, MakeStringLiteral, MakeUnsizedOneLiteral, MakeUnsizedZeroLiteral, MakeUnsizedXLiteral, MakeName, MakeIndexableExpression, MakeSlice, MakeIndex, MakeSliceExpr, MakeIndexExpr, MakeIndexedPartSelect, MakeFunctionCall, MakeConcat, MakeReplicatedConcat, MakeReplicatedConcatI64, MakeArrayAssignmentPattern, MakeTernary, MakeWidthCast, MakeTypeCast, MakePosEdge, MakeNegEdge, MakeMacroRef, MakeMacroRefWithArgs, MakeMember}
use Rattle.vast_steps.specs.declared.step.TypeStep.{TypeStep}
use Rattle.vast_steps.specs.declared.step.TypeStep.TheVariants.{MakeScalarType, MakeIntegerType, MakeIntType, MakeExternType, MakeExternPackageType, MakeBitVectorType, MakeBitVectorTypeExpr, MakePackedArrayType, MakeUnpackedArrayType, MakePackedArrayTypeExpr, MakeUnpackedArrayTypeExpr}
use Rattle.vast_steps.specs.declared.step.ModuleStep.{ModuleStep}
use Rattle.vast_steps.specs.declared.step.ModuleStep.TheVariants.{AddInclude, AddBlankLine, AddCommentText, AddModule, AddInput, AddOutput, AddInout, AddLogicInput, AddLogicOutput, AddWire, AddReg, AddLogic, AddParameterPort, AddTypedParameterPort, AddParameter, AddParameterWithDef, AddLocalparam, AddIntLocalparam, AddTypedLocalparam, HoistModuleDeclarations, AddImport, AddFileImport, AddEnumTypedef, AddStructTypedef, AddFileEnumTypedef, AddFileStructTypedef, AddVariable}
use Rattle.vast_steps.specs.declared.step.LoopStep.{LoopStep}
use Rattle.vast_steps.specs.declared.step.LoopStep.TheVariants.{AddGenerateLoop, GenerateAddGenerateLoop, GenerateGenvar, GenerateAddAlwaysComb, GenerateAddAlwaysStar, GenerateAddAlwaysLatch, GenerateAddInitial, GenerateAddAlwaysFf, GenerateAddAlwaysAt, GenerateAddLocalparam, GenerateAddTypedLocalparam, GenerateAddContinuousAssignment, GenerateAddConditional, GenerateAddBlankLine, GenerateAddComment, GenerateAddInstantiation, GenerateAddInlineStatement, GenerateAddMacroStatement}
use Rattle.vast_steps.specs.declared.step.StatementStep.{StatementStep}
use Rattle.vast_steps.specs.declared.step.StatementStep.TheVariants.{AddFunction, FunctionAddInput, FunctionAddLogicInput, FunctionAddReg, FunctionAddLogic, FunctionBody, FunctionResult, AddAlwaysFf, AddAlwaysAt, AddAlwaysComb, AddAlwaysStar, AddAlwaysLatch, AddInitial, BlockAddTaskCall, BlockAddFor, StatementBlock, BlockAddBlockingAssignment, BlockAddNonblockingAssignment, BlockAddContinuousAssignment, BlockAddCommentText, BlockAddInlineText, BlockAddBlankLine, AddConditional, BlockAddCond, ConditionalThenBlock, ConditionalAddElseIf, ConditionalAddElse, BlockAddCase, BlockAddCasez, BlockAddCasex, CaseAddItem, CaseAddDefault, CaseSetUnique}
use Rattle.vast_steps.specs.declared.step.ArtifactStep.{ArtifactStep}
use Rattle.vast_steps.specs.declared.step.ArtifactStep.TheVariants.{MakeDef, MakeBlankLine, MakeComment, MakeInlineVerilogStatement, MakeMacroStatement, MakeContinuousAssignment, MakeNonblockingAssignment, MakeBlockingAssignment, MakeInstantiation, AddMemberInstantiation, AddMemberContinuousAssignment, AddMemberBlankLine, AddMemberComment, AddMemberInlineStatement, AddMemberMacroStatement}
use Rattle.vast_calls.specs.declared.helpers.Helper.{Helper}
use Rattle.vast_calls.specs.declared.helpers.Helper.TheVariants.{AddRegisters, BitwiseOrReduce, BitwiseOrReduceArrayElements, LogicalAndReduce, LogicalOrReduce}
use Rattle.vast_calls.specs.declared.line.Call.{Call}
use Rattle.vast_calls.specs.declared.line.Call.TheVariants.{Step as StepCall, Helper as HelperCall}

abbrev pub operator_name : OperatorStep → List ℕ
operator_name (MakeNot a) = codes "MakeNot"
operator_name (MakeBitwiseNot a) = codes "MakeBitwiseNot"
operator_name (MakeNegate a) = codes "MakeNegate"
operator_name (MakeLogicalNot a) = codes "MakeLogicalNot"
operator_name (MakeAndReduce a) = codes "MakeAndReduce"
operator_name (MakeOrReduce a) = codes "MakeOrReduce"
operator_name (MakeXorReduce a) = codes "MakeXorReduce"
operator_name (MakeAdd a b) = codes "MakeAdd"
operator_name (MakeSub a b) = codes "MakeSub"
operator_name (MakeMul a b) = codes "MakeMul"
operator_name (MakeDiv a b) = codes "MakeDiv"
operator_name (MakeMod a b) = codes "MakeMod"
operator_name (MakePower a b) = codes "MakePower"
operator_name (MakeBitwiseAnd a b) = codes "MakeBitwiseAnd"
operator_name (MakeBitwiseOr a b) = codes "MakeBitwiseOr"
operator_name (MakeBitwiseXor a b) = codes "MakeBitwiseXor"
operator_name (MakeShll a b) = codes "MakeShll"
operator_name (MakeShra a b) = codes "MakeShra"
operator_name (MakeShrl a b) = codes "MakeShrl"
operator_name (MakeNe a b) = codes "MakeNe"
operator_name (MakeCaseNe a b) = codes "MakeCaseNe"
operator_name (MakeEq a b) = codes "MakeEq"
operator_name (MakeCaseEq a b) = codes "MakeCaseEq"
operator_name (MakeGe a b) = codes "MakeGe"
operator_name (MakeGt a b) = codes "MakeGt"
operator_name (MakeLe a b) = codes "MakeLe"
operator_name (MakeLt a b) = codes "MakeLt"
operator_name (MakeLogicalAnd a b) = codes "MakeLogicalAnd"
operator_name (MakeLogicalOr a b) = codes "MakeLogicalOr"
operator_name (MakeNeX a b) = codes "MakeNeX"
operator_name (MakeEqX a b) = codes "MakeEqX"

abbrev pub expression_name : ExpressionStep → List ℕ
expression_name (MakeLiteral a b) = codes "MakeLiteral"
expression_name (MakeBinaryPattern a) = codes "MakeBinaryPattern"
expression_name (MakeUnsizedDecimalLiteral a) = codes "MakeUnsizedDecimalLiteral"
expression_name (MakeStringLiteral a) = codes "MakeStringLiteral"
expression_name MakeUnsizedOneLiteral = codes "MakeUnsizedOneLiteral"
expression_name MakeUnsizedZeroLiteral = codes "MakeUnsizedZeroLiteral"
expression_name MakeUnsizedXLiteral = codes "MakeUnsizedXLiteral"
expression_name (MakeName a) = codes "MakeName"
expression_name (MakeIndexableExpression a) = codes "MakeIndexableExpression"
expression_name (MakeSlice a b c) = codes "MakeSlice"
expression_name (MakeIndex a b) = codes "MakeIndex"
expression_name (MakeSliceExpr a b c) = codes "MakeSliceExpr"
expression_name (MakeIndexExpr a b) = codes "MakeIndexExpr"
expression_name (MakeIndexedPartSelect a b c) = codes "MakeIndexedPartSelect"
expression_name (MakeFunctionCall a b) = codes "MakeFunctionCall"
expression_name (MakeConcat a) = codes "MakeConcat"
expression_name (MakeReplicatedConcat a b) = codes "MakeReplicatedConcat"
expression_name (MakeReplicatedConcatI64 a b) = codes "MakeReplicatedConcatI64"
expression_name (MakeArrayAssignmentPattern a) = codes "MakeArrayAssignmentPattern"
expression_name (MakeTernary a b c) = codes "MakeTernary"
expression_name (MakeWidthCast a b) = codes "MakeWidthCast"
expression_name (MakeTypeCast a b) = codes "MakeTypeCast"
expression_name (MakePosEdge a) = codes "MakePosEdge"
expression_name (MakeNegEdge a) = codes "MakeNegEdge"
expression_name (MakeMacroRef a) = codes "MakeMacroRef"
expression_name (MakeMacroRefWithArgs a b) = codes "MakeMacroRefWithArgs"
expression_name (MakeMember a b) = codes "MakeMember"

abbrev pub type_name : TypeStep → List ℕ
type_name MakeScalarType = codes "MakeScalarType"
type_name (MakeIntegerType a) = codes "MakeIntegerType"
type_name (MakeIntType a) = codes "MakeIntType"
type_name (MakeExternType a) = codes "MakeExternType"
type_name (MakeExternPackageType a b) = codes "MakeExternPackageType"
type_name (MakeBitVectorType a b) = codes "MakeBitVectorType"
type_name (MakeBitVectorTypeExpr a b) = codes "MakeBitVectorTypeExpr"
type_name (MakePackedArrayType a b) = codes "MakePackedArrayType"
type_name (MakeUnpackedArrayType a b) = codes "MakeUnpackedArrayType"
type_name (MakePackedArrayTypeExpr a b) = codes "MakePackedArrayTypeExpr"
type_name (MakeUnpackedArrayTypeExpr a b) = codes "MakeUnpackedArrayTypeExpr"

abbrev pub module_name : ModuleStep → List ℕ
module_name (AddInclude a) = codes "AddInclude"
module_name (AddBlankLine a) = codes "AddBlankLine"
module_name (AddCommentText a) = codes "AddCommentText"
module_name (AddModule a) = codes "AddModule"
module_name (AddInput a b c) = codes "AddInput"
module_name (AddOutput a b c) = codes "AddOutput"
module_name (AddInout a b c) = codes "AddInout"
module_name (AddLogicInput a b c) = codes "AddLogicInput"
module_name (AddLogicOutput a b c) = codes "AddLogicOutput"
module_name (AddWire a b c) = codes "AddWire"
module_name (AddReg a b c) = codes "AddReg"
module_name (AddLogic a b c) = codes "AddLogic"
module_name (AddParameterPort a b c) = codes "AddParameterPort"
module_name (AddTypedParameterPort a b c d) = codes "AddTypedParameterPort"
module_name (AddParameter a b c) = codes "AddParameter"
module_name (AddParameterWithDef a b c) = codes "AddParameterWithDef"
module_name (AddLocalparam a b c) = codes "AddLocalparam"
module_name (AddIntLocalparam a b c) = codes "AddIntLocalparam"
module_name (AddTypedLocalparam a b c) = codes "AddTypedLocalparam"
module_name (HoistModuleDeclarations a b) = codes "HoistModuleDeclarations"
module_name (AddImport a b) = codes "AddImport"
module_name (AddFileImport a) = codes "AddFileImport"
module_name (AddEnumTypedef a b c d e) = codes "AddEnumTypedef"
module_name (AddStructTypedef a b c) = codes "AddStructTypedef"
module_name (AddFileEnumTypedef a b c d) = codes "AddFileEnumTypedef"
module_name (AddFileStructTypedef a b) = codes "AddFileStructTypedef"
module_name (AddVariable a b c) = codes "AddVariable"

abbrev pub loop_name : LoopStep → List ℕ
loop_name (AddGenerateLoop a b c d e) = codes "AddGenerateLoop"
loop_name (GenerateAddGenerateLoop a b c d e) = codes "GenerateAddGenerateLoop"
loop_name (GenerateGenvar a) = codes "GenerateGenvar"
loop_name (GenerateAddAlwaysComb a) = codes "GenerateAddAlwaysComb"
loop_name (GenerateAddAlwaysStar a) = codes "GenerateAddAlwaysStar"
loop_name (GenerateAddAlwaysLatch a) = codes "GenerateAddAlwaysLatch"
loop_name (GenerateAddInitial a) = codes "GenerateAddInitial"
loop_name (GenerateAddAlwaysFf a b) = codes "GenerateAddAlwaysFf"
loop_name (GenerateAddAlwaysAt a b) = codes "GenerateAddAlwaysAt"
loop_name (GenerateAddLocalparam a b c) = codes "GenerateAddLocalparam"
loop_name (GenerateAddTypedLocalparam a b c) = codes "GenerateAddTypedLocalparam"
loop_name (GenerateAddContinuousAssignment a b c) = codes "GenerateAddContinuousAssignment"
loop_name (GenerateAddConditional a b) = codes "GenerateAddConditional"
loop_name (GenerateAddBlankLine a) = codes "GenerateAddBlankLine"
loop_name (GenerateAddComment a b) = codes "GenerateAddComment"
loop_name (GenerateAddInstantiation a b) = codes "GenerateAddInstantiation"
loop_name (GenerateAddInlineStatement a b) = codes "GenerateAddInlineStatement"
loop_name (GenerateAddMacroStatement a b) = codes "GenerateAddMacroStatement"

abbrev pub statement_name : StatementStep → List ℕ
statement_name (AddFunction a b c) = codes "AddFunction"
statement_name (FunctionAddInput a b c) = codes "FunctionAddInput"
statement_name (FunctionAddLogicInput a b c) = codes "FunctionAddLogicInput"
statement_name (FunctionAddReg a b c) = codes "FunctionAddReg"
statement_name (FunctionAddLogic a b c) = codes "FunctionAddLogic"
statement_name (FunctionBody a) = codes "FunctionBody"
statement_name (FunctionResult a) = codes "FunctionResult"
statement_name (AddAlwaysFf a b) = codes "AddAlwaysFf"
statement_name (AddAlwaysAt a b) = codes "AddAlwaysAt"
statement_name (AddAlwaysComb a) = codes "AddAlwaysComb"
statement_name (AddAlwaysStar a) = codes "AddAlwaysStar"
statement_name (AddAlwaysLatch a) = codes "AddAlwaysLatch"
statement_name (AddInitial a) = codes "AddInitial"
statement_name (StatementBlock a) = codes "StatementBlock"
statement_name (BlockAddBlockingAssignment a b c) = codes "BlockAddBlockingAssignment"
statement_name (BlockAddNonblockingAssignment a b c) = codes "BlockAddNonblockingAssignment"
statement_name (BlockAddContinuousAssignment a b c) = codes "BlockAddContinuousAssignment"
statement_name (BlockAddTaskCall a b) = codes "BlockAddTaskCall"
statement_name (BlockAddFor a b c d) = codes "BlockAddFor"
statement_name (BlockAddCommentText a b) = codes "BlockAddCommentText"
statement_name (BlockAddInlineText a b) = codes "BlockAddInlineText"
statement_name (BlockAddBlankLine a) = codes "BlockAddBlankLine"
statement_name (AddConditional a b) = codes "AddConditional"
statement_name (BlockAddCond a b) = codes "BlockAddCond"
statement_name (ConditionalThenBlock a) = codes "ConditionalThenBlock"
statement_name (ConditionalAddElseIf a b) = codes "ConditionalAddElseIf"
statement_name (ConditionalAddElse a) = codes "ConditionalAddElse"
statement_name (BlockAddCase a b) = codes "BlockAddCase"
statement_name (BlockAddCasez a b) = codes "BlockAddCasez"
statement_name (BlockAddCasex a b) = codes "BlockAddCasex"
statement_name (CaseAddItem a b) = codes "CaseAddItem"
statement_name (CaseAddDefault a) = codes "CaseAddDefault"
statement_name (CaseSetUnique a b) = codes "CaseSetUnique"

abbrev pub artifact_name : ArtifactStep → List ℕ
artifact_name (MakeDef a b c) = codes "MakeDef"
artifact_name MakeBlankLine = codes "MakeBlankLine"
artifact_name (MakeComment a) = codes "MakeComment"
artifact_name (MakeInlineVerilogStatement a) = codes "MakeInlineVerilogStatement"
artifact_name (MakeMacroStatement a b) = codes "MakeMacroStatement"
artifact_name (MakeContinuousAssignment a b) = codes "MakeContinuousAssignment"
artifact_name (MakeNonblockingAssignment a b) = codes "MakeNonblockingAssignment"
artifact_name (MakeBlockingAssignment a b) = codes "MakeBlockingAssignment"
artifact_name (MakeInstantiation a b c d e f) = codes "MakeInstantiation"
artifact_name (AddMemberInstantiation a b) = codes "AddMemberInstantiation"
artifact_name (AddMemberContinuousAssignment a b) = codes "AddMemberContinuousAssignment"
artifact_name (AddMemberBlankLine a b) = codes "AddMemberBlankLine"
artifact_name (AddMemberComment a b) = codes "AddMemberComment"
artifact_name (AddMemberInlineStatement a b) = codes "AddMemberInlineStatement"
artifact_name (AddMemberMacroStatement a b) = codes "AddMemberMacroStatement"

abbrev pub step_name : Step → List ℕ
step_name (Operators step) = operator_name step
step_name (Expressions step) = expression_name step
step_name (Types step) = type_name step
step_name (Modules step) = module_name step
step_name (Loops step) = loop_name step
step_name (Statements step) = statement_name step
step_name (Artifacts step) = artifact_name step

abbrev pub helper_name : Helper → List ℕ
helper_name (AddRegisters clk reset registers scope) = codes "!AddRegisters"
helper_name (BitwiseOrReduce values) = codes "!BitwiseOrReduce"
helper_name (BitwiseOrReduceArrayElements value dimensions) = codes "!BitwiseOrReduceArrayElements"
helper_name (LogicalAndReduce values invert) = codes "!LogicalAndReduce"
helper_name (LogicalOrReduce values invert) = codes "!LogicalOrReduce"

-- The name of a step or a helper, its sign included.
abbrev pub call_name : Call → List ℕ
call_name (StepCall step) = step_name step
call_name (HelperCall helper) = helper_name helper
