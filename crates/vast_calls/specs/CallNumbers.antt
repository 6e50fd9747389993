-- The names of calls by their groups, signs included, in the order of `src/table`, and the numbers of calls in packed lists.
use Rattle.std.specs.Prelude.{◌≡◌, ℕ, ◌%◌, ◌/◌, List, [], ◌∷◌, Option, Some, slice_get, get_or, codes}
use Rattle.vast_calls.specs.declared.table.numbered.Place.{Place}
use Rattle.vast_calls.specs.declared.table.numbered.Place.TheVariants.{Operator, Expression, DataType, Module, Loop, Statement, Artifact, Question, Helper}

abbrev pub operator_names : List (List ℕ)
operator_names =
    codes "MakeNot" ∷ codes "MakeBitwiseNot" ∷ codes "MakeNegate" ∷ codes "MakeLogicalNot" ∷ codes "MakeAndReduce" ∷ codes "MakeOrReduce" ∷
    codes "MakeXorReduce" ∷ codes "MakeAdd" ∷ codes "MakeSub" ∷ codes "MakeMul" ∷ codes "MakeDiv" ∷ codes "MakeMod" ∷ codes "MakePower" ∷
    codes "MakeBitwiseAnd" ∷ codes "MakeBitwiseOr" ∷ codes "MakeBitwiseXor" ∷ codes "MakeShll" ∷ codes "MakeShra" ∷ codes "MakeShrl" ∷
    codes "MakeNe" ∷ codes "MakeCaseNe" ∷ codes "MakeEq" ∷ codes "MakeCaseEq" ∷ codes "MakeGe" ∷ codes "MakeGt" ∷ codes "MakeLe" ∷ codes "MakeLt" ∷
    codes "MakeLogicalAnd" ∷ codes "MakeLogicalOr" ∷ codes "MakeNeX" ∷ codes "MakeEqX" ∷ []

abbrev pub expression_names : List (List ℕ)
expression_names =
    codes "MakeLiteral" ∷ codes "MakeBinaryPattern" ∷ codes "MakeUnsizedDecimalLiteral" ∷ codes "MakeStringLiteral" ∷ codes "MakeUnsizedOneLiteral" ∷
    codes "MakeUnsizedZeroLiteral" ∷ codes "MakeUnsizedXLiteral" ∷ codes "MakeName" ∷ codes "MakeIndexableExpression" ∷ codes "MakeSlice" ∷
    codes "MakeIndex" ∷ codes "MakeSliceExpr" ∷ codes "MakeIndexExpr" ∷ codes "MakeIndexedPartSelect" ∷ codes "MakeFunctionCall" ∷
    codes "MakeConcat" ∷ codes "MakeReplicatedConcat" ∷ codes "MakeReplicatedConcatI64" ∷ codes "MakeArrayAssignmentPattern" ∷ codes "MakeTernary" ∷
    codes "MakeWidthCast" ∷ codes "MakeTypeCast" ∷ codes "MakePosEdge" ∷ codes "MakeNegEdge" ∷ codes "MakeMacroRef" ∷ codes "MakeMacroRefWithArgs" ∷
    codes "MakeMember" ∷ []

abbrev pub type_names : List (List ℕ)
type_names =
    codes "MakeScalarType" ∷ codes "MakeIntegerType" ∷ codes "MakeIntType" ∷ codes "MakeExternType" ∷ codes "MakeExternPackageType" ∷
    codes "MakeBitVectorType" ∷ codes "MakeBitVectorTypeExpr" ∷ codes "MakePackedArrayType" ∷ codes "MakeUnpackedArrayType" ∷
    codes "MakePackedArrayTypeExpr" ∷ codes "MakeUnpackedArrayTypeExpr" ∷ []

abbrev pub module_names : List (List ℕ)
module_names =
    codes "AddInclude" ∷ codes "AddBlankLine" ∷ codes "AddCommentText" ∷ codes "AddModule" ∷ codes "AddInput" ∷ codes "AddOutput" ∷ codes "AddInout" ∷
    codes "AddLogicInput" ∷ codes "AddLogicOutput" ∷ codes "AddWire" ∷ codes "AddReg" ∷ codes "AddLogic" ∷ codes "AddParameterPort" ∷
    codes "AddTypedParameterPort" ∷ codes "AddParameter" ∷ codes "AddParameterWithDef" ∷ codes "AddLocalparam" ∷ codes "AddIntLocalparam" ∷
    codes "AddTypedLocalparam" ∷ codes "HoistModuleDeclarations" ∷ codes "AddImport" ∷ codes "AddFileImport" ∷
    codes "AddEnumTypedef" ∷ codes "AddStructTypedef" ∷ codes "AddFileEnumTypedef" ∷ codes "AddFileStructTypedef" ∷ codes "AddVariable" ∷ []

abbrev pub loop_names : List (List ℕ)
loop_names =
    codes "AddGenerateLoop" ∷ codes "GenerateAddGenerateLoop" ∷ codes "GenerateGenvar" ∷ codes "GenerateAddAlwaysComb" ∷ codes "GenerateAddAlwaysFf" ∷
    codes "GenerateAddAlwaysAt" ∷ codes "GenerateAddLocalparam" ∷ codes "GenerateAddTypedLocalparam" ∷ codes "GenerateAddContinuousAssignment" ∷
    codes "GenerateAddConditional" ∷ codes "GenerateAddBlankLine" ∷ codes "GenerateAddComment" ∷ codes "GenerateAddInstantiation" ∷
    codes "GenerateAddInlineStatement" ∷ codes "GenerateAddMacroStatement" ∷ codes "GenerateAddAlwaysStar" ∷ codes "GenerateAddAlwaysLatch" ∷
    codes "GenerateAddInitial" ∷ []

abbrev pub statement_names : List (List ℕ)
statement_names =
    codes "AddFunction" ∷ codes "FunctionAddInput" ∷ codes "FunctionAddLogicInput" ∷ codes "FunctionAddReg" ∷ codes "FunctionAddLogic" ∷
    codes "FunctionBody" ∷ codes "FunctionResult" ∷ codes "AddAlwaysFf" ∷ codes "AddAlwaysAt" ∷ codes "AddAlwaysComb" ∷ codes "StatementBlock" ∷
    codes "BlockAddBlockingAssignment" ∷ codes "BlockAddNonblockingAssignment" ∷ codes "BlockAddContinuousAssignment" ∷ codes "BlockAddCommentText" ∷
    codes "BlockAddInlineText" ∷ codes "BlockAddBlankLine" ∷ codes "AddConditional" ∷ codes "BlockAddCond" ∷ codes "ConditionalThenBlock" ∷
    codes "ConditionalAddElseIf" ∷ codes "ConditionalAddElse" ∷ codes "BlockAddCase" ∷ codes "BlockAddCasez" ∷ codes "BlockAddCasex" ∷
    codes "CaseAddItem" ∷ codes "CaseAddDefault" ∷ codes "CaseSetUnique" ∷ codes "AddAlwaysStar" ∷ codes "AddAlwaysLatch" ∷ codes "AddInitial" ∷
    codes "BlockAddTaskCall" ∷ codes "BlockAddFor" ∷ []

abbrev pub artifact_names : List (List ℕ)
artifact_names =
    codes "MakeDef" ∷ codes "MakeBlankLine" ∷ codes "MakeComment" ∷ codes "MakeInlineVerilogStatement" ∷ codes "MakeMacroStatement" ∷
    codes "MakeContinuousAssignment" ∷ codes "MakeNonblockingAssignment" ∷ codes "MakeBlockingAssignment" ∷ codes "MakeInstantiation" ∷
    codes "AddMemberInstantiation" ∷ codes "AddMemberContinuousAssignment" ∷ codes "AddMemberBlankLine" ∷ codes "AddMemberComment" ∷
    codes "AddMemberInlineStatement" ∷ codes "AddMemberMacroStatement" ∷ []

abbrev pub question_names : List (List ℕ)
question_names =
    codes "?ConditionalHasElse" ∷ codes "?Emit" ∷ codes "?EmitExpression" ∷ codes "?FileIsPlain" ∷ codes "?IsSystemVerilogKeyword" ∷
    codes "?LogicRefName" ∷ codes "?ModuleInputPorts" ∷ codes "?ModuleMemberCount" ∷ codes "?ModuleName" ∷ codes "?ModuleOutputPorts" ∷
    codes "?ModulePorts" ∷ codes "?NameIsFree" ∷ codes "?TypeCanBeCast" ∷ codes "?TypeCanBePacked" ∷ codes "?TypeFlatBitCountAsInt64" ∷
    codes "?TypeIsSigned" ∷ codes "?TypeWidthAsInt64" ∷ codes "?TypeWidthExpr" ∷ codes "?WidthIsUsable" ∷ []

abbrev pub helper_names : List (List ℕ)
helper_names =
    codes "!AddRegisters" ∷ codes "!BitwiseOrReduce" ∷ codes "!BitwiseOrReduceArrayElements" ∷ codes "!LogicalAndReduce" ∷ codes "!LogicalOrReduce" ∷
    []

-- The groups in order.
abbrev pub group_names : List (List (List ℕ))
group_names =
    operator_names ∷ expression_names ∷ type_names ∷ module_names ∷ loop_names ∷ statement_names ∷ artifact_names ∷ question_names ∷ helper_names ∷ []

-- A call's number is 16 times its place in its group, and the place of the group, both from 0.
abbrev pub name_numbered : ℕ → Option (List ℕ)
name_numbered number = slice_get (get_or group_names (number % 16) []) (number / 16)

-- The call of this number has this name.
abbrev pub IsNumberOf : ℕ → (name : List ℕ) → Type 0
IsNumberOf number name = name_numbered number ≡ Some name

-- The name of the call of this place in its group, if there is one.
abbrev pub name_at : Place → Option (List ℕ)
name_at (Operator place) = slice_get operator_names place
name_at (Expression place) = slice_get expression_names place
name_at (DataType place) = slice_get type_names place
name_at (Module place) = slice_get module_names place
name_at (Loop place) = slice_get loop_names place
name_at (Statement place) = slice_get statement_names place
name_at (Artifact place) = slice_get artifact_names place
name_at (Question place) = slice_get question_names place
name_at (Helper place) = slice_get helper_names place
