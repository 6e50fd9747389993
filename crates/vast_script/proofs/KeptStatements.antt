-- What calls of functions and statements keep.
use Rattle.std.specs.Prelude.{ℕ, Bool, true, false, not, List, [], Some, None, codes, string_bytes, slice_get}
use Rattle.vast_literal.specs.declared.kind.DataKind.{DataKind}
use Rattle.vast_literal.specs.declared.kind.DataKind.TheVariants.{Reg, Logic}
use Rattle.vast_literal.specs.declared.kind.AlwaysKind.{AlwaysKind}
use Rattle.vast_literal.specs.declared.kind.AlwaysKind.TheVariants.{AlwaysFF, AlwaysAt, AlwaysComb, AlwaysStar, AlwaysLatch, Initial}
use Rattle.vast_literal.specs.declared.kind.CaseKind.{CaseKind}
use Rattle.vast_literal.specs.declared.kind.CaseKind.TheVariants.{Case, CaseZ, CaseX}
use Rattle.vast_core.specs.declared.ast.scope.Scope.TheVariants.{Module as ScopeModule}
use Rattle.vast_core.specs.declared.ast.scope.Scope.{Scope}
use Rattle.vast_core.specs.declared.node.Member.TheVariants.{Conditional as ConditionalEntry}
use Rattle.vast_core.specs.declared.node.Statement.{Statement}
use Rattle.vast_core.specs.declared.node.Statement.TheVariants.{Assignment as AssignStatement, Continuous as ContinuousStatement, Task as TaskStatement, Conditional as ConditionalStatement, Case as CasesStatement, BlankLine as BlankStatement, Comment as CommentStatement, Inline as InlineStatement}
use Rattle.vast_core.specs.Bench.{type_of}
use Rattle.vast_core.specs.Growth.{next_logic_ref, with_member, with_assignment}
use Rattle.vast_core.specs.Artifacts.{next_statement}
use Rattle.vast_core.specs.Functions.{with_variable}
use Rattle.vast_core.specs.Containers.{next_block, next_conditional, next_case, with_conditional, with_case, with_statement, with_else_if, with_else, has_else, with_case_arm, with_for, with_case_unique}
use Rattle.vast_core.specs.Loops.{next_always, next_function}
use Rattle.xlsynth_vast.specs.AlwaysBlocks.{unless_wrong_event, with_scope_always}
use Rattle.xlsynth_vast.specs.Cases.{may_be_unique}
use Rattle.xlsynth_vast.specs.Declarations.{names_in}
use Rattle.xlsynth_vast.specs.Functions.{may_be_function, with_function_member, unless_taken_in_function}
use Rattle.xlsynth_vast.specs.Inspections.{block_at, then_block_at, body_at, result_at}
use Rattle.vast_script.specs.declared.answer.Answer.TheVariants.{VastFunction, LogicRef, VastAlwaysBase, VastStatementBlock, VastStatement, Conditional, CaseStatement, Nothing}
use Rattle.vast_steps.specs.declared.step.StatementStep.{StatementStep}
use Rattle.vast_steps.specs.declared.step.StatementStep.TheVariants.{AddFunction, FunctionAddInput, FunctionAddLogicInput, FunctionAddReg, FunctionAddLogic, FunctionBody, FunctionResult, AddAlwaysFf, AddAlwaysAt, AddAlwaysComb, AddAlwaysStar, AddAlwaysLatch, AddInitial, BlockAddTaskCall, BlockAddFor, StatementBlock, BlockAddBlockingAssignment, BlockAddNonblockingAssignment, BlockAddContinuousAssignment, BlockAddCommentText, BlockAddInlineText, BlockAddBlankLine, AddConditional, BlockAddCond, ConditionalThenBlock, ConditionalAddElseIf, ConditionalAddElse, BlockAddCase, BlockAddCasez, BlockAddCasex, CaseAddItem, CaseAddDefault, CaseSetUnique}
use Rattle.vast_script.specs.Outcome.{Made, provided, allowed, holding}
use Rattle.vast_script.specs.Kinds.{a_module, a_function, a_type, an_expr, an_always, a_block, a_conditional, a_case, Kind}
use Rattle.vast_script.specs.Arguments.{one, two, three, one_and_many}
use Rattle.xlsynth_vast.proofs.Kept.{keeps-then, keeps-same}
use Rattle.vast_script.proofs.KeptOutcomes.{CallKeeps, given-keeps, provided-keeps, allowed-keeps, holding-keeps}
use Rattle.xlsynth_vast.proofs.KeptWords.{scope_always-kept, assignment-kept, case-kept, case_arm-kept, case_unique-kept, conditional-kept, else-kept, else_if-kept, for-kept, function_member-kept, member-kept, statement-kept, variable-kept}
use Rattle.vast_script.specs.Statements.{add_function, function_add_variable, add_always, add_unclocked, block_add_assignment, block_add, block_add_case, statement_call}

add_function-keeps : (owner : ℕ) (name : List ℕ) (type : ℕ) → CallKeeps (add_function owner name type)
add_function-keeps owner name type b answers = given-keeps b (two a_module a_type b answers owner type) (λ (owner, type). allowed (may_be_function (type_of b type) name (names_in b owner)) (λ _. Made (VastFunction (next_function b)) (with_function_member owner name type b))) (λ (owner, type). allowed-keeps b (may_be_function (type_of b type) name (names_in b owner)) (λ _. Made (VastFunction (next_function b)) (with_function_member owner name type b)) (λ _. function_member-kept owner name type b))

function_add_variable-keeps : (local : Bool) (kind : DataKind) (word : List ℕ) (function : ℕ) (name : List ℕ) (type : ℕ) → CallKeeps (function_add_variable local kind word function name type)
function_add_variable-keeps local kind word function name type b answers = given-keeps b (two a_function a_type b answers function type) (λ (function, type). allowed (unless_taken_in_function word name b function) (λ _. Made (LogicRef (next_logic_ref b)) (with_variable function local (record { kind = kind; name = name; data_type = type }) b))) (λ (function, type). allowed-keeps b (unless_taken_in_function word name b function) (λ _. Made (LogicRef (next_logic_ref b)) (with_variable function local (record { kind = kind; name = name; data_type = type }) b)) (λ _. variable-kept function local (record { kind = kind; name = name; data_type = type }) b))

pub add_always-keeps : {H : Type 0} (owners : Kind H) (scope : H → Scope) (kind : AlwaysKind) (word : List ℕ) (owner : ℕ) (events : List ℕ) → CallKeeps (add_always owners scope kind word owner events)
add_always-keeps owners scope kind word owner events b answers = given-keeps b (one_and_many owners an_expr b answers owner events) (λ (owner, events). allowed (unless_wrong_event word b events) (λ _. Made (VastAlwaysBase (next_always b)) (with_scope_always (scope owner) kind events b))) (λ (owner, events). allowed-keeps b (unless_wrong_event word b events) (λ _. Made (VastAlwaysBase (next_always b)) (with_scope_always (scope owner) kind events b)) (λ _. scope_always-kept (scope owner) kind events b))

pub add_unclocked-keeps : {H : Type 0} (owners : Kind H) (scope : H → Scope) (kind : AlwaysKind) (owner : ℕ) → CallKeeps (add_unclocked owners scope kind owner)
add_unclocked-keeps owners scope kind owner b answers = given-keeps b (one owners b answers owner) (λ owner. Made (VastAlwaysBase (next_always b)) (with_scope_always (scope owner) kind [] b)) (λ owner. scope_always-kept (scope owner) kind [] b)

block_add_assignment-keeps : (nonblocking : Bool) (block : ℕ) (left : ℕ) (right : ℕ) → CallKeeps (block_add_assignment nonblocking block left right)
block_add_assignment-keeps nonblocking block left right b answers = given-keeps b (three a_block an_expr an_expr b answers block left right) (λ (block, left, right). Made (VastStatement (next_statement b)) (with_statement block (AssignStatement (next_statement b)) (with_assignment (record { lhs = left; rhs = right; nonblocking = nonblocking }) b))) (λ (block, left, right). keeps-then b (with_assignment (record { lhs = left; rhs = right; nonblocking = nonblocking }) b) _ (assignment-kept (record { lhs = left; rhs = right; nonblocking = nonblocking }) b) (statement-kept block (AssignStatement (next_statement b)) (with_assignment (record { lhs = left; rhs = right; nonblocking = nonblocking }) b)))

block_add-keeps : (entry : Statement) (block : ℕ) → CallKeeps (block_add entry block)
block_add-keeps entry block b answers = given-keeps b (one a_block b answers block) (λ block. Made Nothing (with_statement block entry b)) (λ block. statement-kept block entry b)

block_add_case-keeps : (kind : CaseKind) (block : ℕ) (selector : ℕ) → CallKeeps (block_add_case kind block selector)
block_add_case-keeps kind block selector b answers = given-keeps b (two a_block an_expr b answers block selector) (λ (block, selector). Made (CaseStatement (next_case b)) (with_statement block (CasesStatement (next_case b)) (with_case kind selector b))) (λ (block, selector). keeps-then b (with_case kind selector b) _ (case-kept kind selector b) (statement-kept block (CasesStatement (next_case b)) (with_case kind selector b)))

pub statement-keeps : (step : StatementStep) → CallKeeps (statement_call step)
statement-keeps (AddFunction owner name type) = add_function-keeps owner (string_bytes name) type
statement-keeps (FunctionAddInput function name type) = function_add_variable-keeps false Reg (codes "input") function (string_bytes name) type
statement-keeps (FunctionAddLogicInput function name type) = function_add_variable-keeps false Logic (codes "input") function (string_bytes name) type
statement-keeps (FunctionAddReg function name type) = function_add_variable-keeps true Reg (codes "reg") function (string_bytes name) type
statement-keeps (FunctionAddLogic function name type) = function_add_variable-keeps true Logic (codes "logic") function (string_bytes name) type
statement-keeps (FunctionBody function) = λ b answers. given-keeps b (one a_function b answers function) (λ function. holding (body_at b function) (λ block. Made (VastStatementBlock block) b)) (λ function. holding-keeps b (body_at b function) (λ block. Made (VastStatementBlock block) b) (λ block. keeps-same b))
statement-keeps (FunctionResult function) = λ b answers. given-keeps b (one a_function b answers function) (λ function. holding (result_at b function) (λ name. Made (LogicRef name) b)) (λ function. holding-keeps b (result_at b function) (λ name. Made (LogicRef name) b) (λ name. keeps-same b))
statement-keeps (AddAlwaysFf owner events) = add_always-keeps a_module ScopeModule AlwaysFF (codes "always_ff") owner events.items
statement-keeps (AddAlwaysAt owner events) = add_always-keeps a_module ScopeModule AlwaysAt (codes "always @") owner events.items
statement-keeps (AddAlwaysComb owner) = add_unclocked-keeps a_module ScopeModule AlwaysComb owner
statement-keeps (AddAlwaysStar owner) = add_unclocked-keeps a_module ScopeModule AlwaysStar owner
statement-keeps (AddAlwaysLatch owner) = add_unclocked-keeps a_module ScopeModule AlwaysLatch owner
statement-keeps (AddInitial owner) = add_unclocked-keeps a_module ScopeModule Initial owner
statement-keeps (StatementBlock always) = λ b answers. given-keeps b (one an_always b answers always) (λ always. holding (block_at b always) (λ block. Made (VastStatementBlock block) b)) (λ always. holding-keeps b (block_at b always) (λ block. Made (VastStatementBlock block) b) (λ block. keeps-same b))
statement-keeps (BlockAddBlockingAssignment block left right) = block_add_assignment-keeps false block left right
statement-keeps (BlockAddNonblockingAssignment block left right) = block_add_assignment-keeps true block left right
statement-keeps (BlockAddContinuousAssignment block left right) = λ b answers. given-keeps b (three a_block an_expr an_expr b answers block left right) (λ (block, left, right). Made (VastStatement (next_statement b)) (with_statement block (ContinuousStatement (next_statement b)) (with_assignment (record { lhs = left; rhs = right; nonblocking = false }) b))) (λ (block, left, right). keeps-then b (with_assignment (record { lhs = left; rhs = right; nonblocking = false }) b) _ (assignment-kept (record { lhs = left; rhs = right; nonblocking = false }) b) (statement-kept block (ContinuousStatement (next_statement b)) (with_assignment (record { lhs = left; rhs = right; nonblocking = false }) b)))
statement-keeps (BlockAddTaskCall block call) = λ b answers. given-keeps b (two a_block an_expr b answers block call) (λ (block, call). Made Nothing (with_statement block (TaskStatement call) b)) (λ (block, call). statement-kept block (TaskStatement call) b)
statement-keeps (BlockAddFor block name start end) = λ b answers. given-keeps b (three a_block an_expr an_expr b answers block start end) (λ (block, start, end). Made (VastStatementBlock (next_block b)) (with_for block (string_bytes name) start end b)) (λ (block, start, end). for-kept block (string_bytes name) start end b)
statement-keeps (BlockAddCommentText block text) = block_add-keeps (CommentStatement (string_bytes text)) block
statement-keeps (BlockAddInlineText block text) = block_add-keeps (InlineStatement (string_bytes text)) block
statement-keeps (BlockAddBlankLine block) = block_add-keeps BlankStatement block
statement-keeps (AddConditional owner condition) = λ b answers. given-keeps b (two a_module an_expr b answers owner condition) (λ (owner, condition). Made (Conditional (next_conditional b)) (with_member owner (ConditionalEntry (next_conditional b)) (with_conditional condition b))) (λ (owner, condition). keeps-then b (with_conditional condition b) _ (conditional-kept condition b) (member-kept owner (ConditionalEntry (next_conditional b)) (with_conditional condition b)))
statement-keeps (BlockAddCond block condition) = λ b answers. given-keeps b (two a_block an_expr b answers block condition) (λ (block, condition). Made (Conditional (next_conditional b)) (with_statement block (ConditionalStatement (next_conditional b)) (with_conditional condition b))) (λ (block, condition). keeps-then b (with_conditional condition b) _ (conditional-kept condition b) (statement-kept block (ConditionalStatement (next_conditional b)) (with_conditional condition b)))
statement-keeps (ConditionalThenBlock conditional) = λ b answers. given-keeps b (one a_conditional b answers conditional) (λ conditional. holding (then_block_at b conditional) (λ block. Made (VastStatementBlock block) b)) (λ conditional. holding-keeps b (then_block_at b conditional) (λ block. Made (VastStatementBlock block) b) (λ block. keeps-same b))
statement-keeps (ConditionalAddElseIf conditional condition) = λ b answers. given-keeps b (two a_conditional an_expr b answers conditional condition) (λ (conditional, condition). provided (not (has_else (slice_get b.nests conditional.id.index))) (Made (VastStatementBlock (next_block b)) (with_else_if conditional condition b))) (λ (conditional, condition). provided-keeps b (not (has_else (slice_get b.nests conditional.id.index))) (Made (VastStatementBlock (next_block b)) (with_else_if conditional condition b)) (else_if-kept conditional condition b))
statement-keeps (ConditionalAddElse conditional) = λ b answers. given-keeps b (one a_conditional b answers conditional) (λ conditional. provided (not (has_else (slice_get b.nests conditional.id.index))) (Made (VastStatementBlock (next_block b)) (with_else conditional b))) (λ conditional. provided-keeps b (not (has_else (slice_get b.nests conditional.id.index))) (Made (VastStatementBlock (next_block b)) (with_else conditional b)) (else-kept conditional b))
statement-keeps (BlockAddCase block selector) = block_add_case-keeps Case block selector
statement-keeps (BlockAddCasez block selector) = block_add_case-keeps CaseZ block selector
statement-keeps (BlockAddCasex block selector) = block_add_case-keeps CaseX block selector
statement-keeps (CaseAddItem cases value) = λ b answers. given-keeps b (two a_case an_expr b answers cases value) (λ (cases, value). Made (VastStatementBlock (next_block b)) (with_case_arm cases (Some value) b)) (λ (cases, value). case_arm-kept cases (Some value) b)
statement-keeps (CaseAddDefault cases) = λ b answers. given-keeps b (one a_case b answers cases) (λ cases. Made (VastStatementBlock (next_block b)) (with_case_arm cases None b)) (λ cases. case_arm-kept cases None b)
statement-keeps (CaseSetUnique cases unique) = λ b answers. given-keeps b (one a_case b answers cases) (λ cases. allowed (may_be_unique b.file_type unique) (λ _. Made Nothing (with_case_unique cases unique b))) (λ cases. allowed-keeps b (may_be_unique b.file_type unique) (λ _. Made Nothing (with_case_unique cases unique b)) (λ _. case_unique-kept cases unique b))
