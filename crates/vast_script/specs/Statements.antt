-- What becomes of a call of functions, always blocks, conditionals and statements.
use Rattle.std.specs.Prelude.{ℕ, Bool, true, false, not, List, [], Some, None, codes, string_bytes, slice_get}
use Rattle.vast_literal.specs.declared.kind.DataKind.{DataKind}
use Rattle.vast_literal.specs.declared.kind.DataKind.TheVariants.{Reg, Logic}
use Rattle.vast_literal.specs.declared.kind.AlwaysKind.{AlwaysKind}
use Rattle.vast_literal.specs.declared.kind.AlwaysKind.TheVariants.{AlwaysFF, AlwaysAt, AlwaysComb, AlwaysStar, AlwaysLatch, Initial}
use Rattle.vast_literal.specs.declared.kind.CaseKind.{CaseKind}
use Rattle.vast_literal.specs.declared.kind.CaseKind.TheVariants.{Case, CaseZ, CaseX}
use Rattle.vast_core.specs.declared.ast.scope.Scope.TheVariants.{Module as ScopeModule}
use Rattle.vast_core.specs.declared.ast.scope.Scope.{Scope}
use Rattle.vast_core.specs.declared.node.Member.TheVariants.{Conditional as ConditionalEntry}
use Rattle.vast_core.specs.declared.node.Statement.{Statement}
use Rattle.vast_core.specs.declared.node.Statement.TheVariants.{Assignment as AssignStatement, Continuous as ContinuousStatement, Task as TaskStatement, Conditional as ConditionalStatement, Case as CasesStatement, BlankLine as BlankStatement, Comment as CommentStatement, Inline as InlineStatement}
use Rattle.vast_core.specs.Bench.{type_of}
use Rattle.vast_core.specs.Growth.{next_logic_ref, with_member, with_assignment}
use Rattle.vast_core.specs.Artifacts.{next_statement}
use Rattle.vast_core.specs.Functions.{with_variable}
use Rattle.vast_core.specs.Containers.{next_block, next_conditional, next_case, with_conditional, with_case, with_statement, with_else_if, with_else, has_else, with_case_arm, with_for, with_case_unique}
use Rattle.vast_core.specs.Loops.{next_always, next_function}
use Rattle.xlsynth_vast.specs.AlwaysBlocks.{unless_wrong_event, with_scope_always}
use Rattle.xlsynth_vast.specs.Cases.{may_be_unique}
use Rattle.xlsynth_vast.specs.Declarations.{names_in}
use Rattle.xlsynth_vast.specs.Functions.{may_be_function, with_function_member, unless_taken_in_function}
use Rattle.xlsynth_vast.specs.Inspections.{block_at, then_block_at, body_at, result_at}
use Rattle.vast_script.specs.declared.answer.Answer.TheVariants.{VastFunction, LogicRef, VastAlwaysBase, VastStatementBlock, VastStatement, Conditional, CaseStatement, Nothing}
use Rattle.vast_steps.specs.declared.step.StatementStep.{StatementStep}
use Rattle.vast_steps.specs.declared.step.StatementStep.TheVariants.{AddFunction, FunctionAddInput, FunctionAddLogicInput, FunctionAddReg, FunctionAddLogic, FunctionBody, FunctionResult, AddAlwaysFf, AddAlwaysAt, AddAlwaysComb, AddAlwaysStar, AddAlwaysLatch, AddInitial, BlockAddTaskCall, BlockAddFor, StatementBlock, BlockAddBlockingAssignment, BlockAddNonblockingAssignment, BlockAddContinuousAssignment, BlockAddCommentText, BlockAddInlineText, BlockAddBlankLine, AddConditional, BlockAddCond, ConditionalThenBlock, ConditionalAddElseIf, ConditionalAddElse, BlockAddCase, BlockAddCasez, BlockAddCasex, CaseAddItem, CaseAddDefault, CaseSetUnique}
use Rattle.vast_script.specs.Outcome.{Call, Made, provided, allowed, holding, makes}
use Rattle.vast_script.specs.Kinds.{a_module, a_function, a_type, an_expr, an_always, a_block, a_conditional, a_case, Kind}
use Rattle.vast_script.specs.Arguments.{takes_one, takes_two, takes_three, takes_one_and_many}

abbrev pub add_function : ℕ → List ℕ → ℕ → Call
add_function owner name type =
    takes_two a_module a_type owner type
    (λ owner type b. allowed (may_be_function (type_of b type) name (names_in b owner)) (λ _. Made (VastFunction (next_function b)) (with_function_member owner name type b)))

abbrev pub function_add_variable : (local : Bool) → DataKind → (word : List ℕ) → ℕ → List ℕ → ℕ → Call
function_add_variable local kind word function name type =
    takes_two a_function a_type function type
    (λ function type b. allowed (unless_taken_in_function word name b function) (λ _. Made (LogicRef (next_logic_ref b)) (with_variable function local (record { kind = kind; name = name; data_type = type }) b)))

-- To a module or to a loop.
abbrev pub add_always : {H : Type 0} → Kind H → (H → Scope) → AlwaysKind → (word : List ℕ) → ℕ → List ℕ → Call
add_always owners scope kind word owner events =
    takes_one_and_many owners an_expr owner events
    (λ owner events b. allowed (unless_wrong_event word b events) (λ _. Made (VastAlwaysBase (next_always b)) (with_scope_always (scope owner) kind events b)))

abbrev pub add_unclocked : {H : Type 0} → Kind H → (H → Scope) → AlwaysKind → ℕ → Call
add_unclocked owners scope kind owner =
    takes_one owners owner (λ owner. makes VastAlwaysBase next_always (with_scope_always (scope owner) kind []))

abbrev pub block_add_assignment : (nonblocking : Bool) → (block left right : ℕ) → Call
block_add_assignment nonblocking block left right =
    takes_three a_block an_expr an_expr block left right
    (λ block left right b. Made (VastStatement (next_statement b)) (with_statement block (AssignStatement (next_statement b)) (with_assignment (record { lhs = left; rhs = right; nonblocking = nonblocking }) b)))

-- A statement that holds no handle.
abbrev pub block_add : Statement → ℕ → Call
block_add entry block = takes_one a_block block (λ block b. Made Nothing (with_statement block entry b))

abbrev pub block_add_case : CaseKind → (block selector : ℕ) → Call
block_add_case kind block selector =
    takes_two a_block an_expr block selector
    (λ block selector b. Made (CaseStatement (next_case b)) (with_statement block (CasesStatement (next_case b)) (with_case kind selector b)))

-- What becomes of a step of a function, an always block or a statement, one clause each.
abbrev pub statement_call : StatementStep → Call
statement_call (AddFunction owner name type) = add_function owner (string_bytes name) type
statement_call (FunctionAddInput function name type) = function_add_variable false Reg (codes "input") function (string_bytes name) type
statement_call (FunctionAddLogicInput function name type) = function_add_variable false Logic (codes "input") function (string_bytes name) type
statement_call (FunctionAddReg function name type) = function_add_variable true Reg (codes "reg") function (string_bytes name) type
statement_call (FunctionAddLogic function name type) = function_add_variable true Logic (codes "logic") function (string_bytes name) type
statement_call (FunctionBody function) = takes_one a_function function (λ function b. holding (body_at b function) (λ block. Made (VastStatementBlock block) b))
statement_call (FunctionResult function) = takes_one a_function function (λ function b. holding (result_at b function) (λ name. Made (LogicRef name) b))
statement_call (AddAlwaysFf owner events) = add_always a_module ScopeModule AlwaysFF (codes "always_ff") owner events.items
statement_call (AddAlwaysAt owner events) = add_always a_module ScopeModule AlwaysAt (codes "always @") owner events.items
statement_call (AddAlwaysComb owner) = add_unclocked a_module ScopeModule AlwaysComb owner
statement_call (AddAlwaysStar owner) = add_unclocked a_module ScopeModule AlwaysStar owner
statement_call (AddAlwaysLatch owner) = add_unclocked a_module ScopeModule AlwaysLatch owner
statement_call (AddInitial owner) = add_unclocked a_module ScopeModule Initial owner
statement_call (StatementBlock always) = takes_one an_always always (λ always b. holding (block_at b always) (λ block. Made (VastStatementBlock block) b))
statement_call (BlockAddBlockingAssignment block left right) = block_add_assignment false block left right
statement_call (BlockAddNonblockingAssignment block left right) = block_add_assignment true block left right
statement_call (BlockAddContinuousAssignment block left right) = takes_three a_block an_expr an_expr block left right
    (λ block left right b. Made (VastStatement (next_statement b)) (with_statement block (ContinuousStatement (next_statement b)) (with_assignment (record { lhs = left; rhs = right; nonblocking = false }) b)))
statement_call (BlockAddTaskCall block call) = takes_two a_block an_expr block call (λ block call b. Made Nothing (with_statement block (TaskStatement call) b))
statement_call (BlockAddFor block name start end) = takes_three a_block an_expr an_expr block start end
    (λ block start end. makes VastStatementBlock next_block (with_for block (string_bytes name) start end))
statement_call (BlockAddCommentText block text) = block_add (CommentStatement (string_bytes text)) block
statement_call (BlockAddInlineText block text) = block_add (InlineStatement (string_bytes text)) block
statement_call (BlockAddBlankLine block) = block_add BlankStatement block
statement_call (AddConditional owner condition) = takes_two a_module an_expr owner condition
    (λ owner condition b. Made (Conditional (next_conditional b)) (with_member owner (ConditionalEntry (next_conditional b)) (with_conditional condition b)))
statement_call (BlockAddCond block condition) = takes_two a_block an_expr block condition
    (λ block condition b. Made (Conditional (next_conditional b)) (with_statement block (ConditionalStatement (next_conditional b)) (with_conditional condition b)))
statement_call (ConditionalThenBlock conditional) = takes_one a_conditional conditional
    (λ conditional b. holding (then_block_at b conditional) (λ block. Made (VastStatementBlock block) b))
statement_call (ConditionalAddElseIf conditional condition) = takes_two a_conditional an_expr conditional condition
    (λ conditional condition b. provided (not (has_else (slice_get b.nests conditional.id.index))) (Made (VastStatementBlock (next_block b)) (with_else_if conditional condition b)))
statement_call (ConditionalAddElse conditional) = takes_one a_conditional conditional
    (λ conditional b. provided (not (has_else (slice_get b.nests conditional.id.index))) (Made (VastStatementBlock (next_block b)) (with_else conditional b)))
statement_call (BlockAddCase block selector) = block_add_case Case block selector
statement_call (BlockAddCasez block selector) = block_add_case CaseZ block selector
statement_call (BlockAddCasex block selector) = block_add_case CaseX block selector
statement_call (CaseAddItem cases value) = takes_two a_case an_expr cases value (λ cases value. makes VastStatementBlock next_block (with_case_arm cases (Some value)))
statement_call (CaseAddDefault cases) = takes_one a_case cases (λ cases. makes VastStatementBlock next_block (with_case_arm cases None))
statement_call (CaseSetUnique cases unique) = takes_one a_case cases (λ cases b. allowed (may_be_unique b.file_type unique) (λ _. Made Nothing (with_case_unique cases unique b)))
