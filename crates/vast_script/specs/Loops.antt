-- What becomes of a call of generate loops and their members.
use Rattle.std.specs.Prelude.{true, false, codes, string_bytes}
use Rattle.vast_literal.specs.declared.kind.AlwaysKind.TheVariants.{AlwaysFF, AlwaysAt, AlwaysComb, AlwaysStar, AlwaysLatch, Initial}
use Rattle.vast_script.specs.Statements.{add_always, add_unclocked}
use Rattle.vast_script.specs.Artifacts.{add_part}
use Rattle.vast_core.specs.declared.ast.scope.Scope.TheVariants.{Loop as ScopeLoop}
use Rattle.vast_core.specs.declared.node.ParameterForm.TheVariants.{Plain as PlainForm, Defined as DefinedForm}
use Rattle.vast_core.specs.Scopes.{with_scope_parameter}
use Rattle.vast_core.specs.declared.node.Member.TheVariants.{ContinuousAssignment as AssignmentEntry, BlankLine as BlankEntry, Comment as CommentEntry, Inline as InlineEntry, Macro as MacroEntry, Instantiation as InstanceEntry, Conditional as ConditionalEntry, Loop as LoopEntry}
use Rattle.vast_core.specs.Nests.{label_bytes}
use Rattle.vast_core.specs.Growth.{next_node, with_member, next_continuous, with_assignment}
use Rattle.vast_core.specs.Artifacts.{next_statement}
use Rattle.vast_core.specs.Containers.{next_conditional, with_conditional}
use Rattle.vast_core.specs.Loops.{next_loop, with_loop, with_loop_member}
use Rattle.xlsynth_vast.specs.Inspections.{genvar_at}
use Rattle.vast_script.specs.declared.answer.Answer.TheVariants.{GenerateLoop, LogicRef, LocalparamRef, VastStatement, Conditional, Nothing}
use Rattle.vast_steps.specs.declared.step.LoopStep.{LoopStep}
use Rattle.vast_steps.specs.declared.step.LoopStep.TheVariants.{AddGenerateLoop, GenerateAddGenerateLoop, GenerateGenvar, GenerateAddAlwaysComb, GenerateAddAlwaysStar, GenerateAddAlwaysLatch, GenerateAddInitial, GenerateAddAlwaysFf, GenerateAddAlwaysAt, GenerateAddLocalparam, GenerateAddTypedLocalparam, GenerateAddContinuousAssignment, GenerateAddConditional, GenerateAddBlankLine, GenerateAddComment, GenerateAddInstantiation, GenerateAddInlineStatement, GenerateAddMacroStatement}
use Rattle.vast_script.specs.Outcome.{Call, Made, holding, makes}
use Rattle.vast_script.specs.Kinds.{a_module, a_loop, an_expr, a_definition, a_comment, an_instantiation, an_inline, a_macro_statement}
use Rattle.vast_script.specs.Arguments.{takes_one, takes_two, takes_three}

-- What becomes of a step of a generate loop, one clause each.
abbrev pub loop_call : LoopStep → Call
loop_call (AddGenerateLoop owner name start end label) = takes_three a_module an_expr an_expr owner start end
    (λ owner start end b. Made (GenerateLoop (next_loop b)) (with_member owner (LoopEntry (next_loop b)) (with_loop (string_bytes name) start end (label_bytes label) b)))
loop_call (GenerateAddGenerateLoop parent name start end label) = takes_three a_loop an_expr an_expr parent start end
    (λ parent start end b. Made (GenerateLoop (next_loop b)) (with_loop_member parent (LoopEntry (next_loop b)) (with_loop (string_bytes name) start end (label_bytes label) b)))
loop_call (GenerateGenvar generate) = takes_one a_loop generate (λ generate b. holding (genvar_at b generate) (λ name. Made (LogicRef name) b))
loop_call (GenerateAddAlwaysComb generate) = add_unclocked a_loop ScopeLoop AlwaysComb generate
loop_call (GenerateAddAlwaysStar generate) = add_unclocked a_loop ScopeLoop AlwaysStar generate
loop_call (GenerateAddAlwaysLatch generate) = add_unclocked a_loop ScopeLoop AlwaysLatch generate
loop_call (GenerateAddInitial generate) = add_unclocked a_loop ScopeLoop Initial generate
loop_call (GenerateAddAlwaysFf generate events) = add_always a_loop ScopeLoop AlwaysFF (codes "always_ff") generate events.items
loop_call (GenerateAddAlwaysAt generate events) = add_always a_loop ScopeLoop AlwaysAt (codes "always @") generate events.items
loop_call (GenerateAddLocalparam generate name value) = takes_two a_loop an_expr generate value
    (λ generate value. makes LocalparamRef (λ b. record { id = next_node b }) (with_scope_parameter (ScopeLoop generate) true (PlainForm (string_bytes name)) value))
loop_call (GenerateAddTypedLocalparam generate definition value) = takes_three a_loop a_definition an_expr generate definition value
    (λ generate definition value. makes LocalparamRef (λ b. record { id = next_node b }) (with_scope_parameter (ScopeLoop generate) true (DefinedForm definition) value))
loop_call (GenerateAddContinuousAssignment generate left right) = takes_three a_loop an_expr an_expr generate left right
    (λ generate left right b. Made (VastStatement (next_statement b)) (with_loop_member generate (AssignmentEntry (next_continuous b)) (with_assignment (record { lhs = left; rhs = right; nonblocking = false }) b)))
loop_call (GenerateAddConditional generate condition) = takes_two a_loop an_expr generate condition
    (λ generate condition b. Made (Conditional (next_conditional b)) (with_loop_member generate (ConditionalEntry (next_conditional b)) (with_conditional condition b)))
loop_call (GenerateAddBlankLine generate) = takes_one a_loop generate (λ generate b. Made Nothing (with_loop_member generate BlankEntry b))
loop_call (GenerateAddComment generate part) = add_part a_loop ScopeLoop a_comment CommentEntry generate part
loop_call (GenerateAddInstantiation generate part) = add_part a_loop ScopeLoop an_instantiation InstanceEntry generate part
loop_call (GenerateAddInlineStatement generate part) = add_part a_loop ScopeLoop an_inline InlineEntry generate part
loop_call (GenerateAddMacroStatement generate part) = add_part a_loop ScopeLoop a_macro_statement MacroEntry generate part
