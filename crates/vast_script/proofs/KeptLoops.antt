-- What calls of loops keep.
use Rattle.std.specs.Prelude.{true, false, codes, string_bytes}
use Rattle.vast_literal.specs.declared.kind.AlwaysKind.TheVariants.{AlwaysFF, AlwaysAt, AlwaysComb, AlwaysStar, AlwaysLatch, Initial}
use Rattle.vast_core.specs.declared.ast.scope.Scope.TheVariants.{Loop as ScopeLoop}
use Rattle.vast_core.specs.declared.node.ParameterForm.TheVariants.{Plain as PlainForm, Defined as DefinedForm}
use Rattle.vast_core.specs.Scopes.{with_scope_parameter}
use Rattle.vast_core.specs.declared.node.Member.TheVariants.{ContinuousAssignment as AssignmentEntry, BlankLine as BlankEntry, Comment as CommentEntry, Inline as InlineEntry, Macro as MacroEntry, Instantiation as InstanceEntry, Conditional as ConditionalEntry, Loop as LoopEntry}
use Rattle.vast_core.specs.Nests.{label_bytes}
use Rattle.vast_core.specs.Growth.{next_node, with_member, next_continuous, with_assignment}
use Rattle.vast_core.specs.Artifacts.{next_statement}
use Rattle.vast_core.specs.Containers.{next_conditional, with_conditional}
use Rattle.vast_core.specs.Loops.{next_loop, with_loop, with_loop_member}
use Rattle.xlsynth_vast.specs.Inspections.{genvar_at}
use Rattle.vast_script.specs.declared.answer.Answer.TheVariants.{GenerateLoop, LogicRef, LocalparamRef, VastStatement, Conditional, Nothing}
use Rattle.vast_steps.specs.declared.step.LoopStep.{LoopStep}
use Rattle.vast_steps.specs.declared.step.LoopStep.TheVariants.{AddGenerateLoop, GenerateAddGenerateLoop, GenerateGenvar, GenerateAddAlwaysComb, GenerateAddAlwaysStar, GenerateAddAlwaysLatch, GenerateAddInitial, GenerateAddAlwaysFf, GenerateAddAlwaysAt, GenerateAddLocalparam, GenerateAddTypedLocalparam, GenerateAddContinuousAssignment, GenerateAddConditional, GenerateAddBlankLine, GenerateAddComment, GenerateAddInstantiation, GenerateAddInlineStatement, GenerateAddMacroStatement}
use Rattle.vast_script.specs.Outcome.{Made, holding}
use Rattle.vast_script.specs.Kinds.{a_module, a_loop, an_expr, a_definition, a_comment, an_instantiation, an_inline, a_macro_statement}
use Rattle.vast_script.specs.Arguments.{one, two, three}
use Rattle.xlsynth_vast.proofs.Kept.{keeps-then, keeps-same}
use Rattle.vast_script.proofs.KeptOutcomes.{CallKeeps, given-keeps, holding-keeps}
use Rattle.xlsynth_vast.proofs.KeptWords.{assignment-kept, conditional-kept, loop-kept, loop_member-kept, member-kept, scope_parameter-kept}
use Rattle.vast_script.proofs.KeptStatements.{add_always-keeps, add_unclocked-keeps}
use Rattle.vast_script.specs.Loops.{loop_call}

pub loop-keeps : (step : LoopStep) → CallKeeps (loop_call step)
loop-keeps (AddGenerateLoop owner name start end label) = λ b answers. given-keeps b (three a_module an_expr an_expr b answers owner start end) (λ (owner, start, end). Made (GenerateLoop (next_loop b)) (with_member owner (LoopEntry (next_loop b)) (with_loop (string_bytes name) start end (label_bytes label) b))) (λ (owner, start, end). keeps-then b (with_loop (string_bytes name) start end (label_bytes label) b) _ (loop-kept (string_bytes name) start end (label_bytes label) b) (member-kept owner (LoopEntry (next_loop b)) (with_loop (string_bytes name) start end (label_bytes label) b)))
loop-keeps (GenerateAddGenerateLoop parent name start end label) = λ b answers. given-keeps b (three a_loop an_expr an_expr b answers parent start end) (λ (parent, start, end). Made (GenerateLoop (next_loop b)) (with_loop_member parent (LoopEntry (next_loop b)) (with_loop (string_bytes name) start end (label_bytes label) b))) (λ (parent, start, end). keeps-then b (with_loop (string_bytes name) start end (label_bytes label) b) _ (loop-kept (string_bytes name) start end (label_bytes label) b) (loop_member-kept parent (LoopEntry (next_loop b)) (with_loop (string_bytes name) start end (label_bytes label) b)))
loop-keeps (GenerateGenvar generate) = λ b answers. given-keeps b (one a_loop b answers generate) (λ generate. holding (genvar_at b generate) (λ name. Made (LogicRef name) b)) (λ generate. holding-keeps b (genvar_at b generate) (λ name. Made (LogicRef name) b) (λ name. keeps-same b))
loop-keeps (GenerateAddAlwaysComb generate) = add_unclocked-keeps a_loop ScopeLoop AlwaysComb generate
loop-keeps (GenerateAddAlwaysStar generate) = add_unclocked-keeps a_loop ScopeLoop AlwaysStar generate
loop-keeps (GenerateAddAlwaysLatch generate) = add_unclocked-keeps a_loop ScopeLoop AlwaysLatch generate
loop-keeps (GenerateAddInitial generate) = add_unclocked-keeps a_loop ScopeLoop Initial generate
loop-keeps (GenerateAddAlwaysFf generate events) = add_always-keeps a_loop ScopeLoop AlwaysFF (codes "always_ff") generate events.items
loop-keeps (GenerateAddAlwaysAt generate events) = add_always-keeps a_loop ScopeLoop AlwaysAt (codes "always @") generate events.items
loop-keeps (GenerateAddLocalparam generate name value) = λ b answers. given-keeps b (two a_loop an_expr b answers generate value) (λ (generate, value). Made (LocalparamRef (record { id = next_node b })) (with_scope_parameter (ScopeLoop generate) true (PlainForm (string_bytes name)) value b)) (λ (generate, value). scope_parameter-kept (ScopeLoop generate) true (PlainForm (string_bytes name)) value b)
loop-keeps (GenerateAddTypedLocalparam generate definition value) = λ b answers. given-keeps b (three a_loop a_definition an_expr b answers generate definition value) (λ (generate, definition, value). Made (LocalparamRef (record { id = next_node b })) (with_scope_parameter (ScopeLoop generate) true (DefinedForm definition) value b)) (λ (generate, definition, value). scope_parameter-kept (ScopeLoop generate) true (DefinedForm definition) value b)
loop-keeps (GenerateAddContinuousAssignment generate left right) = λ b answers. given-keeps b (three a_loop an_expr an_expr b answers generate left right) (λ (generate, left, right). Made (VastStatement (next_statement b)) (with_loop_member generate (AssignmentEntry (next_continuous b)) (with_assignment (record { lhs = left; rhs = right; nonblocking = false }) b))) (λ (generate, left, right). keeps-then b (with_assignment (record { lhs = left; rhs = right; nonblocking = false }) b) _ (assignment-kept (record { lhs = left; rhs = right; nonblocking = false }) b) (loop_member-kept generate (AssignmentEntry (next_continuous b)) (with_assignment (record { lhs = left; rhs = right; nonblocking = false }) b)))
loop-keeps (GenerateAddConditional generate condition) = λ b answers. given-keeps b (two a_loop an_expr b answers generate condition) (λ (generate, condition). Made (Conditional (next_conditional b)) (with_loop_member generate (ConditionalEntry (next_conditional b)) (with_conditional condition b))) (λ (generate, condition). keeps-then b (with_conditional condition b) _ (conditional-kept condition b) (loop_member-kept generate (ConditionalEntry (next_conditional b)) (with_conditional condition b)))
loop-keeps (GenerateAddBlankLine generate) = λ b answers. given-keeps b (one a_loop b answers generate) (λ generate. Made Nothing (with_loop_member generate BlankEntry b)) (λ generate. loop_member-kept generate BlankEntry b)
loop-keeps (GenerateAddComment generate part) = λ b answers. given-keeps b (two a_loop a_comment b answers generate part) (λ (generate, part). Made Nothing (with_loop_member generate (CommentEntry part) b)) (λ (generate, part). loop_member-kept generate (CommentEntry part) b)
loop-keeps (GenerateAddInstantiation generate part) = λ b answers. given-keeps b (two a_loop an_instantiation b answers generate part) (λ (generate, part). Made Nothing (with_loop_member generate (InstanceEntry part) b)) (λ (generate, part). loop_member-kept generate (InstanceEntry part) b)
loop-keeps (GenerateAddInlineStatement generate part) = λ b answers. given-keeps b (two a_loop an_inline b answers generate part) (λ (generate, part). Made Nothing (with_loop_member generate (InlineEntry part) b)) (λ (generate, part). loop_member-kept generate (InlineEntry part) b)
loop-keeps (GenerateAddMacroStatement generate part) = λ b answers. given-keeps b (two a_loop a_macro_statement b answers generate part) (λ (generate, part). Made Nothing (with_loop_member generate (MacroEntry part) b)) (λ (generate, part). loop_member-kept generate (MacroEntry part) b)
