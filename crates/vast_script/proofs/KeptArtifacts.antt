-- What calls of parts keep.
use Rattle.std.specs.Prelude.{ℕ, Bool, true, false, nat_eq, ◌&&◌, List, length, map, Option, string_bytes}
use Rattle.vast_core.specs.declared.node.Artifact.TheVariants.{BlankLine as BlankArtifact, Comment as CommentArtifact, Inline as InlineArtifact, MacroStatement as MacroArtifact}
use Rattle.vast_core.specs.declared.node.Member.TheVariants.{ContinuousAssignment as AssignmentEntry, BlankLine as BlankEntry, Comment as CommentEntry, Inline as InlineEntry, Macro as MacroEntry, Instantiation as InstanceEntry}
use Rattle.vast_core.specs.Growth.{with_member, next_continuous, with_assignment}
use Rattle.vast_core.specs.Artifacts.{next_def, with_definition, next_artifact, with_artifact, next_instantiation, with_instance, next_statement}
use Rattle.vast_script.specs.declared.answer.Answer.TheVariants.{Def, MacroStatement, ContinuousAssignment, VastStatement, Instantiation, Nothing}
use Rattle.vast_steps.specs.declared.step.ArtifactStep.{ArtifactStep}
use Rattle.vast_steps.specs.declared.step.ArtifactStep.TheVariants.{MakeDef, MakeBlankLine, MakeComment, MakeInlineVerilogStatement, MakeMacroStatement, MakeContinuousAssignment, MakeNonblockingAssignment, MakeBlockingAssignment, MakeInstantiation, AddMemberInstantiation, AddMemberContinuousAssignment, AddMemberBlankLine, AddMemberComment, AddMemberInlineStatement, AddMemberMacroStatement}
use Rattle.vast_script.specs.Outcome.{Made, provided}
use Rattle.vast_script.specs.Kinds.{an_expr, a_type, a_module, a_macro_ref, an_instantiation, a_continuous, a_blank_line, a_comment, an_inline, a_macro_statement}
use Rattle.vast_script.specs.Arguments.{one, two, many_and_open}
use Rattle.vast_script.proofs.KeptOutcomes.{CallKeeps, given-keeps, provided-keeps}
use Rattle.xlsynth_vast.proofs.KeptWords.{artifact-kept, assignment-kept, definition-kept, instance-kept, member-kept}
use Rattle.vast_script.specs.Artifacts.{instance, make_assignment, make_instantiation, artifact_call}

make_assignment-keeps : (nonblocking : Bool) (left : ℕ) (right : ℕ) → CallKeeps (make_assignment nonblocking left right)
make_assignment-keeps nonblocking left right b answers = given-keeps b (two an_expr an_expr b answers left right) (λ (left, right). Made (VastStatement (next_statement b)) (with_assignment (record { lhs = left; rhs = right; nonblocking = nonblocking }) b)) (λ (left, right). assignment-kept (record { lhs = left; rhs = right; nonblocking = nonblocking }) b)

make_instantiation-keeps : (module_name : List ℕ) (instance_name : List ℕ) (parameters : List (List ℕ)) (values : List ℕ) (ports : List (List ℕ)) (wires : List (Option ℕ)) → CallKeeps (make_instantiation module_name instance_name parameters values ports wires)
make_instantiation-keeps module_name instance_name parameters values ports wires b answers = given-keeps b (many_and_open an_expr b answers values wires) (λ (values, wires). provided (nat_eq (length parameters) (length values) && nat_eq (length ports) (length wires)) (Made (Instantiation (next_instantiation b)) (with_instance (instance module_name instance_name parameters values ports wires) b))) (λ (values, wires). provided-keeps b (nat_eq (length parameters) (length values) && nat_eq (length ports) (length wires)) (Made (Instantiation (next_instantiation b)) (with_instance (instance module_name instance_name parameters values ports wires) b)) (instance-kept (instance module_name instance_name parameters values ports wires) b))

pub artifact-keeps : (step : ArtifactStep) → CallKeeps (artifact_call step)
artifact-keeps (MakeDef name kind type) = λ b answers. given-keeps b (one a_type b answers type) (λ type. Made (Def (next_def b)) (with_definition (record { name = (string_bytes name); kind = kind; data_type = type }) b)) (λ type. definition-kept (record { name = (string_bytes name); kind = kind; data_type = type }) b)
artifact-keeps MakeBlankLine = λ b answers. artifact-kept BlankArtifact b
artifact-keeps (MakeComment text) = λ b answers. artifact-kept (CommentArtifact (string_bytes text)) b
artifact-keeps (MakeInlineVerilogStatement text) = λ b answers. artifact-kept (InlineArtifact (string_bytes text)) b
artifact-keeps (MakeMacroStatement use_of semicolon) = λ b answers. given-keeps b (one a_macro_ref b answers use_of) (λ use_of. Made (MacroStatement (record { id = next_artifact b })) (with_artifact (MacroArtifact use_of semicolon) b)) (λ use_of. artifact-kept (MacroArtifact use_of semicolon) b)
artifact-keeps (MakeContinuousAssignment left right) = λ b answers. given-keeps b (two an_expr an_expr b answers left right) (λ (left, right). Made (ContinuousAssignment (next_continuous b)) (with_assignment (record { lhs = left; rhs = right; nonblocking = false }) b)) (λ (left, right). assignment-kept (record { lhs = left; rhs = right; nonblocking = false }) b)
artifact-keeps (MakeNonblockingAssignment left right) = make_assignment-keeps true left right
artifact-keeps (MakeBlockingAssignment left right) = make_assignment-keeps false left right
artifact-keeps (MakeInstantiation module_name instance_name parameters values ports wires) = make_instantiation-keeps (string_bytes module_name) (string_bytes instance_name) (map string_bytes parameters.items) values.items (map string_bytes ports.items) wires.items
artifact-keeps (AddMemberInstantiation owner part) = λ b answers. given-keeps b (two a_module an_instantiation b answers owner part) (λ (owner, part). Made Nothing (with_member owner (InstanceEntry part) b)) (λ (owner, part). member-kept owner (InstanceEntry part) b)
artifact-keeps (AddMemberContinuousAssignment owner part) = λ b answers. given-keeps b (two a_module a_continuous b answers owner part) (λ (owner, part). Made Nothing (with_member owner (AssignmentEntry part) b)) (λ (owner, part). member-kept owner (AssignmentEntry part) b)
artifact-keeps (AddMemberBlankLine owner part) = λ b answers. given-keeps b (two a_module a_blank_line b answers owner part) (λ (owner, part). Made Nothing (with_member owner BlankEntry b)) (λ (owner, part). member-kept owner BlankEntry b)
artifact-keeps (AddMemberComment owner part) = λ b answers. given-keeps b (two a_module a_comment b answers owner part) (λ (owner, part). Made Nothing (with_member owner (CommentEntry part) b)) (λ (owner, part). member-kept owner (CommentEntry part) b)
artifact-keeps (AddMemberInlineStatement owner part) = λ b answers. given-keeps b (two a_module an_inline b answers owner part) (λ (owner, part). Made Nothing (with_member owner (InlineEntry part) b)) (λ (owner, part). member-kept owner (InlineEntry part) b)
artifact-keeps (AddMemberMacroStatement owner part) = λ b answers. given-keeps b (two a_module a_macro_statement b answers owner part) (λ (owner, part). Made Nothing (with_member owner (MacroEntry part) b)) (λ (owner, part). member-kept owner (MacroEntry part) b)
