-- What becomes of a call of parts that are made beforehand, or that adds one to a module.
use Rattle.std.specs.Prelude.{ℕ, Bool, true, false, nat_eq, ◌&&◌, List, length, map, Option, Some, string_bytes}
use Rattle.vast_core.specs.Scopes.{with_scope_member}
use Rattle.vast_core.specs.declared.ast.scope.Scope.TheVariants.{Module as ScopeModule}
use Rattle.vast_core.specs.declared.ast.scope.Scope.{Scope}
use Rattle.vast_core.specs.declared.handle.Expr.{Expr}
use Rattle.vast_core.specs.Records.{InstanceRecord}
use Rattle.vast_core.specs.declared.node.Artifact.TheVariants.{BlankLine as BlankArtifact, Comment as CommentArtifact, Inline as InlineArtifact, MacroStatement as MacroArtifact}
use Rattle.vast_core.specs.declared.node.Member.TheVariants.{ContinuousAssignment as AssignmentEntry, BlankLine as BlankEntry, Comment as CommentEntry, Inline as InlineEntry, Macro as MacroEntry, Instantiation as InstanceEntry}
use Rattle.vast_core.specs.Growth.{next_continuous, with_assignment}
use Rattle.vast_core.specs.Artifacts.{next_def, with_definition, next_artifact, with_artifact, next_instantiation, with_instance, next_statement}
use Rattle.xlsynth_vast.specs.Instances.{connected}
use Rattle.vast_script.specs.declared.answer.Answer.TheVariants.{Def, BlankLine, Comment, InlineVerilogStatement, MacroStatement, ContinuousAssignment, VastStatement, Instantiation, Nothing}
use Rattle.vast_steps.specs.declared.step.ArtifactStep.{ArtifactStep}
use Rattle.vast_steps.specs.declared.step.ArtifactStep.TheVariants.{MakeDef, MakeBlankLine, MakeComment, MakeInlineVerilogStatement, MakeMacroStatement, MakeContinuousAssignment, MakeNonblockingAssignment, MakeBlockingAssignment, MakeInstantiation, AddMemberInstantiation, AddMemberContinuousAssignment, AddMemberBlankLine, AddMemberComment, AddMemberInlineStatement, AddMemberMacroStatement}
use Rattle.vast_script.specs.Outcome.{Call, Made, provided, makes}
use Rattle.vast_script.specs.Kinds.{an_expr, a_type, a_module, a_macro_ref, an_instantiation, a_continuous, a_blank_line, a_comment, an_inline, a_macro_statement, Kind}
use Rattle.vast_script.specs.Arguments.{takes_one, takes_two, takes_many_and_open}
use Rattle.vast_core.specs.declared.node.Member.{Member}

-- Parts.

abbrev pub make_assignment : (nonblocking : Bool) → (left right : ℕ) → Call
make_assignment nonblocking left right =
    takes_two an_expr an_expr left right (λ left right. makes VastStatement next_statement (with_assignment (record { lhs = left; rhs = right; nonblocking = nonblocking })))

-- An instance, each name with the value at its place.
abbrev pub instance : (module_name instance_name : List ℕ) → (parameters : List (List ℕ)) → List Expr → (ports : List (List ℕ)) → List (Option Expr) → InstanceRecord
instance module_name instance_name parameters values ports wires =
    record { module_name = module_name; instance_name = instance_name; parameters = connected parameters (map (λ (e : Expr). Some e) values); connections = connected ports wires }

abbrev pub make_instantiation : (module_name instance_name : List ℕ) → (parameters : List (List ℕ)) → List ℕ → (ports : List (List ℕ)) → List (Option ℕ) → Call
make_instantiation module_name instance_name parameters values ports wires =
    takes_many_and_open an_expr values wires
    (λ values wires b. provided (nat_eq (length parameters) (length values) && nat_eq (length ports) (length wires)) (Made (Instantiation (next_instantiation b)) (with_instance (instance module_name instance_name parameters values ports wires) b)))

-- A part that was made beforehand enters a module or a loop.
abbrev pub add_part : {O H : Type 0} → Kind O → (O → Scope) → Kind H → (H → Member) → (owner part : ℕ) → Call
add_part owners scope kind entry owner part = takes_two owners kind owner part (λ owner part b. Made Nothing (with_scope_member (scope owner) (entry part) b))

-- What becomes of a step of a part made beforehand, one clause each.
abbrev pub artifact_call : ArtifactStep → Call
artifact_call (MakeDef name kind type) = takes_one a_type type (λ type. makes Def next_def (with_definition (record { name = string_bytes name; kind = kind; data_type = type })))
artifact_call MakeBlankLine = λ b answers. Made (BlankLine (record { id = next_artifact b })) (with_artifact BlankArtifact b)
artifact_call (MakeComment text) = λ b answers. Made (Comment (record { id = next_artifact b })) (with_artifact (CommentArtifact (string_bytes text)) b)
artifact_call (MakeInlineVerilogStatement text) = λ b answers. Made (InlineVerilogStatement (record { id = next_artifact b })) (with_artifact (InlineArtifact (string_bytes text)) b)
artifact_call (MakeMacroStatement use_of semicolon) = takes_one a_macro_ref use_of
    (λ use_of. makes MacroStatement (λ b. record { id = next_artifact b }) (with_artifact (MacroArtifact use_of semicolon)))
artifact_call (MakeContinuousAssignment left right) = takes_two an_expr an_expr left right
    (λ left right. makes ContinuousAssignment next_continuous (with_assignment (record { lhs = left; rhs = right; nonblocking = false })))
artifact_call (MakeNonblockingAssignment left right) = make_assignment true left right
artifact_call (MakeBlockingAssignment left right) = make_assignment false left right
artifact_call (MakeInstantiation module_name instance_name parameters values ports wires) =
    make_instantiation (string_bytes module_name) (string_bytes instance_name) (map string_bytes parameters.items) values.items (map string_bytes ports.items) wires.items
artifact_call (AddMemberInstantiation owner part) = add_part a_module ScopeModule an_instantiation InstanceEntry owner part
artifact_call (AddMemberContinuousAssignment owner part) = add_part a_module ScopeModule a_continuous AssignmentEntry owner part
artifact_call (AddMemberBlankLine owner part) = add_part a_module ScopeModule a_blank_line (λ _. BlankEntry) owner part
artifact_call (AddMemberComment owner part) = add_part a_module ScopeModule a_comment CommentEntry owner part
artifact_call (AddMemberInlineStatement owner part) = add_part a_module ScopeModule an_inline InlineEntry owner part
artifact_call (AddMemberMacroStatement owner part) = add_part a_module ScopeModule a_macro_statement MacroEntry owner part
