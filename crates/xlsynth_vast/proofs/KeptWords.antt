-- What a file keeps at each word for what it holds after a call.
use Rattle.std.proofs.Common.{ℕ, ℤ, Bool, true, false, List, Option, Some}
use Rattle.vast_core.specs.declared.handle.Expr.{Expr}
use Rattle.vast_core.specs.declared.handle.IndexableExpr.{IndexableExpr}
use Rattle.vast_core.specs.declared.handle.VastModule.{VastModule}
use Rattle.vast_core.specs.declared.handle.VastFunction.{VastFunction}
use Rattle.vast_core.specs.declared.handle.VastDataType.{VastDataType}
use Rattle.vast_core.specs.declared.handle.VastStatementBlock.{VastStatementBlock}
use Rattle.vast_core.specs.declared.handle.Conditional.{Conditional}
use Rattle.vast_core.specs.declared.handle.CaseStatement.{CaseStatement}
use Rattle.vast_core.specs.declared.handle.GenerateLoop.{GenerateLoop}
use Rattle.vast_core.specs.declared.ast.scope.Scope.{Scope}
use Rattle.vast_core.specs.declared.ast.scope.Scope.TheVariants.{Module as ModuleScope, Loop as LoopScope}
use Rattle.vast_core.specs.declared.node.Assignment.{Assignment}
use Rattle.vast_literal.specs.declared.kind.ModulePortDirection.{ModulePortDirection}
use Rattle.vast_literal.specs.declared.kind.DataKind.{DataKind}
use Rattle.vast_literal.specs.declared.kind.AlwaysKind.{AlwaysKind}
use Rattle.vast_literal.specs.declared.kind.CaseKind.{CaseKind}
use Rattle.vast_core.specs.Records.{InstanceRecord, new_module}
use Rattle.vast_core.specs.declared.typedef.DeclaredType.{DeclaredType}
use Rattle.vast_core.specs.declared.node.FileItem.{FileItem}
use Rattle.vast_core.specs.declared.node.FileItem.TheVariants.{Module as ModuleEntry}
use Rattle.vast_core.specs.declared.node.Artifact.{Artifact}
use Rattle.vast_core.specs.declared.node.Definition.{Definition}
use Rattle.vast_core.specs.declared.node.Member.{Member}
use Rattle.vast_core.specs.declared.node.ParameterForm.{ParameterForm}
use Rattle.vast_core.specs.declared.node.Member.TheVariants.{Always as AlwaysEntry}
use Rattle.vast_core.specs.declared.node.Statement.{Statement}
use Rattle.vast_core.specs.declared.node.Statement.TheVariants.{For as ForStatement}
use Rattle.vast_core.specs.declared.node.FunctionVariable.{FunctionVariable}
use Rattle.vast_core.specs.Bench.{Bench}
use Rattle.vast_core.specs.Growth.{with_item, next_module, with_module, with_port, with_declaration, with_member, with_typedef, with_file_typedef, with_assignment, with_fixed_index, with_fixed_slice, with_fixed_replication}
use Rattle.vast_core.specs.Artifacts.{with_artifact, with_definition, with_instance}
use Rattle.vast_core.specs.Parameters.{with_parameter_port}
use Rattle.vast_core.specs.Hoisting.{with_hoisted}
use Rattle.vast_core.specs.Functions.{with_variable}
use Rattle.vast_core.specs.Containers.{StatementEnters, ElseIfEnters, ElseEnters, CaseArmEnters, MemberEnters, next_block, with_block, with_conditional, new_conditional, with_case, new_case, with_statement, with_else_if, with_else, with_case_arm, with_for, with_case_unique}
use Rattle.vast_core.specs.Internal.Containers.{PortsGain, InFile, InModule, InFunction, InNest, no_fresh, fresh_assignment, fresh_block}
use Rattle.vast_core.proofs.Containers.{fresh_container}
use Rattle.vast_core.specs.Scopes.{with_scope_member, with_scope_parameter}
use Rattle.vast_core.specs.Loops.{next_always, with_always, with_loop, new_loop, with_loop_member}
use Rattle.xlsynth_vast.specs.Equations.{is_one, with_bit_vector}
use Rattle.xlsynth_vast.specs.AlwaysBlocks.{with_scope_always}
use Rattle.xlsynth_vast.specs.Functions.{with_function_member}
use Rattle.xlsynth_vast.specs.Keeps.{Keeps}
use Rattle.xlsynth_vast.proofs.Kept.{keeps-root, keeps-then, keeps-cond, keeps-fresh, keeps-listing, keeps-changed, keeps-unique}

-- Expressions and types.

pub bit_vector-kept : (bits : ℤ) (signed : Bool) (b : Bench) → Keeps b (with_bit_vector bits signed b)
bit_vector-kept bits signed b = keeps-cond b _ _ (is_one bits) (keeps-root b _) (keeps-then b _ _ (keeps-root b _) (keeps-root _ _))

pub fixed_index-kept : (subject : IndexableExpr) (text : List ℕ) (index : ℤ) (b : Bench) → Keeps b (with_fixed_index subject text index b)
fixed_index-kept subject text index b = keeps-then b _ _ (keeps-root b _) (keeps-root _ _)

pub fixed_slice-kept : (subject : IndexableExpr) (high_text : List ℕ) (high : ℤ) (low_text : List ℕ) (low : ℤ) (b : Bench) → Keeps b (with_fixed_slice subject high_text high low_text low b)
fixed_slice-kept subject high_text high low_text low b = keeps-then b _ _ (keeps-then b _ _ (keeps-root b _) (keeps-root _ _)) (keeps-root _ _)

pub fixed_replication-kept : (count : ℤ) (parts : List Expr) (b : Bench) → Keeps b (with_fixed_replication count parts b)
fixed_replication-kept count parts b = keeps-then b _ _ (keeps-root b _) (keeps-root _ _)

-- Items, ports and members.

pub item-kept : (entry : FileItem) (b : Bench) → Keeps b (with_item entry b)
item-kept entry b = keeps-listing b (InFile entry)

pub module-kept : (name : List ℕ) (b : Bench) → Keeps b (with_module name b)
module-kept name b = keeps-then b _ _ (keeps-fresh b (record no_fresh { fresh_module = Some (new_module name) })) (keeps-listing _ (InFile (ModuleEntry (next_module b))))

pub port-kept : (owner : VastModule) (direction : ModulePortDirection) (kind : DataKind) (name : List ℕ) (type : VastDataType) (b : Bench) → Keeps b (with_port owner direction kind name type b)
port-kept owner direction kind name type b =
    keeps-then b _ _ (keeps-root b _) (keeps-then _ _ _ (keeps-fresh _ (record no_fresh { port = Some _ })) (keeps-listing _ (InModule owner (PortsGain _ name))))

pub member-kept : (owner : VastModule) (entry : Member) (b : Bench) → Keeps b (with_member owner entry b)
member-kept owner entry b = keeps-changed b owner.id.index _

pub declaration-kept : (owner : VastModule) (kind : DataKind) (name : List ℕ) (type : VastDataType) (b : Bench) → Keeps b (with_declaration owner kind name type b)
declaration-kept owner kind name type b = keeps-then b _ _ (keeps-changed b owner.id.index _) (keeps-root _ _)

pub typedef-kept : (owner : VastModule) (t : DeclaredType) (b : Bench) → Keeps b (with_typedef owner t b)
typedef-kept owner t b = keeps-then b _ _ (keeps-root b _) (keeps-changed _ owner.id.index _)

pub file_typedef-kept : (t : DeclaredType) (b : Bench) → Keeps b (with_file_typedef t b)
file_typedef-kept t b = keeps-then b _ _ (keeps-root b _) (item-kept _ _)

pub parameter_port-kept : (owner : VastModule) (name : List ℕ) (type : Option VastDataType) (value : Expr) (b : Bench) → Keeps b (with_parameter_port owner name type value b)
parameter_port-kept owner name type value b = keeps-then b _ _ (keeps-changed b owner.id.index _) (keeps-root _ _)

pub hoisted-kept : (owner : VastModule) (start : ℕ) (b : Bench) → Keeps b (with_hoisted owner start b)
hoisted-kept owner start b = keeps-changed b owner.id.index _

pub function_member-kept : (owner : VastModule) (name : List ℕ) (type : VastDataType) (b : Bench) → Keeps b (with_function_member owner name type b)
function_member-kept owner name type b =
    keeps-then b _ _ (keeps-then b _ _ (keeps-fresh b (record fresh_block { function = Some _ })) (keeps-root _ _)) (keeps-changed _ owner.id.index _)

pub variable-kept : (function : VastFunction) (local : Bool) (variable : FunctionVariable) (b : Bench) → Keeps b (with_variable function local variable b)
variable-kept function local variable b = keeps-then b _ _ (keeps-listing b (InFunction function local variable)) (keeps-root _ _)

-- Parts.

pub artifact-kept : (part : Artifact) (b : Bench) → Keeps b (with_artifact part b)
artifact-kept part b = keeps-fresh b (record no_fresh { artifact = Some part })

pub definition-kept : (definition : Definition) (b : Bench) → Keeps b (with_definition definition b)
definition-kept definition b = keeps-fresh b (record no_fresh { definition = Some definition })

pub instance-kept : (part : InstanceRecord) (b : Bench) → Keeps b (with_instance part b)
instance-kept part b = keeps-fresh b (record no_fresh { instance = Some part })

pub assignment-kept : (assignment : Assignment) (b : Bench) → Keeps b (with_assignment assignment b)
assignment-kept assignment b = keeps-fresh b (fresh_assignment assignment)

-- Containers.

pub statement-kept : (owner : VastStatementBlock) (statement : Statement) (b : Bench) → Keeps b (with_statement owner statement b)
statement-kept owner statement b = keeps-listing b (InNest owner.id.index (StatementEnters statement))

pub conditional-kept : (condition : Expr) (b : Bench) → Keeps b (with_conditional condition b)
conditional-kept condition b = keeps-fresh b (fresh_container (new_conditional b condition) true)

pub else_if-kept : (owner : Conditional) (condition : Expr) (b : Bench) → Keeps b (with_else_if owner condition b)
else_if-kept owner condition b =
    keeps-then b (with_block b) _ (keeps-fresh b fresh_block) (keeps-listing (with_block b) (InNest owner.id.index (ElseIfEnters (record { condition = condition; block = next_block b }))))

pub else-kept : (owner : Conditional) (b : Bench) → Keeps b (with_else owner b)
else-kept owner b = keeps-then b (with_block b) _ (keeps-fresh b fresh_block) (keeps-listing (with_block b) (InNest owner.id.index (ElseEnters (next_block b))))

pub case-kept : (kind : CaseKind) (selector : Expr) (b : Bench) → Keeps b (with_case kind selector b)
case-kept kind selector b = keeps-fresh b (fresh_container (new_case kind selector) false)

pub case_arm-kept : (owner : CaseStatement) (label : Option Expr) (b : Bench) → Keeps b (with_case_arm owner label b)
case_arm-kept owner label b =
    keeps-then b (with_block b) _ (keeps-fresh b fresh_block) (keeps-listing (with_block b) (InNest owner.id.index (CaseArmEnters (record { label = label; block = next_block b }))))

pub for-kept : (owner : VastStatementBlock) (index : List ℕ) (start end : Expr) (b : Bench) → Keeps b (with_for owner index start end b)
for-kept owner index start end b =
    keeps-then b (with_block b) _ (keeps-fresh b fresh_block) (statement-kept owner (ForStatement (record { index = index; start = start; end = end; block = next_block b })) (with_block b))

pub case_unique-kept : (owner : CaseStatement) (unique : Bool) (b : Bench) → Keeps b (with_case_unique owner unique b)
case_unique-kept owner unique b = keeps-unique b owner.id.index unique

pub loop-kept : (name : List ℕ) (start end : Expr) (label : Option (List ℕ)) (b : Bench) → Keeps b (with_loop name start end label b)
loop-kept name start end label b = keeps-then b _ _ (keeps-fresh b (fresh_container (new_loop b name start end label) false)) (keeps-root _ _)

pub loop_member-kept : (owner : GenerateLoop) (entry : Member) (b : Bench) → Keeps b (with_loop_member owner entry b)
loop_member-kept owner entry b = keeps-listing b (InNest owner.id.index (MemberEnters entry))

pub scope_member-kept : (scope : Scope) (entry : Member) (b : Bench) → Keeps b (with_scope_member scope entry b)
scope_member-kept (ModuleScope owner) entry b = member-kept owner entry b
scope_member-kept (LoopScope owner) entry b = loop_member-kept owner entry b

pub scope_parameter-kept : (scope : Scope) (local : Bool) (form : ParameterForm) (value : Expr) (b : Bench) → Keeps b (with_scope_parameter scope local form value b)
scope_parameter-kept scope local form value b = keeps-then b (with_scope_member scope _ b) _ (scope_member-kept scope _ b) (keeps-root _ _)

pub scope_always-kept : (owner : Scope) (kind : AlwaysKind) (events : List Expr) (b : Bench) → Keeps b (with_scope_always owner kind events b)
scope_always-kept owner kind events b =
    keeps-then b (with_always kind events b) _ (keeps-fresh b (record fresh_block { always_block = Some _ })) (scope_member-kept owner (AlwaysEntry (next_always b)) (with_always kind events b))
