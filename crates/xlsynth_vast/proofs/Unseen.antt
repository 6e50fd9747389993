-- What no list names is not in a file's tree.
use Rattle.std.proofs.Common.{◌≡◌, ℕ, suc, zero, ◌+◌, ◌<◌, ◌≤◌, IsTrue, nat_lt, List, [], ◌∷◌, ◌++◌, length, map, Option, Some, None, slice_get, Result, Ok, Err, OnErr, refl, sym, ap, ◌∙◌, arith, length-append, zero-le}
use Rattle.std.specs.Prelude.{IfSome}
use Rattle.vast_literal.specs.declared.error.VastFault.{VastFault}
use Rattle.vast_literal.specs.Tree.{TaskTree, DefinedParameter, TypedefMember, TypedefItem, ElseIf as ElseIfTree, Else, CaseArm as CaseArmTree, MoreStatements, MoreMembers, AlwaysMember, FileItemTree, FileTree}
use Rattle.vast_core.specs.declared.handle.Expr.{Expr}
use Rattle.vast_core.specs.declared.handle.VastDataType.{VastDataType}
use Rattle.vast_core.specs.declared.handle.VastStatementBlock.{VastStatementBlock}
use Rattle.vast_core.specs.declared.handle.ModulePort.{ModulePort}
use Rattle.vast_core.specs.declared.handle.Def.{Def}
use Rattle.vast_literal.specs.declared.kind.VastFileType.{VastFileType}
use Rattle.vast_core.specs.declared.node.Assignment.{Assignment}
use Rattle.vast_core.specs.declared.node.ElseIf.{ElseIf}
use Rattle.vast_core.specs.declared.node.CaseArm.{CaseArm}
use Rattle.vast_core.specs.Nodes.{maybe_type_in, maybe_expr_in}
use Rattle.vast_core.specs.Records.{ModuleRecord, InstanceRecord}
use Rattle.vast_core.specs.declared.typedef.DeclaredType.{DeclaredType}
use Rattle.vast_core.specs.declared.typedef.DeclaredType.TheVariants.{Enum as EnumType, Struct as StructType}
use Rattle.vast_core.specs.declared.node.ParameterPort.{ParameterPort}
use Rattle.vast_core.specs.declared.node.FileItem.{FileItem}
use Rattle.vast_core.specs.declared.node.FileItem.TheVariants.{Module as ModuleEntry, Typedef as FileTypedefEntry}
use Rattle.vast_core.specs.declared.node.Definition.{Definition}
use Rattle.vast_core.specs.declared.node.Artifact.{Artifact}
use Rattle.vast_core.specs.declared.node.Artifact.TheVariants.{BlankLine as BlankArtifact, Comment as CommentArtifact, Inline as InlineArtifact, MacroStatement as MacroArtifact}
use Rattle.vast_core.specs.declared.node.Connection.{Connection}
use Rattle.vast_core.specs.declared.node.Port.{Port}
use Rattle.vast_core.specs.declared.node.ParameterForm.{ParameterForm}
use Rattle.vast_core.specs.declared.node.Member.{Member}
use Rattle.vast_core.specs.declared.node.Member.TheVariants.{Declaration as DeclarationEntry, ContinuousAssignment as AssignmentEntry, Parameter as ParameterEntry, BlankLine as BlankEntry, Comment as CommentEntry, Import as ImportEntry, Typedef as TypedefEntry, Inline as InlineEntry, Macro as MacroEntry, Instantiation as InstanceEntry, Function as FunctionEntry, Always as AlwaysEntry, Conditional as ConditionalEntry, Loop as LoopEntry}
use Rattle.vast_core.specs.declared.node.ParameterForm.TheVariants.{Plain as PlainForm, Int as IntForm, Defined as DefinedForm}
use Rattle.vast_core.specs.Nests.{NestRecord, BlockRecord, ConditionalNestRecord, CaseNestRecord, LoopNestRecord, FunctionRecord, AlwaysRecord}
use Rattle.vast_core.specs.declared.node.Statement.{Statement}
use Rattle.vast_core.specs.declared.node.Statement.TheVariants.{Assignment as AssignStatement, Continuous as ContinuousStatement, Task as TaskStatement, Conditional as ConditionalStatement, Case as CasesStatement, For as ForStatement}
use Rattle.vast_core.specs.declared.node.FunctionVariable.{FunctionVariable}
use Rattle.vast_core.specs.Bench.{Bench, OwnsExpr, OwnsType, is_continuous, tree_of, type_of, maybe_tree_of, trees_of}
use Rattle.vast_core.specs.Sound.{Each, HoldsBlock, EventSound, VariableSound, ConnectionSound, PortSound, ParameterPortSound, AssignmentSound, DefinitionSound, ArtifactSound, InstanceSound, TypedefSound, MemberSound, EntrySound, StatementSound, ElseIfSound, CaseArmSound, AlwaysNewer, MemberNewer, LoopMemberSound, NestSound, FunctionSound, AlwaysSound, ModuleSound, RecordsSound}
use Rattle.vast_core.specs.FileTree.{Family, BlockFamily, block_in, conditional_statement, case_statement, conditional_member, loop_member, definition_tree, field_tree, typedef_tree, form_tree, artifact_member, connection_tree, instance_member, statement_in, statements_in, otherwise_in, alternates_in, arms_in, always_in, variable_tree, function_in, member_in, members_in, family, unfolded, families, maybe_port_tree, port_tree, parameter_port_tree, maybe_module_tree, item_tree, tree}
use Rattle.vast_core.proofs.Lists.{Each-get, Each-own, below-of, none-past}
use Rattle.vast_core.proofs.Laws.{macro_ref_is_expr}
use Rattle.vast_core.proofs.Sound.{never}
use Rattle.vast_core.proofs.NodeLaws.{type_in-kept}
use Rattle.vast_core.proofs.Nests.{get-before, family-at, nest-at}
use Rattle.vast_core.proofs.Enters.{block-place, conditional-place, case-place, loop-place}
use Rattle.xlsynth_vast.specs.Registers.{HasUnused}
use Rattle.xlsynth_vast.proofs.RegisterParts.{Wider, wider_tree, unused-wider}

-- b is a file and c the same file with what no list names. Its expressions, types and assignments are read alike.
pub record Alike (b c : Bench) : Type 0 where
  pub sound : RecordsSound b
  pub wider : Wider b c
  pub file_type : c.file_type ≡ b.file_type
  pub nests : (i : ℕ) → i < length b.nests → slice_get c.nests i ≡ slice_get b.nests i
  pub count : length b.nests ≤ length c.nests
  pub ports : c.ports ≡ b.ports
  pub modules : c.modules ≡ b.modules
  pub functions : c.functions ≡ b.functions
  pub definitions : c.definitions ≡ b.definitions
  pub artifacts : c.artifacts ≡ b.artifacts
  pub instances : c.instances ≡ b.instances
  pub always_blocks : c.always_blocks ≡ b.always_blocks
  pub items : c.items ≡ b.items

pub alike : (b c : Bench) → RecordsSound b → HasUnused b c → Alike b c
alike b c s h =
    let w = unused-wider b c h in
    let n : c.nests ≡ b.nests ++ h.containers = ap (λ (x : Bench). x.nests) h.after in
    record {
      sound = s;
      wider = w;
      file_type = ap (λ (x : Bench). x.file_type) h.after;
      nests = λ i below. rw n (get-before b.nests h.containers i below);
      count = rw n (omega (arith, length-append b.nests h.containers));
      ports = ap (λ (x : Bench). x.ports) h.after;
      modules = ap (λ (x : Bench). x.modules) h.after;
      functions = ap (λ (x : Bench). x.functions) h.after;
      definitions = ap (λ (x : Bench). x.definitions) h.after;
      artifacts = ap (λ (x : Bench). x.artifacts) h.after;
      instances = ap (λ (x : Bench). x.instances) h.after;
      always_blocks = ap (λ (x : Bench). x.always_blocks) h.after;
      items = ap (λ (x : Bench). x.items) h.after;
    }

-- Expressions and types.

expr-alike : (b c : Bench) → Alike b c → (e : Expr) → OwnsExpr b e → tree_of c e ≡ tree_of b e
expr-alike b c a e h = wider_tree b c a.wider e h

type-alike : (b c : Bench) → Alike b c → (t : VastDataType) → OwnsType b t → type_of c t ≡ type_of b t
type-alike b c a t h = type_in-kept b.nodes c.nodes a.wider.nodes t h

maybe-type : (b c : Bench) → Alike b c → (t : Option VastDataType) → IfSome t (OwnsType b) → maybe_type_in c.nodes t ≡ maybe_type_in b.nodes t
maybe-type b c a None h = refl
maybe-type b c a (Some t) h = rw (type-alike b c a t h) refl

maybe-expr : (b c : Bench) → Alike b c → (e : Option Expr) → IfSome e (OwnsExpr b) → maybe_expr_in c.nodes e ≡ maybe_expr_in b.nodes e
maybe-expr b c a None h = refl
maybe-expr b c a (Some e) h = rw (expr-alike b c a e h) refl

events-alike : (b c : Bench) → Alike b c → (es : List Expr) → Each (EventSound b) es → trees_of c es ≡ trees_of b es
events-alike b c a [] h = refl
events-alike b c a (e ∷ es) h = rw (expr-alike b c a e h.0.0, events-alike b c a es h.1) refl

-- Records.

-- What is found in a list is sound, or nothing is found.
found : {A : Type 0} (P : A → Type 0) (xs : List A) (i : ℕ) (o : Option A) → Each P xs → slice_get xs i ≡ o → IfSome o P
found P xs i None h e = tt
found P xs i (Some x) h e = Each-get P xs i x h e

-- Where an assignment is that is the file's.
pub record AssignmentAt (b c : Bench) (i : ℕ) : Type 0 where
  pub assignment : Assignment
  pub there : slice_get b.assignments i ≡ Some assignment
  pub here : slice_get c.assignments i ≡ Some assignment
  pub left : tree_of c assignment.lhs ≡ tree_of b assignment.lhs
  pub right : tree_of c assignment.rhs ≡ tree_of b assignment.rhs

assignment-at : (b c : Bench) → Alike b c → (i : ℕ) (o : Option Assignment) → slice_get b.assignments i ≡ o → (o ≡ None → ⊥) → AssignmentAt b c i
assignment-at b c a i None e n = absurd (n refl)
assignment-at b c a i (Some x) e n =
    let h = Each-get (AssignmentSound b) b.assignments i x a.sound.assignments e in
    record { assignment = x; there = e; here = a.wider.assignments i x e; left = expr-alike b c a x.lhs h.0; right = expr-alike b c a x.rhs h.1 }

numbered : {A : Type 0} (xs : List A) (i : ℕ) → IsTrue (nat_lt i (length xs)) → slice_get xs i ≡ None → ⊥
numbered xs i h e = let below : i < length xs = below-of i (length xs) h in let past = none-past xs i e in absurd (omega (arith, below, past))

statement-at : (b c : Bench) → Alike b c → (i : ℕ) → IsTrue (nat_lt i (length b.assignments)) → AssignmentAt b c i
statement-at b c a i h = assignment-at b c a i (slice_get b.assignments i) refl (numbered b.assignments i h)

continuous-there : (o : Option Assignment) → IsTrue (is_continuous o) → o ≡ None → ⊥
continuous-there None h e = never h
continuous-there (Some x) h e = cc

continuous-at : (b c : Bench) → Alike b c → (i : ℕ) → IsTrue (is_continuous (slice_get b.assignments i)) → AssignmentAt b c i
continuous-at b c a i h = assignment-at b c a i (slice_get b.assignments i) refl (continuous-there (slice_get b.assignments i) h)

definition-alike : (b c : Bench) → Alike b c → (o : Option Definition) → IfSome o (DefinitionSound b) → definition_tree c o ≡ definition_tree b o
definition-alike b c a None h = refl
definition-alike b c a (Some d) h = rw (type-alike b c a d.data_type h) refl

field-alike : (b c : Bench) → Alike b c → (d : Def) → field_tree c d ≡ field_tree b d
field-alike b c a d =
    rw (a.definitions, definition-alike b c a (slice_get b.definitions d.id.index) (found (DefinitionSound b) b.definitions d.id.index (slice_get b.definitions d.id.index) a.sound.definitions refl)) refl

form-alike : (b c : Bench) → Alike b c → (f : ParameterForm) → form_tree c f ≡ form_tree b f
form-alike b c a (PlainForm name) = refl
form-alike b c a (IntForm name) = refl
form-alike b c a (DefinedForm d) = ap DefinedParameter (field-alike b c a d)

artifact-alike : (b c : Bench) → Alike b c → (o : Option Artifact) → IfSome o (ArtifactSound b) → artifact_member c o ≡ artifact_member b o
artifact-alike b c a None h = refl
artifact-alike b c a (Some BlankArtifact) h = refl
artifact-alike b c a (Some (CommentArtifact text)) h = refl
artifact-alike b c a (Some (InlineArtifact text)) h = refl
artifact-alike b c a (Some (MacroArtifact call semicolon)) h = rw (expr-alike b c a (record { id = call.id }) (macro_ref_is_expr b call h)) refl

artifact-at : (b c : Bench) → Alike b c → (i : ℕ) → artifact_member c (slice_get c.artifacts i) ≡ artifact_member b (slice_get b.artifacts i)
artifact-at b c a i = rw a.artifacts (artifact-alike b c a (slice_get b.artifacts i) (found (ArtifactSound b) b.artifacts i (slice_get b.artifacts i) a.sound.artifacts refl))

connections-alike : (b c : Bench) → Alike b c → (xs : List Connection) → Each (ConnectionSound b) xs → map (connection_tree c) xs ≡ map (connection_tree b) xs
connections-alike b c a [] h = refl
connections-alike b c a (x ∷ xs) h = rw (maybe-expr b c a x.value h.0, connections-alike b c a xs h.1) refl

fields-alike : (b c : Bench) → Alike b c → (ds : List Def) → map (field_tree c) ds ≡ map (field_tree b) ds
fields-alike b c a [] = refl
fields-alike b c a (d ∷ ds) = rw (field-alike b c a d, fields-alike b c a ds) refl

typedef-alike : (b c : Bench) → Alike b c → (t : DeclaredType) → TypedefSound b t → typedef_tree c t ≡ typedef_tree b t
typedef-alike b c a (EnumType t name entries) h = rw (type-alike b c a t h.0, connections-alike b c a entries (Each-own (ConnectionSound b) entries h.1)) refl
typedef-alike b c a (StructType name fields) h = rw (fields-alike b c a fields) refl

instance-alike : (b c : Bench) → Alike b c → (o : Option InstanceRecord) → IfSome o (InstanceSound b) → instance_member c o ≡ instance_member b o
instance-alike b c a None h = refl
instance-alike b c a (Some x) h = rw (connections-alike b c a x.parameters h.parameters, connections-alike b c a x.connections h.connections) refl

instance-at : (b c : Bench) → Alike b c → (i : ℕ) → instance_member c (slice_get c.instances i) ≡ instance_member b (slice_get b.instances i)
instance-at b c a i = rw a.instances (instance-alike b c a (slice_get b.instances i) (found (InstanceSound b) b.instances i (slice_get b.instances i) a.sound.instances refl))

variables-alike : (b c : Bench) → Alike b c → (xs : List FunctionVariable) → Each (VariableSound b) xs → map (variable_tree c) xs ≡ map (variable_tree b) xs
variables-alike b c a [] h = refl
variables-alike b c a (x ∷ xs) h = rw (type-alike b c a x.data_type h.0, variables-alike b c a xs h.1) refl

-- What containers hold. f and g have the trees of the containers from a number on that the file has.

pub record Meet (b : Bench) (from : ℕ) (f g : ℕ → Family) : Type 0 where
  pub at : (j : ℕ) → from ≤ j → j < length b.nests → f j ≡ g j

held-alike : (b : Bench) (f g : ℕ → Family) (i : ℕ) → Meet b (suc i) f g → (x : VastStatementBlock) → HoldsBlock b i x → f x.id.index ≡ g x.id.index
held-alike b f g i q x h = q.at x.id.index h.1 (block-place b x h.0)

statement-alike : (b c : Bench) → Alike b c → (f g : ℕ → Family) (i : ℕ) → Meet b (suc i) f g → (s : Statement) → StatementSound b i s → statement_in c f s ≡ statement_in b g s
statement-alike b c a f g i q (AssignStatement s) h = let x = statement-at b c a s.id.index h.of_kind in rw (x.here, x.there, x.left, x.right) refl
statement-alike b c a f g i q (ContinuousStatement s) h = let x = statement-at b c a s.id.index h.of_kind in rw (x.here, x.there, x.left, x.right) refl
statement-alike b c a f g i q (TaskStatement call) h = ap TaskTree (expr-alike b c a call h)
statement-alike b c a f g i q (ConditionalStatement x) h = ap conditional_statement (q.at x.id.index h.1 (conditional-place b x h.0))
statement-alike b c a f g i q (CasesStatement x) h = ap case_statement (q.at x.id.index h.1 (case-place b x h.0))
statement-alike b c a f g i q (ForStatement l) h = rw (expr-alike b c a l.start h.0.0, expr-alike b c a l.end h.0.1, held-alike b f g i q l.block h.1) refl
statement-alike b c a f g i q _ h = refl

statements-alike : (b c : Bench) → Alike b c → (f g : ℕ → Family) (i : ℕ) → Meet b (suc i) f g → (ss : List Statement) → Each (StatementSound b i) ss → statements_in c f ss ≡ statements_in b g ss
statements-alike b c a f g i q [] h = refl
statements-alike b c a f g i q (s ∷ ss) h =
    ap (λ x. MoreStatements x (statements_in c f ss)) (statement-alike b c a f g i q s h.0)
    ∙ ap (λ x. MoreStatements (statement_in b g s) x) (statements-alike b c a f g i q ss h.1)

otherwise-alike : (b : Bench) (f g : ℕ → Family) (i : ℕ) → Meet b (suc i) f g → (o : Option VastStatementBlock) → IfSome o (HoldsBlock b i) → otherwise_in f o ≡ otherwise_in g o
otherwise-alike b f g i q None h = refl
otherwise-alike b f g i q (Some x) h = ap (λ y. Else (block_in y)) (held-alike b f g i q x h)

alternates-alike :
    (b c : Bench) → Alike b c → (f g : ℕ → Family) (i : ℕ) → Meet b (suc i) f g → (arms : List ElseIf) (o : Option VastStatementBlock) → Each (ElseIfSound b i) arms → IfSome o (HoldsBlock b i) →
    alternates_in c f arms o ≡ alternates_in b g arms o
alternates-alike b c a f g i q [] o h k = otherwise-alike b f g i q o k
alternates-alike b c a f g i q (x ∷ arms) o h k =
    ap (λ y. ElseIfTree y (block_in (f x.block.id.index)) (alternates_in c f arms o)) (expr-alike b c a x.condition h.0.0)
    ∙ ap (λ y. ElseIfTree (tree_of b x.condition) (block_in y) (alternates_in c f arms o)) (held-alike b f g i q x.block h.0.1)
    ∙ ap (λ y. ElseIfTree (tree_of b x.condition) (block_in (g x.block.id.index)) y) (alternates-alike b c a f g i q arms o h.1 k)

arms-alike : (b c : Bench) → Alike b c → (f g : ℕ → Family) (i : ℕ) → Meet b (suc i) f g → (arms : List CaseArm) → Each (CaseArmSound b i) arms → arms_in c f arms ≡ arms_in b g arms
arms-alike b c a f g i q [] h = refl
arms-alike b c a f g i q (x ∷ arms) h =
    ap (λ y. CaseArmTree y (block_in (f x.block.id.index)) (arms_in c f arms)) (maybe-expr b c a x.label h.0.0)
    ∙ ap (λ y. CaseArmTree (maybe_tree_of b x.label) (block_in y) (arms_in c f arms)) (held-alike b f g i q x.block h.0.1)
    ∙ ap (λ y. CaseArmTree (maybe_tree_of b x.label) (block_in (g x.block.id.index)) y) (arms-alike b c a f g i q arms h.1)

-- Members, of modules and of loops.

-- The containers that a member names are from this number on.
abbrev From : Bench → ℕ → Member → Type 0
From b from (FunctionEntry x) = IfSome (slice_get b.functions x.id.index) (λ (r : FunctionRecord). from ≤ r.body.id.index)
From b from (AlwaysEntry x) = IfSome (slice_get b.always_blocks x.id.index) (λ (r : AlwaysRecord). from ≤ r.block.id.index)
From b from (ConditionalEntry x) = from ≤ x.id.index
From b from (LoopEntry x) = from ≤ x.id.index
From b from _ = Unit {0}

function-alike :
    (b c : Bench) → Alike b c → (f g : ℕ → Family) (from : ℕ) → Meet b from f g → (o : Option FunctionRecord) → IfSome o (FunctionSound b) → IfSome o (λ (r : FunctionRecord). from ≤ r.body.id.index) →
    function_in c f o ≡ function_in b g o
function-alike b c a f g from q None h k = refl
function-alike b c a f g from q (Some x) h k =
    rw (type-alike b c a x.result_type h.result_type, variables-alike b c a x.inputs h.inputs, variables-alike b c a x.locals h.locals, q.at x.body.id.index k (block-place b x.body h.body)) refl

always-alike :
    (b c : Bench) → Alike b c → (f g : ℕ → Family) (from : ℕ) → Meet b from f g → (o : Option AlwaysRecord) → IfSome o (AlwaysSound b) → IfSome o (λ (r : AlwaysRecord). from ≤ r.block.id.index) →
    always_in c f o ≡ always_in b g o
always-alike b c a f g from q None h k = refl
always-alike b c a f g from q (Some x) h k =
    ap (λ es. AlwaysMember x.kind es (block_in (f x.block.id.index))) (events-alike b c a x.events h.events)
    ∙ ap (λ y. AlwaysMember x.kind (trees_of b x.events) (block_in y)) (q.at x.block.id.index k (block-place b x.block h.block))

member-alike : (b c : Bench) → Alike b c → (f g : ℕ → Family) (from : ℕ) → Meet b from f g → (m : Member) → MemberSound b m → From b from m → member_in c f m ≡ member_in b g m
member-alike b c a f g from q (DeclarationEntry kind name t) h k = rw (type-alike b c a t h) refl
member-alike b c a f g from q (AssignmentEntry x) h k =
    let y = continuous-at b c a x.id.index h.of_kind in rw (y.here, y.there, y.left, y.right) refl
member-alike b c a f g from q (ParameterEntry local form value) h k = rw (form-alike b c a form, expr-alike b c a value h.1) refl
member-alike b c a f g from q BlankEntry h k = refl
member-alike b c a f g from q (CommentEntry x) h k = artifact-at b c a x.id.index
member-alike b c a f g from q (ImportEntry package_name) h k = refl
member-alike b c a f g from q (TypedefEntry t) h k = ap TypedefMember (typedef-alike b c a t h)
member-alike b c a f g from q (InlineEntry x) h k = artifact-at b c a x.id.index
member-alike b c a f g from q (MacroEntry x) h k = artifact-at b c a x.id.index
member-alike b c a f g from q (InstanceEntry x) h k = instance-at b c a x.id.index
member-alike b c a f g from q (FunctionEntry x) h k =
    let o = slice_get b.functions x.id.index in rw a.functions (function-alike b c a f g from q o (found (FunctionSound b) b.functions x.id.index o a.sound.functions refl) k)
member-alike b c a f g from q (AlwaysEntry x) h k =
    let o = slice_get b.always_blocks x.id.index in rw a.always_blocks (always-alike b c a f g from q o (found (AlwaysSound b) b.always_blocks x.id.index o a.sound.always_blocks refl) k)
member-alike b c a f g from q (ConditionalEntry x) h k = ap conditional_member (q.at x.id.index k (conditional-place b x h))
member-alike b c a f g from q (LoopEntry x) h k = ap loop_member (q.at x.id.index k (loop-place b x h))

newer-from : (i : ℕ) (o : Option AlwaysRecord) → AlwaysNewer i o → IfSome o (λ (r : AlwaysRecord). suc i ≤ r.block.id.index)
newer-from i None h = tt
newer-from i (Some x) h = h

from-newer : (b : Bench) (i : ℕ) (m : Member) → MemberNewer b i m → From b (suc i) m
from-newer b i (FunctionEntry x) h = absurd h
from-newer b i (AlwaysEntry x) h = newer-from i (slice_get b.always_blocks x.id.index) h
from-newer b i (ConditionalEntry x) h = h
from-newer b i (LoopEntry x) h = h
from-newer b i _ h = tt

function-zero : (o : Option FunctionRecord) → IfSome o (λ (r : FunctionRecord). 0 ≤ r.body.id.index)
function-zero None = tt
function-zero (Some x) = zero-le

always-zero : (o : Option AlwaysRecord) → IfSome o (λ (r : AlwaysRecord). 0 ≤ r.block.id.index)
always-zero None = tt
always-zero (Some x) = zero-le

from-zero : (b : Bench) (m : Member) → From b 0 m
from-zero b (FunctionEntry x) = function-zero (slice_get b.functions x.id.index)
from-zero b (AlwaysEntry x) = always-zero (slice_get b.always_blocks x.id.index)
from-zero b (ConditionalEntry x) = zero-le
from-zero b (LoopEntry x) = zero-le
from-zero b _ = tt

loop-members-alike : (b c : Bench) → Alike b c → (f g : ℕ → Family) (i : ℕ) → Meet b (suc i) f g → (ms : List Member) → Each (LoopMemberSound b i) ms → members_in c f ms ≡ members_in b g ms
loop-members-alike b c a f g i q [] h = refl
loop-members-alike b c a f g i q (m ∷ ms) h =
    ap (λ x. MoreMembers x (members_in c f ms)) (member-alike b c a f g (suc i) q m h.0.0 (from-newer b i m h.0.1))
    ∙ ap (λ x. MoreMembers (member_in b g m) x) (loop-members-alike b c a f g i q ms h.1)

members-alike : (b c : Bench) → Alike b c → (f g : ℕ → Family) → Meet b 0 f g → (ms : List Member) → Each (MemberSound b) ms → members_in c f ms ≡ members_in b g ms
members-alike b c a f g q [] h = refl
members-alike b c a f g q (m ∷ ms) h =
    ap (λ x. MoreMembers x (members_in c f ms)) (member-alike b c a f g 0 q m h.0 (from-zero b m))
    ∙ ap (λ x. MoreMembers (member_in b g m) x) (members-alike b c a f g q ms h.1)

-- Containers.

family-alike : (b c : Bench) → Alike b c → (f g : ℕ → Family) (i : ℕ) → Meet b (suc i) f g → (n : NestRecord) → NestSound b i n → family c f (Some n) ≡ family b g (Some n)
family-alike b c a f g i q (BlockRecord ss) h = ap BlockFamily (statements-alike b c a f g i q ss h)
family-alike b c a f g i q (ConditionalNestRecord x) h =
    rw (expr-alike b c a x.condition h.condition, held-alike b f g i q x.consequent h.consequent, alternates-alike b c a f g i q x.else_ifs x.otherwise h.else_ifs h.otherwise) refl
family-alike b c a f g i q (CaseNestRecord x) h = rw (expr-alike b c a x.selector h.selector, arms-alike b c a f g i q x.arms h.arms) refl
family-alike b c a f g i q (LoopNestRecord l) h = rw (expr-alike b c a l.start h.start, expr-alike b c a l.end h.end, loop-members-alike b c a f g i q l.members h.members) refl

maybe-family : (b c : Bench) → Alike b c → (f g : ℕ → Family) (i : ℕ) → Meet b (suc i) f g → (o : Option NestRecord) → slice_get b.nests i ≡ o → family c f o ≡ family b g o
maybe-family b c a f g i q None e = refl
maybe-family b c a f g i q (Some n) e = family-alike b c a f g i q n (nest-at b 0 b.nests i i n a.sound.nests e (omega arith))

unfolded-alike : (b c : Bench) → Alike b c → (n i : ℕ) → i < length b.nests → length b.nests ≤ n + i → unfolded c n i ≡ families b i
unfolded-alike b c a zero i below deep = absurd (omega (arith, below, deep))
unfolded-alike b c a (suc n) i below deep =
    rw (a.nests i below) (maybe-family b c a (unfolded c n) (families b) i (record { at = λ j later within. unfolded-alike b c a n j within (omega (arith, later, deep)) }) (slice_get b.nests i) refl)
    ∙ sym (family-at b i a.sound.nests)

families-alike : (b c : Bench) → Alike b c → (i : ℕ) → i < length b.nests → families c i ≡ families b i
unfolding families
families-alike b c a i below = let n = a.count in unfolded-alike b c a (length c.nests) i below (omega (arith, n))

-- The file.

port-alike : (b c : Bench) → Alike b c → (o : Option Port) → IfSome o (PortSound b) → maybe_port_tree c o ≡ maybe_port_tree b o
port-alike b c a None h = refl
port-alike b c a (Some p) h = rw (type-alike b c a p.data_type h.0) refl

ports-alike : (b c : Bench) → Alike b c → (ps : List ModulePort) → map (port_tree c) ps ≡ map (port_tree b) ps
ports-alike b c a [] = refl
ports-alike b c a (p ∷ ps) =
    let o = slice_get b.ports p.id.index in
    rw (a.ports, port-alike b c a o (found (PortSound b) b.ports p.id.index o a.sound.ports refl), ports-alike b c a ps) refl

parameters-alike : (b c : Bench) → Alike b c → (ps : List ParameterPort) → Each (ParameterPortSound b) ps → map (parameter_port_tree c) ps ≡ map (parameter_port_tree b) ps
parameters-alike b c a [] h = refl
parameters-alike b c a (p ∷ ps) h = rw (maybe-type b c a p.data_type h.0.0, expr-alike b c a p.value h.0.1, parameters-alike b c a ps h.1) refl

module-alike : (b c : Bench) → Alike b c → (o : Option ModuleRecord) → IfSome o (ModuleSound b) → maybe_module_tree c o ≡ maybe_module_tree b o
module-alike b c a None h = refl
module-alike b c a (Some m) h =
    rw (
      parameters-alike b c a m.parameters h.parameters,
      ports-alike b c a m.ports,
      members-alike b c a (families c) (families b) (record { at = λ j from below. families-alike b c a j below }) m.members h.members,
    ) refl

item-alike : (b c : Bench) → Alike b c → (e : FileItem) → EntrySound b e → item_tree c e ≡ item_tree b e
item-alike b c a (ModuleEntry m) h =
    let o = slice_get b.modules m.id.index in
    ap (λ ms. maybe_module_tree c (slice_get ms m.id.index)) a.modules ∙ module-alike b c a o (found (ModuleSound b) b.modules m.id.index o a.sound.modules refl)
item-alike b c a (FileTypedefEntry t) h = ap TypedefItem (typedef-alike b c a t h)
item-alike b c a _ h = refl

items-alike : (b c : Bench) → Alike b c → (es : List FileItem) → Each (EntrySound b) es → map (item_tree c) es ≡ map (item_tree b) es
items-alike b c a [] h = refl
items-alike b c a (e ∷ es) h = rw (item-alike b c a e h.0, items-alike b c a es h.1) refl

abbrev tree_with : VastFileType → List FileItemTree → FileTree
tree_with t items = record { dialect = t; items = items }

tree-alike : (b c : Bench) → Alike b c → tree c ≡ tree b
unfolding tree
tree-alike b c a =
    ap (λ t. tree_with t (map (item_tree c) c.items)) a.file_type
    ∙ ap (λ es. tree_with b.file_type (map (item_tree c) es)) a.items
    ∙ ap (tree_with b.file_type) (items-alike b c a b.items a.sound.items)

pub tree-unseen : (b c : Bench) → RecordsSound b → HasUnused b c → tree c ≡ tree b
tree-unseen b c s h = tree-alike b c (alike b c s h)

pub unseen-refused : (old new : Bench) (r : Result (Unit {0}) VastFault) → RecordsSound old → HasUnused old new → OnErr r (tree new ≡ tree old)
unseen-refused old new (Ok x) s h = tt
unseen-refused old new (Err x) s h = tree-unseen old new s h
