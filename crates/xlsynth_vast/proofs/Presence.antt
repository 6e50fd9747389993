-- Nothing is missing from a file's tree.
use Rattle.std.proofs.Common.{◌≡◌, ◌<◌, ℕ, suc, IsTrue, nat_lt, List, [], ◌∷◌, length, Option, Some, None, IfSome, slice_get, refl, sym, ap, ◌∙◌, arith}
use Rattle.vast_literal.specs.Tree.{BlankMember, BlankTree, BlankItem}
use Rattle.vast_core.specs.declared.handle.Def.{Def}
use Rattle.vast_core.specs.declared.handle.ModulePort.{ModulePort}
use Rattle.vast_core.specs.declared.handle.VastStatementBlock.{VastStatementBlock}
use Rattle.vast_core.specs.declared.node.Assignment.{Assignment}
use Rattle.vast_core.specs.Records.{ModuleRecord, InstanceRecord}
use Rattle.vast_core.specs.declared.typedef.DeclaredType.{DeclaredType}
use Rattle.vast_core.specs.declared.typedef.DeclaredType.TheVariants.{Enum as EnumType, Struct as StructType}
use Rattle.vast_core.specs.declared.node.FileItem.{FileItem}
use Rattle.vast_core.specs.declared.node.FileItem.TheVariants.{Module as ModuleEntry, Include as IncludeEntry, Import as FileImportEntry, Typedef as FileTypedefEntry, Comment as FileCommentEntry, BlankLine as FileBlankEntry}
use Rattle.vast_core.specs.declared.node.Artifact.{Artifact}
use Rattle.vast_core.specs.declared.node.Artifact.TheVariants.{BlankLine as BlankArtifact, Comment as CommentArtifact, Inline as InlineArtifact, MacroStatement as MacroArtifact}
use Rattle.vast_core.specs.declared.node.Member.{Member}
use Rattle.vast_core.specs.declared.node.Member.TheVariants.{Declaration as DeclarationEntry, ContinuousAssignment as AssignmentEntry, Parameter as ParameterEntry, BlankLine as BlankEntry, Comment as CommentEntry, Import as ImportEntry, Typedef as TypedefEntry, Inline as InlineEntry, Macro as MacroEntry, Instantiation as InstanceEntry, Function as FunctionEntry, Always as AlwaysEntry, Conditional as ConditionalEntry, Loop as LoopEntry}
use Rattle.vast_core.specs.declared.node.ParameterForm.TheVariants.{Plain as PlainForm, Int as IntForm, Defined as DefinedForm}
use Rattle.vast_core.specs.Nests.{NestRecord, BlockRecord, ConditionalNestRecord, CaseNestRecord, LoopNestRecord, FunctionRecord, AlwaysRecord}
use Rattle.vast_core.specs.declared.node.Statement.{Statement}
use Rattle.vast_core.specs.declared.node.Statement.TheVariants.{Assignment as AssignStatement, Continuous as ContinuousStatement, Task as TaskStatement, Conditional as ConditionalStatement, Case as CasesStatement, For as ForStatement, BlankLine as BlankStatement, Comment as CommentStatement, Inline as InlineStatement}
use Rattle.vast_core.specs.Bench.{Bench, OwnsBlock, OwnsPort, OwnsDef, is_continuous, is_comment, is_inline, is_macro_statement}
use Rattle.vast_core.specs.Nests.{nest_kind, is_kind, BlockKind, ConditionalKind, CaseStatementKind, LoopKind}
use Rattle.vast_core.specs.FileTree.{Family, family, families, block_in, conditional_statement, case_statement, conditional_member, loop_member, assignment_member, artifact_member, instance_member, assigned_tree, continuous_tree, function_in, always_in, member_tree, maybe_module_tree}
use Rattle.vast_core.specs.Sound.{Each, TypedefSound, MemberSound, StatementSound, NestSound, NestsSound, ModuleSound, EntrySound, RecordsSound}
use Rattle.vast_core.proofs.Lists.{below-of, none-past, Each-map, Each-own}
use Rattle.vast_core.proofs.Nests.{family-at}
use Rattle.vast_core.proofs.Sound.{never}
use Rattle.xlsynth_vast.specs.Presence.{IsDefined, FieldsAreThere, ItemIsThere, DefinitionIsThere, MemberIsThere, StatementIsThere, BlockIsThere, PortIsThere, ModuleIsThere, ContainerIsThere, NothingIsMissing}

-- A place within a list has an element.
present : {A : Type 0} (xs : List A) (i : ℕ) → IsTrue (nat_lt i (length xs)) → slice_get xs i ≡ None → ⊥
present xs i h e = absurd (omega (arith, below-of i (length xs) h, none-past xs i e))

found : {A : Type 0} (xs : List A) (i : ℕ) (o : Option A) → IsTrue (nat_lt i (length xs)) → slice_get xs i ≡ o → (x : A) × (slice_get xs i ≡ Some x)
found xs i None h e = absurd (present xs i h e)
found xs i (Some x) h e = (x, e)

-- What stands at such a place, or is of its kind, is no blank line.

assigned : (b : Bench) (o : Option Assignment) → IsTrue (is_continuous o) → assignment_member b o ≡ BlankMember → ⊥
assigned b None h e = never h
assigned b (Some a) h e = cc

commented : (b : Bench) (o : Option Artifact) → IsTrue (is_comment o) → artifact_member b o ≡ BlankMember → ⊥
commented b None h e = never h
commented b (Some BlankArtifact) h e = never h
commented b (Some (CommentArtifact text)) h e = cc
commented b (Some (InlineArtifact text)) h e = never h
commented b (Some (MacroArtifact call semicolon)) h e = never h

inlined : (b : Bench) (o : Option Artifact) → IsTrue (is_inline o) → artifact_member b o ≡ BlankMember → ⊥
inlined b None h e = never h
inlined b (Some BlankArtifact) h e = never h
inlined b (Some (CommentArtifact text)) h e = never h
inlined b (Some (InlineArtifact text)) h e = cc
inlined b (Some (MacroArtifact call semicolon)) h e = never h

called : (b : Bench) (o : Option Artifact) → IsTrue (is_macro_statement o) → artifact_member b o ≡ BlankMember → ⊥
called b None h e = never h
called b (Some BlankArtifact) h e = never h
called b (Some (CommentArtifact text)) h e = never h
called b (Some (InlineArtifact text)) h e = never h
called b (Some (MacroArtifact call semicolon)) h e = cc

instanced : (b : Bench) (o : Option InstanceRecord) → (o ≡ None → ⊥) → instance_member b o ≡ BlankMember → ⊥
instanced b None h e = h refl
instanced b (Some i) h e = cc

declared : (b : Bench) (f : ℕ → Family) (o : Option FunctionRecord) → (o ≡ None → ⊥) → function_in b f o ≡ BlankMember → ⊥
declared b f None h e = h refl
declared b f (Some x) h e = cc

waiting : (b : Bench) (f : ℕ → Family) (o : Option AlwaysRecord) → (o ≡ None → ⊥) → always_in b f o ≡ BlankMember → ⊥
waiting b f None h e = h refl
waiting b f (Some x) h e = cc

chosen : (b : Bench) (f : ℕ → Family) (o : Option NestRecord) → IsTrue (is_kind ConditionalKind (nest_kind o)) → conditional_member (family b f o) ≡ BlankMember → ⊥
chosen b f None h e = never h
chosen b f (Some (BlockRecord statements)) h e = never h
chosen b f (Some (ConditionalNestRecord c)) h e = cc
chosen b f (Some (CaseNestRecord c)) h e = never h
chosen b f (Some (LoopNestRecord l)) h e = never h

looped : (b : Bench) (f : ℕ → Family) (o : Option NestRecord) → IsTrue (is_kind LoopKind (nest_kind o)) → loop_member (family b f o) ≡ BlankMember → ⊥
looped b f None h e = never h
looped b f (Some (BlockRecord statements)) h e = never h
looped b f (Some (ConditionalNestRecord c)) h e = never h
looped b f (Some (CaseNestRecord c)) h e = never h
looped b f (Some (LoopNestRecord l)) h e = cc

set : (b : Bench) (o : Option Assignment) → (o ≡ None → ⊥) → assigned_tree b o ≡ BlankTree → ⊥
set b None h e = h refl
set b (Some a) h e = cc

driven : (b : Bench) (o : Option Assignment) → (o ≡ None → ⊥) → continuous_tree b o ≡ BlankTree → ⊥
driven b None h e = h refl
driven b (Some a) h e = cc

chosen_between : (b : Bench) (f : ℕ → Family) (o : Option NestRecord) → IsTrue (is_kind ConditionalKind (nest_kind o)) → conditional_statement (family b f o) ≡ BlankTree → ⊥
chosen_between b f None h e = never h
chosen_between b f (Some (BlockRecord statements)) h e = never h
chosen_between b f (Some (ConditionalNestRecord c)) h e = cc
chosen_between b f (Some (CaseNestRecord c)) h e = never h
chosen_between b f (Some (LoopNestRecord l)) h e = never h

selected : (b : Bench) (f : ℕ → Family) (o : Option NestRecord) → IsTrue (is_kind CaseStatementKind (nest_kind o)) → case_statement (family b f o) ≡ BlankTree → ⊥
selected b f None h e = never h
selected b f (Some (BlockRecord statements)) h e = never h
selected b f (Some (ConditionalNestRecord c)) h e = never h
selected b f (Some (CaseNestRecord c)) h e = cc
selected b f (Some (LoopNestRecord l)) h e = never h

block_at : (b : Bench) (i : ℕ) (o : Option NestRecord) → NestsSound b 0 b.nests → slice_get b.nests i ≡ o → IsTrue (is_kind BlockKind (nest_kind o)) →
    (statements : List Statement) × (slice_get b.nests i ≡ Some (BlockRecord statements)) × (block_in (families b i) ≡ block_in (family b (families b) (Some (BlockRecord statements))))
block_at b i None s e h = absurd (never h)
block_at b i (Some (BlockRecord statements)) s e h = (statements, e, ap block_in (family-at b i s ∙ ap (family b (families b)) e))
block_at b i (Some (ConditionalNestRecord c)) s e h = absurd (never h)
block_at b i (Some (CaseNestRecord c)) s e h = absurd (never h)
block_at b i (Some (LoopNestRecord l)) s e h = absurd (never h)

module _ (b : Bench) (s : NestsSound b 0 b.nests) where
  block_is_there : (c : VastStatementBlock) → OwnsBlock b c → BlockIsThere b c
  block_is_there c h = block_at b c.id.index (slice_get b.nests c.id.index) s refl h.of_kind

  maybe_block_is_there : (i : ℕ) (o : Option VastStatementBlock) → IfSome o (λ c. OwnsBlock b c × i < c.id.index) → IfSome o (BlockIsThere b)
  maybe_block_is_there i None h = tt
  maybe_block_is_there i (Some c) h = block_is_there c h.0

  is_defined : (d : Def) → OwnsDef b d → IsDefined b d
  is_defined d h = found b.definitions d.id.index (slice_get b.definitions d.id.index) h.of_kind refl

  fields_are_there : (t : DeclaredType) → TypedefSound b t → FieldsAreThere b t
  fields_are_there (EnumType data_type name entries) h = tt
  fields_are_there (StructType name fields) h = Each-map is_defined fields (Each-own (OwnsDef b) fields h)

  definition_is_there : (entry : Member) → MemberSound b entry → DefinitionIsThere b entry
  definition_is_there (DeclarationEntry kind name data_type) h = tt
  definition_is_there (AssignmentEntry a) h = tt
  definition_is_there (ParameterEntry local (PlainForm name) value) h = tt
  definition_is_there (ParameterEntry local (IntForm name) value) h = tt
  definition_is_there (ParameterEntry local (DefinedForm d) value) h = is_defined d h.0
  definition_is_there BlankEntry h = tt
  definition_is_there (CommentEntry a) h = tt
  definition_is_there (ImportEntry package_name) h = tt
  definition_is_there (TypedefEntry t) h = fields_are_there t h
  definition_is_there (InlineEntry a) h = tt
  definition_is_there (MacroEntry a) h = tt
  definition_is_there (InstanceEntry i) h = tt
  definition_is_there (FunctionEntry f) h = tt
  definition_is_there (AlwaysEntry a) h = tt
  definition_is_there (ConditionalEntry c) h = tt
  definition_is_there (LoopEntry l) h = tt

  member_shows : (entry : Member) → MemberSound b entry → member_tree b entry ≡ BlankMember → entry ≡ BlankEntry
  member_shows (DeclarationEntry kind name data_type) h e = cc
  member_shows (AssignmentEntry a) h e = absurd (assigned b (slice_get b.assignments a.id.index) h.of_kind e)
  member_shows (ParameterEntry local form value) h e = cc
  member_shows BlankEntry h e = refl
  member_shows (CommentEntry a) h e = absurd (commented b (slice_get b.artifacts a.id.index) h.of_kind e)
  member_shows (ImportEntry package_name) h e = cc
  member_shows (TypedefEntry t) h e = cc
  member_shows (InlineEntry a) h e = absurd (inlined b (slice_get b.artifacts a.id.index) h.of_kind e)
  member_shows (MacroEntry a) h e = absurd (called b (slice_get b.artifacts a.id.index) h.of_kind e)
  member_shows (InstanceEntry i) h e = absurd (instanced b (slice_get b.instances i.id.index) (present b.instances i.id.index h.of_kind) e)
  member_shows (FunctionEntry f) h e = absurd (declared b (families b) (slice_get b.functions f.id.index) (present b.functions f.id.index h.of_kind) e)
  member_shows (AlwaysEntry a) h e = absurd (waiting b (families b) (slice_get b.always_blocks a.id.index) (present b.always_blocks a.id.index h.of_kind) e)
  member_shows (ConditionalEntry c) h e = absurd (chosen b (families b) (slice_get b.nests c.id.index) h.of_kind (sym (ap conditional_member (family-at b c.id.index s)) ∙ e))
  member_shows (LoopEntry l) h e = absurd (looped b (families b) (slice_get b.nests l.id.index) h.of_kind (sym (ap loop_member (family-at b l.id.index s)) ∙ e))

  member_is_there : (entry : Member) → MemberSound b entry → MemberIsThere b entry
  member_is_there entry h = (member_shows entry h, definition_is_there entry h)

  statement_is_there : (i : ℕ) (entry : Statement) → StatementSound b i entry → StatementIsThere b entry
  statement_is_there i (AssignStatement a) h e = absurd (set b (slice_get b.assignments a.id.index) (present b.assignments a.id.index h.of_kind) e)
  statement_is_there i (ContinuousStatement a) h e = absurd (driven b (slice_get b.assignments a.id.index) (present b.assignments a.id.index h.of_kind) e)
  statement_is_there i (TaskStatement call) h e = cc
  statement_is_there i (ConditionalStatement c) h e = absurd (chosen_between b (families b) (slice_get b.nests c.id.index) h.0.of_kind (sym (ap conditional_statement (family-at b c.id.index s)) ∙ e))
  statement_is_there i (CasesStatement c) h e = absurd (selected b (families b) (slice_get b.nests c.id.index) h.0.of_kind (sym (ap case_statement (family-at b c.id.index s)) ∙ e))
  statement_is_there i (ForStatement l) h e = cc
  statement_is_there i BlankStatement h e = refl
  statement_is_there i (CommentStatement text) h e = cc
  statement_is_there i (InlineStatement text) h e = cc

  container_is_there : (i : ℕ) (n : NestRecord) → NestSound b i n → ContainerIsThere b n
  container_is_there i (BlockRecord statements) h = Each-map (statement_is_there i) statements h
  container_is_there i (ConditionalNestRecord c) h = (
    block_is_there c.consequent h.consequent.0,
    Each-map (λ arm h. block_is_there arm.block h.1.0) c.else_ifs h.else_ifs,
    maybe_block_is_there i c.otherwise h.otherwise,
  )
  container_is_there i (CaseNestRecord c) h = Each-map (λ arm h. block_is_there arm.block h.1.0) c.arms h.arms
  container_is_there i (LoopNestRecord l) h = Each-map (λ entry h. member_is_there entry h.0) l.members h.members

  containers_are_there : (i : ℕ) (ns : List NestRecord) → NestsSound b i ns → Each (ContainerIsThere b) ns
  containers_are_there i [] h = tt
  containers_are_there i (n ∷ ns) h = (container_is_there i n h.0, containers_are_there (suc i) ns h.1)

  port_is_there : (p : ModulePort) → OwnsPort b p → PortIsThere b p
  port_is_there p h = found b.ports p.id.index (slice_get b.ports p.id.index) h.of_kind refl

  module_is_there : (m : ModuleRecord) → ModuleSound b m → ModuleIsThere b m
  module_is_there m h = (Each-map port_is_there m.ports h.ports, Each-map member_is_there m.members h.members)

  maybe_module : (o : Option ModuleRecord) → (o ≡ None → ⊥) → maybe_module_tree b o ≡ BlankItem → ⊥
  maybe_module None h e = h refl
  maybe_module (Some m) h e = cc

  item_is_there : (entry : FileItem) → EntrySound b entry → ItemIsThere b entry
  item_is_there (ModuleEntry m) h = (λ e. absurd (maybe_module (slice_get b.modules m.id.index) (present b.modules m.id.index h.of_kind) e), tt)
  item_is_there (IncludeEntry path) h = (λ e. cc, tt)
  item_is_there (FileImportEntry package_name) h = (λ e. cc, tt)
  item_is_there (FileTypedefEntry t) h = (λ e. cc, fields_are_there t h)
  item_is_there (FileCommentEntry text) h = (λ e. cc, tt)
  item_is_there FileBlankEntry h = (λ e. refl, tt)

pub nothing_is_missing : (b : Bench) → RecordsSound b → NothingIsMissing b
nothing_is_missing b h = record {
  items = Each-map (item_is_there b h.nests) b.items h.items;
  modules = Each-map (module_is_there b h.nests) b.modules h.modules;
  containers = containers_are_there b h.nests 0 b.nests h.nests;
  functions = Each-map (λ f h1. block_is_there b h.nests f.body h1.body) b.functions h.functions;
  always_blocks = Each-map (λ a h1. block_is_there b h.nests a.block h1.block) b.always_blocks h.always_blocks;
}
