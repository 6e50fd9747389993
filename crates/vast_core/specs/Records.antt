-- Modules and instantiations in contracts: the records of their nodes. Ports, assignments, members, definitions, artifacts
-- and items of a file are the nodes themselves.
use Rattle.std.specs.Prelude.{◌≢◌, ℕ, zero, suc, List, [], ◌∷◌, ◌++◌, fold, All, string_bytes}
use Rattle.std.specs.Ordering.{nat_cmp}
use Rattle.std.specs.Cmp.Lexicographic.{slice_cmp}
use Rattle.std.specs.BTreeSet.{insert_key}
use Rattle.vast_core.specs.Handles.{ModulePort}
pub use Rattle.vast_core.specs.declared.node.Port.{Port}
pub use Rattle.vast_core.specs.declared.node.Assignment.{Assignment}
pub use Rattle.vast_core.specs.declared.node.ParameterForm.{ParameterForm}
pub use Rattle.vast_core.specs.declared.node.ParameterForm.TheVariants.{Plain as PlainForm, Int as IntForm, Defined as DefinedForm}
pub use Rattle.vast_core.specs.declared.node.Member.{Member}
pub use Rattle.vast_core.specs.declared.node.Member.TheVariants.{Declaration as DeclarationEntry, ContinuousAssignment as AssignmentEntry, Parameter as ParameterEntry, BlankLine as BlankEntry, Comment as CommentEntry, Import as ImportEntry, Typedef as TypedefEntry, Inline as InlineEntry, Macro as MacroEntry, Instantiation as InstanceEntry, Function as FunctionEntry, Always as AlwaysEntry, Conditional as ConditionalEntry, Loop as LoopEntry}
pub use Rattle.vast_core.specs.declared.node.ParameterPort.{ParameterPort}
pub use Rattle.vast_core.specs.declared.node.FileItem.{FileItem}
pub use Rattle.vast_core.specs.declared.node.FileItem.TheVariants.{Module as ModuleEntry, Include as IncludeEntry, Import as FileImportEntry, Typedef as FileTypedefEntry, Comment as FileCommentEntry, BlankLine as FileBlankEntry}
pub use Rattle.vast_core.specs.declared.typedef.DeclaredType.{DeclaredType}
pub use Rattle.vast_core.specs.declared.typedef.DeclaredType.TheVariants.{Enum as EnumType, Struct as StructType}
pub use Rattle.vast_core.specs.declared.node.Definition.{Definition}
pub use Rattle.vast_core.specs.declared.node.Artifact.{Artifact}
pub use Rattle.vast_core.specs.declared.node.Artifact.TheVariants.{BlankLine as BlankArtifact, Comment as CommentArtifact, Inline as InlineArtifact, MacroStatement as MacroArtifact}
pub use Rattle.vast_core.specs.declared.node.Connection.{Connection}
use Rattle.vast_core.specs.declared.node.Module.{Module}
use Rattle.vast_core.specs.declared.node.Instance.{Instance}

-- A module; its names are in byte order, each once.
pub record ModuleRecord : Type 0 where
  pub name : List ℕ
  pub parameters : List ParameterPort
  pub ports : List ModulePort
  pub members : List Member
  pub names : List (List ℕ)

-- An instantiation: its names, its parameters and its connections.
pub record InstanceRecord : Type 0 where
  pub module_name : List ℕ
  pub instance_name : List ℕ
  pub parameters : List Connection
  pub connections : List Connection

-- The set with a name more, at its place in byte order.
abbrev pub with_name : List ℕ → List (List ℕ) → List (List ℕ)
with_name name names = insert_key (slice_cmp nat_cmp) names name

-- The names in byte order, each once.
abbrev pub in_byte_order : List (List ℕ) → List (List ℕ)
in_byte_order names = fold (λ sorted name. with_name name sorted) [] names

-- The records of nodes.

abbrev pub module_record : Module → ModuleRecord
module_record m = record { name = string_bytes m.name; parameters = m.parameters.items; ports = m.ports.items; members = m.members.items; names = in_byte_order m.names }

abbrev pub instance_record : Instance → InstanceRecord
instance_record i = record { module_name = string_bytes i.module_name; instance_name = string_bytes i.instance_name; parameters = i.parameters.items; connections = i.connections.items }

-- The name of a type that is declared.
abbrev pub declared_name : DeclaredType → List ℕ
declared_name (EnumType data_type name entries) = name
declared_name (StructType name fields) = name

-- No name of the set is this one.
abbrev pub IsFree : List ℕ → List (List ℕ) → Type 0
IsFree name names = All (λ taken. taken ≢ name) names

abbrev pub new_module : List ℕ → ModuleRecord
new_module name = record { name = name; parameters = []; ports = []; members = []; names = [] }

-- A port more at the end of the module's ports, whose name is taken from then on.
abbrev pub with_listed_port : ModulePort → List ℕ → ModuleRecord → ModuleRecord
with_listed_port port name m = record m { ports = m.ports ++ port ∷ []; names = with_name name m.names }

-- A parameter more at the end of the module's header.
abbrev pub with_listed_parameter : ParameterPort → ModuleRecord → ModuleRecord
with_listed_parameter p m = record m { parameters = m.parameters ++ p ∷ [] }

-- A member more at the end of the module's members.
abbrev pub with_listed_member : Member → ModuleRecord → ModuleRecord
with_listed_member entry m = record m { members = m.members ++ entry ∷ [] }

-- The same, with a name that is taken from then on.
abbrev pub with_listed_name : Member → List ℕ → ModuleRecord → ModuleRecord
with_listed_name entry name m = record m { members = m.members ++ entry ∷ []; names = with_name name m.names }

-- The list with its element i changed by f.
abbrev pub changed_at : {A : Type 0} → ℕ → (A → A) → List A → List A
changed_at i f [] = []
changed_at zero f (x ∷ xs) = f x ∷ xs
changed_at (suc i) f (x ∷ xs) = x ∷ changed_at i f xs
