-- Nothing that a file's lists name is missing from its tree: where a tree has a part for what is missing, none has it.
use Rattle.std.specs.Prelude.{◌≡◌, ⊤, List, Some, IfSome, slice_get}
use Rattle.vast_literal.specs.Tree.{BlankMember, BlankTree, BlankItem}
use Rattle.vast_core.specs.declared.handle.Def.{Def}
use Rattle.vast_core.specs.declared.handle.ModulePort.{ModulePort}
use Rattle.vast_core.specs.declared.handle.VastStatementBlock.{VastStatementBlock}
use Rattle.vast_core.specs.declared.node.ElseIf.{ElseIf}
use Rattle.vast_core.specs.declared.node.CaseArm.{CaseArm}
use Rattle.vast_core.specs.Records.{ModuleRecord}
use Rattle.vast_core.specs.declared.typedef.DeclaredType.{DeclaredType}
use Rattle.vast_core.specs.declared.typedef.DeclaredType.TheVariants.{Struct as StructType}
use Rattle.vast_core.specs.declared.node.Definition.{Definition}
use Rattle.vast_core.specs.declared.node.FileItem.{FileItem}
use Rattle.vast_core.specs.declared.node.FileItem.TheVariants.{Typedef as FileTypedefEntry, BlankLine as FileBlankEntry}
use Rattle.vast_core.specs.declared.node.Port.{Port}
use Rattle.vast_core.specs.declared.node.Member.{Member}
use Rattle.vast_core.specs.declared.node.Member.TheVariants.{Parameter as ParameterEntry, Typedef as TypedefEntry, BlankLine as BlankEntry}
use Rattle.vast_core.specs.declared.node.ParameterForm.TheVariants.{Defined as DefinedForm}
use Rattle.vast_core.specs.Nests.{ConditionalRecord, NestRecord, BlockRecord, ConditionalNestRecord, CaseNestRecord, LoopNestRecord, FunctionRecord, AlwaysRecord}
use Rattle.vast_core.specs.declared.node.Statement.{Statement}
use Rattle.vast_core.specs.declared.node.Statement.TheVariants.{BlankLine as BlankStatement}
use Rattle.vast_core.specs.Bench.{Bench}
use Rattle.vast_core.specs.FileTree.{families, statement_in, statements_tree, block_tree, member_tree, item_tree}
use Rattle.vast_core.specs.Sound.{Each}

-- A definition of the file's, and one for each field of a structure.
abbrev pub IsDefined : Bench → Def → Type 0
IsDefined b d = (found : Definition) × (slice_get b.definitions d.id.index ≡ Some found)

abbrev pub FieldsAreThere : Bench → DeclaredType → Type 0
FieldsAreThere b (StructType name fields) = Each (IsDefined b) fields
FieldsAreThere b _ = ⊤

-- Only a blank line is a blank line in the tree.

abbrev pub ItemFieldsAreThere : Bench → FileItem → Type 0
ItemFieldsAreThere b (FileTypedefEntry t) = FieldsAreThere b t
ItemFieldsAreThere b _ = ⊤

abbrev pub ItemIsThere : Bench → FileItem → Type 0
ItemIsThere b entry = (item_tree b entry ≡ BlankItem → entry ≡ FileBlankEntry) × ItemFieldsAreThere b entry

-- A parameter that is made by a definition has one of the file's.
abbrev pub DefinitionIsThere : Bench → Member → Type 0
DefinitionIsThere b (ParameterEntry local (DefinedForm d) value) = IsDefined b d
DefinitionIsThere b (TypedefEntry t) = FieldsAreThere b t
DefinitionIsThere b _ = ⊤

abbrev pub MemberIsThere : Bench → Member → Type 0
MemberIsThere b entry = (member_tree b entry ≡ BlankMember → entry ≡ BlankEntry) × DefinitionIsThere b entry

abbrev pub StatementIsThere : Bench → Statement → Type 0
StatementIsThere b entry = statement_in b (families b) entry ≡ BlankTree → entry ≡ BlankStatement

-- A block has the statements that the file has for it.
abbrev pub BlockIsThere : Bench → VastStatementBlock → Type 0
BlockIsThere b block = (statements : List Statement) × (slice_get b.nests block.id.index ≡ Some (BlockRecord statements)) × (block_tree b block ≡ statements_tree b statements)

abbrev pub PortIsThere : Bench → ModulePort → Type 0
PortIsThere b port = (found : Port) × (slice_get b.ports port.id.index ≡ Some found)

abbrev pub ModuleIsThere : Bench → ModuleRecord → Type 0
ModuleIsThere b m = Each (PortIsThere b) m.ports × Each (MemberIsThere b) m.members

abbrev pub ConditionalIsThere : Bench → ConditionalRecord → Type 0
ConditionalIsThere b c = BlockIsThere b c.consequent × Each (λ (arm : ElseIf). BlockIsThere b arm.block) c.else_ifs × IfSome c.otherwise (BlockIsThere b)

abbrev pub ContainerIsThere : Bench → NestRecord → Type 0
ContainerIsThere b (BlockRecord statements) = Each (StatementIsThere b) statements
ContainerIsThere b (ConditionalNestRecord c) = ConditionalIsThere b c
ContainerIsThere b (CaseNestRecord c) = Each (λ (arm : CaseArm). BlockIsThere b arm.block) c.arms
ContainerIsThere b (LoopNestRecord l) = Each (MemberIsThere b) l.members

-- What items, modules and containers name is there: only a blank line is a blank line in the file's tree.
pub record NothingIsMissing (b : Bench) : Type 0 where
  pub items : Each (ItemIsThere b) b.items
  pub modules : Each (ModuleIsThere b) b.modules
  pub containers : Each (ContainerIsThere b) b.nests
  pub functions : Each (λ (f : FunctionRecord). BlockIsThere b f.body) b.functions
  pub always_blocks : Each (λ (a : AlwaysRecord). BlockIsThere b a.block) b.always_blocks
