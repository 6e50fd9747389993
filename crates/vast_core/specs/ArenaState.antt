-- What an Ast holds, node by node, and how many nodes fit before an arena has to grow.
use Rattle.std.specs.Prelude.{ℕ, List, Option}
use Rattle.vast_core.specs.Handles.{VastStatementBlock}
use Rattle.vast_literal.specs.declared.kind.VastFileType.{VastFileType}
use Rattle.vast_core.specs.declared.node.ExprNode.{ExprNode}
use Rattle.vast_core.specs.declared.node.Nest.{Nest}
use Rattle.vast_core.specs.declared.node.Port.{Port}
use Rattle.vast_core.specs.declared.node.Assignment.{Assignment}
use Rattle.vast_core.specs.declared.node.Module.{Module}
use Rattle.vast_core.specs.declared.node.Function.{Function}
use Rattle.vast_core.specs.declared.node.Definition.{Definition}
use Rattle.vast_core.specs.declared.node.Artifact.{Artifact}
use Rattle.vast_core.specs.declared.node.Instance.{Instance}
use Rattle.vast_core.specs.declared.node.AlwaysBlock.{AlwaysBlock}
use Rattle.vast_core.specs.declared.node.FileItem.{FileItem}

-- What an `Ast` holds, node by node.
pub record ArenaState : Type 0 where
  pub file_type : VastFileType
  pub id : ℕ
  pub terms : List ExprNode
  pub term_room : ℕ
  pub nests : List Nest
  pub ports : List Port
  pub assignments : List Assignment
  pub modules : List Module
  pub functions : List Function
  pub definitions : List Definition
  pub artifacts : List Artifact
  pub instances : List Instance
  pub always_blocks : List AlwaysBlock
  pub items : List FileItem
  pub detached : Option VastStatementBlock
  pub assignment_room : ℕ
  pub nest_room : ℕ
  pub function_room : ℕ
  pub always_block_room : ℕ
  pub port_room : ℕ
  pub module_room : ℕ
  pub definition_room : ℕ
  pub artifact_room : ℕ
  pub instance_room : ℕ
