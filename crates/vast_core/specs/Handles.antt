-- Handles as contracts name them, and their places in the arena of expressions and types.
use Rattle.std.specs.Prelude.{ℕ}
pub use Rattle.vast_core.specs.declared.handle.BlankLine.{BlankLine}
pub use Rattle.vast_core.specs.declared.handle.CaseStatement.{CaseStatement}
pub use Rattle.vast_core.specs.declared.handle.Comment.{Comment}
pub use Rattle.vast_core.specs.declared.handle.Conditional.{Conditional}
pub use Rattle.vast_core.specs.declared.handle.ContinuousAssignment.{ContinuousAssignment}
pub use Rattle.vast_core.specs.declared.handle.Def.{Def}
pub use Rattle.vast_core.specs.declared.handle.Expr.{Expr}
pub use Rattle.vast_core.specs.declared.handle.GenerateLoop.{GenerateLoop}
pub use Rattle.vast_core.specs.declared.handle.Id.{Id}
pub use Rattle.vast_core.specs.declared.handle.Index.{Index}
pub use Rattle.vast_core.specs.declared.handle.IndexableExpr.{IndexableExpr}
pub use Rattle.vast_core.specs.declared.handle.InlineVerilogStatement.{InlineVerilogStatement}
pub use Rattle.vast_core.specs.declared.handle.Instantiation.{Instantiation}
pub use Rattle.vast_core.specs.declared.handle.LocalparamRef.{LocalparamRef}
pub use Rattle.vast_core.specs.declared.handle.LogicRef.{LogicRef}
pub use Rattle.vast_core.specs.declared.handle.MacroRef.{MacroRef}
pub use Rattle.vast_core.specs.declared.handle.MacroStatement.{MacroStatement}
pub use Rattle.vast_core.specs.declared.handle.ModulePort.{ModulePort}
pub use Rattle.vast_core.specs.declared.handle.ParameterRef.{ParameterRef}
pub use Rattle.vast_core.specs.declared.handle.Slice.{Slice}
pub use Rattle.vast_core.specs.declared.handle.VastAlwaysBase.{VastAlwaysBase}
pub use Rattle.vast_core.specs.declared.handle.VastDataType.{VastDataType}
pub use Rattle.vast_core.specs.declared.handle.VastFunction.{VastFunction}
pub use Rattle.vast_core.specs.declared.handle.VastModule.{VastModule}
pub use Rattle.vast_core.specs.declared.handle.VastStatement.{VastStatement}
pub use Rattle.vast_core.specs.declared.handle.VastStatementBlock.{VastStatementBlock}

-- A number that is larger than those of a node's children: its place in the arena of expressions and types.
abbrev pub rank : Expr → ℕ
rank e = e.id.index

abbrev pub type_rank : VastDataType → ℕ
type_rank t = t.id.index
