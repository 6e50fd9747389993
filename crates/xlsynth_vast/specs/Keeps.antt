-- What stays as a file grows: no call undoes any of it, whether it makes something or is refused.
use Rattle.std.specs.Prelude.{◌≡◌}
use Rattle.vast_core.specs.declared.handle.Expr.{Expr}
use Rattle.vast_core.specs.declared.handle.VastDataType.{VastDataType}
use Rattle.vast_core.specs.declared.handle.LogicRef.{LogicRef}
use Rattle.vast_core.specs.declared.handle.ParameterRef.{ParameterRef}
use Rattle.vast_core.specs.declared.handle.LocalparamRef.{LocalparamRef}
use Rattle.vast_core.specs.declared.handle.Index.{Index}
use Rattle.vast_core.specs.declared.handle.Slice.{Slice}
use Rattle.vast_core.specs.declared.handle.MacroRef.{MacroRef}
use Rattle.vast_core.specs.declared.handle.IndexableExpr.{IndexableExpr}
use Rattle.vast_core.specs.declared.handle.VastModule.{VastModule}
use Rattle.vast_core.specs.declared.handle.ModulePort.{ModulePort}
use Rattle.vast_core.specs.declared.handle.VastFunction.{VastFunction}
use Rattle.vast_core.specs.declared.handle.Instantiation.{Instantiation}
use Rattle.vast_core.specs.declared.handle.VastAlwaysBase.{VastAlwaysBase}
use Rattle.vast_core.specs.declared.handle.Def.{Def}
use Rattle.vast_core.specs.declared.handle.VastStatement.{VastStatement}
use Rattle.vast_core.specs.declared.handle.ContinuousAssignment.{ContinuousAssignment}
use Rattle.vast_core.specs.declared.handle.BlankLine.{BlankLine}
use Rattle.vast_core.specs.declared.handle.Comment.{Comment}
use Rattle.vast_core.specs.declared.handle.InlineVerilogStatement.{InlineVerilogStatement}
use Rattle.vast_core.specs.declared.handle.MacroStatement.{MacroStatement}
use Rattle.vast_core.specs.declared.handle.VastStatementBlock.{VastStatementBlock}
use Rattle.vast_core.specs.declared.handle.Conditional.{Conditional}
use Rattle.vast_core.specs.declared.handle.CaseStatement.{CaseStatement}
use Rattle.vast_core.specs.declared.handle.GenerateLoop.{GenerateLoop}
use Rattle.vast_core.specs.Bench.{Bench, tree_of, type_of, OwnsExpr, OwnsType, OwnsLogicRef, OwnsParameterRef, OwnsLocalparamRef, OwnsIndex, OwnsSlice, OwnsMacroRef, OwnsIndexable, OwnsModule, OwnsPort, OwnsFunction, OwnsInstantiation, OwnsAlways, OwnsDef, OwnsStatement, OwnsContinuous, OwnsBlankLine, OwnsComment, OwnsInline, OwnsMacroStatement, OwnsBlock, OwnsConditional, OwnsCase, OwnsLoop}
use Rattle.vast_print.specs.Text.{expr_text}

-- The file is of the same dialect and has the same id; it owns what it owned; its expressions and types are what they
-- were, and each of its expressions is printed as the same text, or refused the same. So a usable width stays one, and a
-- type that can be packed, or cast to, too. A name that was free may be taken since, and a conditional have its `else`.
pub record Keeps (b c : Bench) : Type 0 where
  pub file_type : c.file_type ≡ b.file_type
  pub id : c.nodes.id ≡ b.nodes.id
  pub exprs : (e : Expr) → OwnsExpr b e → OwnsExpr c e
  pub trees : (e : Expr) → OwnsExpr b e → tree_of c e ≡ tree_of b e
  pub texts : (e : Expr) → OwnsExpr b e → expr_text (tree_of c e) ≡ expr_text (tree_of b e)
  pub types : (t : VastDataType) → OwnsType b t → OwnsType c t
  pub type_trees : (t : VastDataType) → OwnsType b t → type_of c t ≡ type_of b t
  pub logic_refs : (r : LogicRef) → OwnsLogicRef b r → OwnsLogicRef c r
  pub parameters : (r : ParameterRef) → OwnsParameterRef b r → OwnsParameterRef c r
  pub localparams : (r : LocalparamRef) → OwnsLocalparamRef b r → OwnsLocalparamRef c r
  pub indexes : (r : Index) → OwnsIndex b r → OwnsIndex c r
  pub slices : (r : Slice) → OwnsSlice b r → OwnsSlice c r
  pub macro_refs : (r : MacroRef) → OwnsMacroRef b r → OwnsMacroRef c r
  pub indexables : (e : IndexableExpr) → OwnsIndexable b e → OwnsIndexable c e
  pub modules : (m : VastModule) → OwnsModule b m → OwnsModule c m
  pub ports : (p : ModulePort) → OwnsPort b p → OwnsPort c p
  pub functions : (f : VastFunction) → OwnsFunction b f → OwnsFunction c f
  pub instantiations : (i : Instantiation) → OwnsInstantiation b i → OwnsInstantiation c i
  pub always_blocks : (a : VastAlwaysBase) → OwnsAlways b a → OwnsAlways c a
  pub definitions : (d : Def) → OwnsDef b d → OwnsDef c d
  pub statements : (s : VastStatement) → OwnsStatement b s → OwnsStatement c s
  pub continuous : (a : ContinuousAssignment) → OwnsContinuous b a → OwnsContinuous c a
  pub blank_lines : (a : BlankLine) → OwnsBlankLine b a → OwnsBlankLine c a
  pub comments : (a : Comment) → OwnsComment b a → OwnsComment c a
  pub inlines : (a : InlineVerilogStatement) → OwnsInline b a → OwnsInline c a
  pub macro_statements : (a : MacroStatement) → OwnsMacroStatement b a → OwnsMacroStatement c a
  pub blocks : (x : VastStatementBlock) → OwnsBlock b x → OwnsBlock c x
  pub conditionals : (x : Conditional) → OwnsConditional b x → OwnsConditional c x
  pub cases : (x : CaseStatement) → OwnsCase b x → OwnsCase c x
  pub loops : (x : GenerateLoop) → OwnsLoop b x → OwnsLoop c x
