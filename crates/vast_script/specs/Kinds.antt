-- The kinds of handles: which answers may stand for one, and which are the file's.
use Rattle.std.specs.Prelude.{Bool, ◌&&◌, ◌==◌, nat_lt, length, slice_get, Option, Some, None}
use Rattle.vast_core.specs.declared.handle.Id.{Id}
use Rattle.vast_core.specs.declared.handle.VastModule.{VastModule as ModuleHandle}
use Rattle.vast_core.specs.declared.handle.VastFunction.{VastFunction as FunctionHandle}
use Rattle.vast_core.specs.declared.handle.VastDataType.{VastDataType as TypeHandle}
use Rattle.vast_core.specs.declared.handle.Expr.{Expr as ExprHandle}
use Rattle.vast_core.specs.declared.handle.IndexableExpr.{IndexableExpr as IndexableHandle}
use Rattle.vast_core.specs.declared.handle.LogicRef.{LogicRef as LogicRefHandle}
use Rattle.vast_core.specs.declared.handle.MacroRef.{MacroRef as MacroRefHandle}
use Rattle.vast_core.specs.declared.handle.Def.{Def as DefinitionHandle}
use Rattle.vast_core.specs.declared.handle.BlankLine.{BlankLine as BlankLineHandle}
use Rattle.vast_core.specs.declared.handle.Comment.{Comment as CommentHandle}
use Rattle.vast_core.specs.declared.handle.InlineVerilogStatement.{InlineVerilogStatement as InlineHandle}
use Rattle.vast_core.specs.declared.handle.MacroStatement.{MacroStatement as MacroStatementHandle}
use Rattle.vast_core.specs.declared.handle.Instantiation.{Instantiation as InstantiationHandle}
use Rattle.vast_core.specs.declared.handle.ContinuousAssignment.{ContinuousAssignment as ContinuousHandle}
use Rattle.vast_core.specs.declared.handle.VastAlwaysBase.{VastAlwaysBase as AlwaysHandle}
use Rattle.vast_core.specs.declared.handle.VastStatementBlock.{VastStatementBlock as BlockHandle}
use Rattle.vast_core.specs.declared.handle.Conditional.{Conditional as ConditionalHandle}
use Rattle.vast_core.specs.declared.handle.CaseStatement.{CaseStatement as CaseHandle}
use Rattle.vast_core.specs.declared.handle.GenerateLoop.{GenerateLoop as LoopHandle}
use Rattle.vast_core.specs.Nodes.{is_expr_root, is_type_root, is_macro, is_name}
use Rattle.vast_core.specs.Bench.{Bench, has_root, is_continuous, is_blank_line, is_comment, is_inline, is_macro_statement}
use Rattle.vast_core.specs.Nests.{nest_kind, is_kind, BlockKind, ConditionalKind, CaseStatementKind, LoopKind}
use Rattle.vast_script.specs.declared.answer.Answer.{Answer}
use Rattle.vast_script.specs.declared.answer.Answer.TheVariants.{BlankLine, CaseStatement, Comment, Conditional, ContinuousAssignment, Def, Expr, GenerateLoop, Index, IndexableExpr, InlineVerilogStatement, Instantiation, LocalparamRef, LogicRef, MacroRef, MacroStatement, ParameterRef, Slice, VastAlwaysBase, VastDataType, VastFunction, VastModule, VastStatementBlock}

-- A kind of handle: which answers may stand for one, and the test that it is the file's.
pub record Kind (H : Type 0) : Type 0 where
  -- the handle that an answer is, if it is of the kind
  pub of_answer : Answer → Option H
  -- the handle is the file's
  pub is_own : Bench → H → Bool

abbrev pub is_own_id : Bench → Id → Bool → Bool
is_own_id b id of_its_kind = (id.file_id == b.nodes.id) && of_its_kind

-- Where an expression is wanted, all that converts to one is taken.
abbrev pub expr_of : Answer → Option ExprHandle
expr_of (Expr e) = Some e
expr_of (LogicRef r) = Some (record { id = r.id })
expr_of (IndexableExpr r) = Some (record { id = r.id })
expr_of (Slice r) = Some (record { id = r.id })
expr_of (Index r) = Some (record { id = r.id })
expr_of (ParameterRef r) = Some (record { id = r.id })
expr_of (LocalparamRef r) = Some (record { id = r.id })
expr_of (MacroRef r) = Some (record { id = r.id })
expr_of _ = None

abbrev pub indexable_of : Answer → Option IndexableHandle
indexable_of (IndexableExpr r) = Some r
indexable_of (LogicRef r) = Some (record { id = r.id })
indexable_of (Index r) = Some (record { id = r.id })
indexable_of (ParameterRef r) = Some (record { id = r.id })
indexable_of _ = None

-- An expression, for which all that convert to one may stand.
abbrev pub an_expr : Kind ExprHandle
an_expr = record { of_answer = expr_of; is_own = λ b e. is_own_id b e.id (is_expr_root (slice_get b.nodes.roots e.id.index)) }

abbrev pub an_indexable : Kind IndexableHandle
an_indexable = record { of_answer = indexable_of; is_own = λ b e. is_own_id b e.id (is_expr_root (slice_get b.nodes.roots e.id.index)) }

-- Of each other kind only its own answers are taken.
abbrev pub a_module : Kind ModuleHandle
a_module = record { of_answer = λ a. elim a [ VastModule m ↦ Some m | _ ↦ None ]; is_own = λ b m. is_own_id b m.id (nat_lt m.id.index (length b.modules)) }

abbrev pub a_function : Kind FunctionHandle
a_function = record { of_answer = λ a. elim a [ VastFunction f ↦ Some f | _ ↦ None ]; is_own = λ b f. is_own_id b f.id (nat_lt f.id.index (length b.functions)) }

abbrev pub a_type : Kind TypeHandle
a_type = record { of_answer = λ a. elim a [ VastDataType t ↦ Some t | _ ↦ None ]; is_own = λ b t. is_own_id b t.id (is_type_root (slice_get b.nodes.roots t.id.index)) }

abbrev pub a_logic_ref : Kind LogicRefHandle
a_logic_ref = record { of_answer = λ a. elim a [ LogicRef r ↦ Some r | _ ↦ None ]; is_own = λ b r. is_own_id b r.id (has_root is_name b r.id.index) }

abbrev pub a_macro_ref : Kind MacroRefHandle
a_macro_ref = record { of_answer = λ a. elim a [ MacroRef r ↦ Some r | _ ↦ None ]; is_own = λ b r. is_own_id b r.id (has_root is_macro b r.id.index) }

abbrev pub a_definition : Kind DefinitionHandle
a_definition = record { of_answer = λ a. elim a [ Def d ↦ Some d | _ ↦ None ]; is_own = λ b d. is_own_id b d.id (nat_lt d.id.index (length b.definitions)) }

abbrev pub a_blank_line : Kind BlankLineHandle
a_blank_line = record { of_answer = λ a. elim a [ BlankLine a ↦ Some a | _ ↦ None ]; is_own = λ b a. is_own_id b a.id (is_blank_line (slice_get b.artifacts a.id.index)) }

abbrev pub a_comment : Kind CommentHandle
a_comment = record { of_answer = λ a. elim a [ Comment a ↦ Some a | _ ↦ None ]; is_own = λ b a. is_own_id b a.id (is_comment (slice_get b.artifacts a.id.index)) }

abbrev pub an_inline : Kind InlineHandle
an_inline = record { of_answer = λ a. elim a [ InlineVerilogStatement a ↦ Some a | _ ↦ None ]; is_own = λ b a. is_own_id b a.id (is_inline (slice_get b.artifacts a.id.index)) }

abbrev pub a_macro_statement : Kind MacroStatementHandle
a_macro_statement = record { of_answer = λ a. elim a [ MacroStatement a ↦ Some a | _ ↦ None ]; is_own = λ b a. is_own_id b a.id (is_macro_statement (slice_get b.artifacts a.id.index)) }

abbrev pub an_instantiation : Kind InstantiationHandle
an_instantiation = record { of_answer = λ a. elim a [ Instantiation i ↦ Some i | _ ↦ None ]; is_own = λ b i. is_own_id b i.id (nat_lt i.id.index (length b.instances)) }

abbrev pub a_continuous : Kind ContinuousHandle
a_continuous = record { of_answer = λ a. elim a [ ContinuousAssignment a ↦ Some a | _ ↦ None ]; is_own = λ b a. is_own_id b a.id (is_continuous (slice_get b.assignments a.id.index)) }

abbrev pub an_always : Kind AlwaysHandle
an_always = record { of_answer = λ a. elim a [ VastAlwaysBase a ↦ Some a | _ ↦ None ]; is_own = λ b a. is_own_id b a.id (nat_lt a.id.index (length b.always_blocks)) }

abbrev pub a_block : Kind BlockHandle
a_block = record { of_answer = λ a. elim a [ VastStatementBlock c ↦ Some c | _ ↦ None ]; is_own = λ b c. is_own_id b c.id (is_kind BlockKind (nest_kind (slice_get b.nests c.id.index))) }

abbrev pub a_conditional : Kind ConditionalHandle
a_conditional = record { of_answer = λ a. elim a [ Conditional c ↦ Some c | _ ↦ None ]; is_own = λ b c. is_own_id b c.id (is_kind ConditionalKind (nest_kind (slice_get b.nests c.id.index))) }

abbrev pub a_case : Kind CaseHandle
a_case = record { of_answer = λ a. elim a [ CaseStatement c ↦ Some c | _ ↦ None ]; is_own = λ b c. is_own_id b c.id (is_kind CaseStatementKind (nest_kind (slice_get b.nests c.id.index))) }

abbrev pub a_loop : Kind LoopHandle
a_loop = record { of_answer = λ a. elim a [ GenerateLoop c ↦ Some c | _ ↦ None ]; is_own = λ b c. is_own_id b c.id (is_kind LoopKind (nest_kind (slice_get b.nests c.id.index))) }
