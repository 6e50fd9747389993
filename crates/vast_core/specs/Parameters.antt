-- What a file holds after a call that adds a parameter, and the handle of the parameter's name.
use Rattle.std.specs.Prelude.{ℕ, List, [], Option, Some, None, slice_get}
use Rattle.vast_literal.specs.Tree.{ExprTree, NameTree, Untyped, Typed}
use Rattle.vast_core.specs.Handles.{Expr, VastModule, VastDataType}
use Rattle.vast_core.specs.Nodes.{maybe_type_in}
use Rattle.vast_core.specs.Records.{Definition, ParameterForm, PlainForm, IntForm, DefinedForm, with_listed_parameter, changed_at}
use Rattle.vast_core.specs.Bench.{Bench, type_of}
use Rattle.vast_core.specs.Growth.{with_expr}

-- A parameter more in the module's header: its place at the end, and its name as an expression.
abbrev pub with_parameter_port : VastModule → List ℕ → Option VastDataType → Expr → Bench → Bench
with_parameter_port m name data_type value b =
    with_expr (NameTree name (maybe_type_in b.nodes data_type)) (record b { modules = changed_at m.id.index (with_listed_parameter (record { name = name; data_type = data_type; value = value })) b.modules })

-- A definition's name as an expression, of the definition's type.
abbrev pub defined_name : Bench → Option Definition → ExprTree
defined_name b None = NameTree [] Untyped
defined_name b (Some d) = NameTree d.name (Typed (type_of b d.data_type))

-- The name of what the form declares, as an expression.
abbrev pub form_name : Bench → ParameterForm → ExprTree
form_name b (PlainForm name) = NameTree name Untyped
form_name b (IntForm name) = NameTree name Untyped
form_name b (DefinedForm d) = defined_name b (slice_get b.definitions d.id.index)
