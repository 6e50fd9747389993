-- What a file holds after a call that adds an input or a local to a function.
use Rattle.std.specs.Prelude.{Bool, true, false, [], ◌∷◌, ◌++◌}
use Rattle.vast_literal.specs.Tree.{NameTree, Typed}
use Rattle.vast_core.specs.Handles.{VastFunction}
use Rattle.vast_core.specs.Records.{with_name, changed_at}
use Rattle.vast_core.specs.Nests.{FunctionVariable, FunctionRecord}
use Rattle.vast_core.specs.Bench.{Bench, type_of}
use Rattle.vast_core.specs.Growth.{with_expr}

-- An input or a local more at the end of its list, whose name is taken from then on.
abbrev pub with_listed_variable : (local : Bool) → FunctionVariable → FunctionRecord → FunctionRecord
with_listed_variable false v f = record f { inputs = f.inputs ++ v ∷ []; names = with_name v.name f.names }
with_listed_variable true v f = record f { locals = f.locals ++ v ∷ []; names = with_name v.name f.names }

-- The same in the file, with the name as an expression.
abbrev pub with_variable : VastFunction → (local : Bool) → FunctionVariable → Bench → Bench
with_variable f local v b = with_expr (NameTree v.name (Typed (type_of b v.data_type))) (record b { functions = changed_at f.id.index (with_listed_variable local v) b.functions })
