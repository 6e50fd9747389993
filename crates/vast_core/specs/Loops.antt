-- What a file holds after a call that adds an always block, a loop, a conditional or a function, or a loop's member.
use Rattle.std.specs.Prelude.{ℕ, List, [], ◌∷◌, ◌++◌, length, Option}
use Rattle.vast_literal.specs.Tree.{NameTree, Untyped, Typed}
use Rattle.vast_core.specs.Handles.{Expr, VastDataType, VastAlwaysBase, VastFunction, GenerateLoop}
use Rattle.vast_literal.specs.declared.kind.AlwaysKind.{AlwaysKind}
use Rattle.vast_core.specs.Records.{Member, with_name}
use Rattle.vast_core.specs.Nests.{NestRecord, LoopNestRecord, AlwaysRecord, FunctionRecord}
use Rattle.vast_core.specs.Bench.{Bench, type_of}
use Rattle.vast_core.specs.Growth.{next_id, next_logic_ref, with_expr}
use Rattle.vast_core.specs.Containers.{MemberEnters, next_block, with_nest, with_block, with_nest_entry}

abbrev pub next_always : Bench → VastAlwaysBase
next_always b = record { id = next_id b (length b.always_blocks) }

abbrev pub next_loop : Bench → GenerateLoop
next_loop b = record { id = next_id b (length b.nests) }

abbrev pub next_function : Bench → VastFunction
next_function b = record { id = next_id b (length b.functions) }

-- A loop with a member more at its end.
abbrev pub with_loop_member : GenerateLoop → Member → Bench → Bench
with_loop_member owner entry b = with_nest_entry owner.id.index (MemberEnters entry) b

-- An always block and its block, which is empty.
abbrev pub new_always : Bench → AlwaysKind → List Expr → AlwaysRecord
new_always b kind events = record { kind = kind; events = events; block = next_block b }

-- An always block more, with an empty block.
abbrev pub with_always : AlwaysKind → List Expr → Bench → Bench
with_always kind events b = record (with_block b) { always_blocks = b.always_blocks ++ new_always b kind events ∷ [] }

-- A loop without members, and its variable's name as an expression.
abbrev pub new_loop : Bench → List ℕ → Expr → Expr → Option (List ℕ) → NestRecord
new_loop b name start end label = LoopNestRecord (record { genvar = next_logic_ref b; name = name; start = start; end = end; label = label; members = [] })

-- A loop more, without members, and its variable's name as an expression.
abbrev pub with_loop : List ℕ → Expr → Expr → Option (List ℕ) → Bench → Bench
with_loop name start end label b = with_expr (NameTree name Untyped) (with_nest (new_loop b name start end label) b)

-- A function without inputs and locals, its empty body, and its result's name as an expression.
abbrev pub new_function : Bench → List ℕ → VastDataType → FunctionRecord
new_function b name result_type = record { name = name; result_type = result_type; result_name = next_logic_ref b; inputs = []; locals = []; body = next_block b; names = with_name name [] }

-- A function more, with an empty body and its result's name as an expression.
abbrev pub with_function : List ℕ → VastDataType → Bench → Bench
with_function name result_type b =
    with_expr (NameTree name (Typed (type_of b result_type))) (record (with_block b) { functions = b.functions ++ new_function b name result_type ∷ [] })
