-- Which functions, inputs and locals are refused, and what a file holds after a call that adds a function.
use Rattle.std.specs.Prelude.{ℕ, Bool, true, false, List, [], ◌++◌, Option, Some, None, Result, Ok, Err, codes, slice_get, if◌then◌else◌}
use Rattle.vast_literal.specs.Keyword.{is_among}
use Rattle.vast_literal.specs.Tree.{TypeTree, UnpackedTree}
use Rattle.vast_core.specs.declared.handle.VastModule.{VastModule}
use Rattle.vast_core.specs.declared.handle.VastFunction.{VastFunction}
use Rattle.vast_core.specs.declared.handle.VastDataType.{VastDataType}
use Rattle.vast_core.specs.declared.node.Member.TheVariants.{Function as FunctionEntry}
use Rattle.vast_core.specs.Nests.{FunctionRecord}
use Rattle.vast_core.specs.Bench.{Bench, function_names}
use Rattle.vast_core.specs.Growth.{with_named_member}
use Rattle.vast_core.specs.Loops.{next_function, with_function}
use Rattle.vast_literal.specs.Literal.{and_then}
use Rattle.xlsynth_vast.specs.Declarations.{listed_names, unless_taken}

-- An unpacked array is no type of a function's result.
abbrev pub is_unpacked : TypeTree → Bool
is_unpacked (UnpackedTree element dimensions) = true
is_unpacked _ = false

abbrev pub unless_unpacked : TypeTree → Result (Unit {0}) (List ℕ)
unless_unpacked t = if is_unpacked t then Err (codes "FAILED_PRECONDITION: function result type must not be an anonymous unpacked array; use a named typedef") else Ok tt

-- The type of the result is looked at first, then the name.
abbrev pub may_be_function : TypeTree → (name : List ℕ) (names : List (List ℕ)) → Result (Unit {0}) (List ℕ)
may_be_function t name names = and_then (unless_unpacked t) (λ _. unless_taken (codes "function") name names)

-- A function more as the module's last member, whose name is taken from then on.
abbrev pub with_function_member : VastModule → List ℕ → VastDataType → Bench → Bench
with_function_member owner name result_type b = with_named_member owner (FunctionEntry (next_function b)) name (with_function name result_type b)

-- The name of a function, and the names of its result, inputs and locals, in the order of their bytes.
abbrev pub function_name : Option FunctionRecord → List ℕ
function_name None = []
function_name (Some f) = f.name

abbrev pub own_name_of : Bench → VastFunction → List ℕ
own_name_of b f = function_name (slice_get b.functions f.id.index)

abbrev pub names_of_function : Bench → VastFunction → List (List ℕ)
names_of_function b f = function_names (slice_get b.functions f.id.index)

-- The words that refuse a declaration of this kind in a function, and name all that the function has.
unfoldable pub declared_in_function : (kind name owner : List ℕ) (names : List (List ℕ)) → List ℕ
declared_in_function kind name owner names =
    codes "FAILED_PRECONDITION: Attempted to declare " ++ (kind ++ (codes " with name '" ++ (name ++
    (codes "' multiple times in function '" ++ (owner ++ (codes "'. Already defined: [" ++ (listed_names names ++ codes "]")))))))

-- A name may be declared in a function unless it is one of those taken.
abbrev pub unless_taken_in_function : (kind name : List ℕ) → Bench → VastFunction → Result (Unit {0}) (List ℕ)
unless_taken_in_function kind name b f = if is_among (names_of_function b f) name then Err (declared_in_function kind name (own_name_of b f) (names_of_function b f)) else Ok tt
