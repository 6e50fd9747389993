-- Names that a module has taken, and the refusal of one of them.
use Rattle.std.specs.Prelude.{ℕ, List, ◌++◌, Result, Ok, Err, codes, slice_get, if◌then◌else◌}
use Rattle.std.specs.List.{join_by}
use Rattle.vast_literal.specs.Keyword.{is_among}
use Rattle.vast_core.specs.declared.handle.VastModule.{VastModule}
use Rattle.vast_core.specs.Bench.{Bench, names_of}

-- The names of a module's ports, wires, variables and functions, in the order of their bytes.
abbrev pub names_in : Bench → VastModule → List (List ℕ)
names_in b m = names_of (slice_get b.modules m.id.index)

-- The names, with a comma and a space between each two.
abbrev pub listed_names : List (List ℕ) → List ℕ
listed_names names = join_by (λ name. name) (codes ", ") names

-- The words that refuse a declaration of this kind, and name all that the module has.
unfoldable pub already_declared : (kind name : List ℕ) (names : List (List ℕ)) → List ℕ
already_declared kind name names =
    codes "FAILED_PRECONDITION: Attempted to declare " ++ (kind ++ (codes " with name '" ++ (name ++
    (codes "' multiple times in the same module. Already defined: [" ++ (listed_names names ++ codes "]")))))

-- A name may be declared unless it is one of those taken.
abbrev pub unless_taken : (kind name : List ℕ) (names : List (List ℕ)) → Result (Unit {0}) (List ℕ)
unless_taken kind name names = if is_among names name then Err (already_declared kind name names) else Ok tt
