-- The names that a module declares: each once, and those are the names that are taken in it.
use Rattle.std.specs.Prelude.{◌≡◌, ℕ, ◌≤◌, List, [], ◌∷◌, ◌++◌, flat_map, count_by, Option, Some, None, slice_get}
use Rattle.std.specs.Str.{bytes_eq}
use Rattle.vast_core.specs.Handles.{ModulePort}
use Rattle.vast_core.specs.Records.{Port, ModuleRecord, Member, DeclarationEntry, FunctionEntry}
use Rattle.vast_core.specs.Nests.{FunctionRecord}

abbrev pub name_of_port : Option Port → List ℕ
name_of_port None = []
name_of_port (Some p) = p.name

abbrev pub name_of_function : Option FunctionRecord → List ℕ
name_of_function None = []
name_of_function (Some f) = f.name

abbrev pub names_by_port : List Port → ModulePort → List (List ℕ)
names_by_port ports p = name_of_port (slice_get ports p.id.index) ∷ []

-- A wire, reg or logic declares its name, and a function its own.
abbrev pub names_by_member : List FunctionRecord → Member → List (List ℕ)
names_by_member functions (DeclarationEntry kind name data_type) = name ∷ []
names_by_member functions (FunctionEntry f) = name_of_function (slice_get functions f.id.index) ∷ []
names_by_member functions _ = []

-- The names of the module's ports, and those of its wires, regs, logics, variables and functions.
abbrev pub names_declared : List Port → List FunctionRecord → ModuleRecord → List (List ℕ)
names_declared ports functions m = flat_map (names_by_port ports) m.ports ++ flat_map (names_by_member functions) m.members

-- How often the name stands in the list.
abbrev pub times : List ℕ → List (List ℕ) → ℕ
times name names = count_by (bytes_eq name) names

-- The names that the module declares are those that are taken, each once.
pub record NamesSound (ports : List Port) (functions : List FunctionRecord) (m : ModuleRecord) : Type 0 where
  pub taken : (name : List ℕ) → times name (names_declared ports functions m) ≡ times name m.names
  pub once : (name : List ℕ) → times name m.names ≤ 1
