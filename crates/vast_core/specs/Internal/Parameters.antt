-- Beside `specs/Parameters.antt`: what private contracts and proofs say, and no public one.
use Rattle.std.specs.Prelude.{◌≡◌, ℕ, List, Option, IfSome}
use Rattle.vast_literal.specs.Tree.{NameTree}
use Rattle.vast_core.specs.Handles.{VastDataType}
use Rattle.vast_core.specs.Nodes.{maybe_type_in}
use Rattle.vast_core.specs.Records.{ParameterForm}
use Rattle.vast_core.specs.Bench.{Bench, OwnsType}
use Rattle.vast_core.specs.Parameters.{form_name}

-- The name and the type that are those of what the form declares; the type is the file's.
abbrev pub IsDeclaredBy : Bench → ParameterForm → List ℕ × Option VastDataType → Type 0
IsDeclaredBy b form declared = (NameTree declared.0 (maybe_type_in b.nodes declared.1) ≡ form_name b form) × IfSome declared.1 (OwnsType b)
