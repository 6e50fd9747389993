-- What a file holds after a call that makes an artifact, a definition or an instantiation, and the handle of it.
use Rattle.std.specs.Prelude.{[], ◌∷◌, ◌++◌, length}
use Rattle.vast_core.specs.Handles.{Id, Def, Instantiation, VastStatement}
use Rattle.vast_core.specs.Records.{Definition, Artifact, InstanceRecord}
use Rattle.vast_core.specs.Bench.{Bench}
use Rattle.vast_core.specs.Growth.{next_id}

-- The handle of the next definition.
abbrev pub next_def : Bench → Def
next_def b = record { id = next_id b (length b.definitions) }

-- A definition more.
abbrev pub with_definition : Definition → Bench → Bench
with_definition d b = record b { definitions = b.definitions ++ d ∷ [] }

-- The id of the next comment, blank line, text or use of a macro.
abbrev pub next_artifact : Bench → Id
next_artifact b = next_id b (length b.artifacts)

-- A comment, blank line, text or use of a macro more.
abbrev pub with_artifact : Artifact → Bench → Bench
with_artifact a b = record b { artifacts = b.artifacts ++ a ∷ [] }

abbrev pub next_instantiation : Bench → Instantiation
next_instantiation b = record { id = next_id b (length b.instances) }

-- An instantiation more.
abbrev pub with_instance : InstanceRecord → Bench → Bench
with_instance i b = record b { instances = b.instances ++ i ∷ [] }

abbrev pub next_statement : Bench → VastStatement
next_statement b = record { id = next_id b (length b.assignments) }
