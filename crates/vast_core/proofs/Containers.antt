-- Beside `specs/Containers.antt`: what proofs alone say.
use Rattle.std.specs.Prelude.{Bool, Some}
use Rattle.vast_core.specs.Nests.{NestRecord}
use Rattle.vast_core.specs.Internal.Containers.{Fresh, no_fresh}

abbrev pub fresh_container : NestRecord → Bool → Fresh
fresh_container n block = record no_fresh { container = Some n; block = block }
