use Rattle.vast_rows.proofs.Builds.{trace_builds}
use Rattle.vast_rows.proofs.laws.trace_builds.Goals as goal

pub returns : goal.returns
returns c = trace_builds
