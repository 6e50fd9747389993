use Rattle.vast_rows.proofs.Builds.{trace_is_one}
use Rattle.vast_rows.proofs.laws.trace_is_one.Goals as goal

pub returns : goal.returns
returns c = trace_is_one
