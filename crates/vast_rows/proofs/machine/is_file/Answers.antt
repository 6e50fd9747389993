use Rattle.vast_rows.proofs.Bridge.{is_file}
use Rattle.vast_rows.proofs.machine.is_file.Goals as goal

pub returns : goal.returns
returns g c = is_file _ (g.S.Source.left c.args.source.now) _ c.read_file.ensures
