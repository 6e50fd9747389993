use Rattle.vast_rows.specs.Rows.{rows_view}
use Rattle.vast_rows.proofs.Bridge.{file_read}
use Rattle.vast_rows.proofs.machine.read_file.Goals as goal

pub returns : goal.returns
returns g c = file_read (rows_view c.files.result.items.now c.files.result.rows.now) c.files.ensures.page g.K.Sink.after (g.S.Source.left c.args.source.now) c.args.sink.now _ _ c.read.ensures
