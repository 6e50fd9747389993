use Rattle.vast_read.specs.Internal.Transcribed.{tree_of}
use Rattle.vast_read.specs.Internal.Transcripts.{piece_view, written_in}
use Rattle.vast_read.proofs.Transcripts.{expression_written, heard_as}
use Rattle.vast_read.proofs.transcript.hearer.Telling.expression.Goals as goal

pub returns : goal.returns
returns g c = heard_as g.H.Hearer.hears c.hear.result (piece_view c.whole.result) _ c.args.self.now.hearer _ (expression_written (tree_of (written_in c.args.spoken.told)) (piece_view c.whole.result) c.whole.ensures) c.hear.ensures
