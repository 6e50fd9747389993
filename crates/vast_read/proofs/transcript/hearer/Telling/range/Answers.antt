use Rattle.std.proofs.Common.{◌∙◌}
use Rattle.vast_read.specs.Internal.Transcribed.{tree_of}
use Rattle.vast_read.specs.Internal.Transcripts.{piece_view, written_in}
use Rattle.vast_read.proofs.Transcripts.{header_written, heard_as}
use Rattle.vast_read.proofs.transcript.hearer.Telling.range.Goals as goal

pub returns : goal.returns
returns g c =
    let told = header_written c.args.variable.now (tree_of (written_in c.args.start.told)) (tree_of (written_in c.args.end.told)) (written_in c.args.start.told) (piece_view c.whole.result) (written_in c.add.new.self) (written_in c.say.new.self)
    c.args.start.whole c.whole.ensures c.in_ok-add.ensures c.in_ok-say.ensures in
    heard_as g.H.Hearer.hears c.hear.result (piece_view c.whole-2.result) _ c.args.self.now.hearer _ (c.whole-2.ensures ∙ told) c.hear.ensures
