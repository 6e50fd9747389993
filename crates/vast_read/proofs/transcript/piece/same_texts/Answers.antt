use Rattle.vast_read.proofs.TextsCompared.{texts_told}
use Rattle.vast_read.proofs.transcript.piece.same_texts.Goals as goal

pub returns : goal.returns
returns c = texts_told c.args.texts.now c.args.others.now c.eq.result c.eq.ensures
