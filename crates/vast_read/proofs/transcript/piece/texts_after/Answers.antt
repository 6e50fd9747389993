use Rattle.vast_read.proofs.TextsCompared.{too_short, other_front, same_front}
use Rattle.vast_read.proofs.transcript.piece.texts_after.Goals as goal

pub returns-then-texts-front : goal.returns-then-texts-front
returns-then-texts-front c = λ ws. too_short c.args.texts.now c.args.front.now ws c.if-texts-front.true

pub returns-then-same_texts : goal.returns-then-same_texts
returns-then-same_texts c = same_front c.args.texts.now c.split_at.result.0.now c.split_at.result.1.now c.args.front.now c.split_at.ensures.by_index.0 c.if-same_texts.ensures

pub returns-else-same_texts : goal.returns-else-same_texts
returns-else-same_texts c = λ ws. other_front c.args.texts.now c.split_at.result.0.now c.split_at.result.1.now c.args.front.now ws c.split_at.ensures.by_index.0 c.split_at.ensures.front_len c.if-same_texts.ensures
