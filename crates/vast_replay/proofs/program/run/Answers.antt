use Rattle.vast_replay.proofs.Inputs.{prints_input}
use Rattle.vast_replay.proofs.program.run.Goals as goal

pub returns-in-Ok-clause-printed : goal.returns-in-Ok-clause-printed
returns-in-Ok-clause-printed g c = λ made texts.
    prints_input (g.R.Read.remaining c.args.input.now) (g.R.Read.remaining c.read.new.input) (g.W.Write.contents c.args.out.now) (g.W.Write.contents c.answer_taken.new.out) c.in-Ok.taken
    (c.in-Ok.ensures.taken texts) (c.answer_taken.ensures.printed made texts.form)
