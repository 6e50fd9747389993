use Rattle.vast_list.proofs.Built.{no-lines}
use Rattle.vast_list.proofs.answering.ListRun.new.Goals as goal

pub returns-clause-built : goal.returns-clause-built
returns-clause-built c = λ again. no-lines again c.args.dialect c.new.result c.new.ensures.file c.new.ensures.answers c.new.ensures.names c.new.ensures.skipped
