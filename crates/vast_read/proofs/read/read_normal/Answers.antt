use Rattle.vast_read.proofs.TextDecides.{file_derives, none_derives, file_read_back}
use Rattle.vast_read.proofs.read.read_normal.Goals as goal

pub returns-clause-derived : goal.returns-clause-derived
returns-clause-derived c = file_derives c.args.text.now c.file_in.result c.file_in.ensures

pub returns-clause-none : goal.returns-clause-none
returns-clause-none c = none_derives c.args.text.now c.file_in.result c.file_in.ensures

pub returns-clause-read_back : goal.returns-clause-read_back
returns-clause-read_back c = file_read_back c.args.text.now c.file_in.result c.file_in.ensures
