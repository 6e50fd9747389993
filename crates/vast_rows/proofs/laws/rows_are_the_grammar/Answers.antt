use Rattle.vast_rows.proofs.Bridge.{rows_are_so}
use Rattle.vast_rows.proofs.laws.rows_are_the_grammar.Goals as goal

pub returns : goal.returns
returns c = rows_are_so
