use Rattle.vast_list.proofs.Built.{calls-named}
use Rattle.vast_list.proofs.laws.calls_are_named.Goals as goal

pub returns : goal.returns
returns c = λ again dialect lines read h. calls-named again dialect lines read h
