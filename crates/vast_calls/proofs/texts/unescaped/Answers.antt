use Rattle.vast_calls.proofs.Quoted.{letter_front, u_result}
use Rattle.vast_calls.proofs.texts.unescaped.Goals as goal

pub returns-then-letter-eq117 : goal.returns-then-letter-eq117
returns-then-letter-eq117 c = u_result c.args.rest.now c.in-Some.behind.now c.in-Some.letter c.code.result c.in-Some.ensures c.if-letter-eq117.true c.code.ensures

pub returns-in-Some-meaning : goal.returns-in-Some-meaning
returns-in-Some-meaning c = letter_front _ _ _ _ c.in-Some.ensures c.in-Some-meaning.ensures
